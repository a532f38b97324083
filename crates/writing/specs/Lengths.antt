-- How many bytes a number of the clause list takes, by its sign. Assumes nothing.
use Rattle.std.specs.Prelude.{◌≡◌, [], ◌∷◌, ℕ, ◌+◌, length, ℤ, pos, nat_abs, ◌<ℤ◌, ◌≤ℤ◌}
use Rattle.std.proofs.Common.{ap, ◌∙◌, arith, length-append}
use Rattle.definitions.specs.Dimacs.{decimal, entry}
use Rattle.laws.specs.Decimals.{decimal-one}
use Rattle.text.specs.Entries.{entry-above, entry-below, entry_zero}

-- by sign, m the number without it
module _ (z : ℤ) (m : ℕ) (e : m ≡ nat_abs z) where
  pub length_above : pos 0 <ℤ z → length (entry z) ≡ length (decimal m) + 1
  length_above h = ap length (entry-above z m e h) ∙ length-append (decimal m) (32 ∷ [])

  pub length-below : z <ℤ pos 0 → length (entry z) ≡ length (decimal m) + 2
  length-below h = omega (arith, ap length (entry-below z m e h), length-append (decimal m) (32 ∷ []))

pub length_zero : (z : ℤ) → z ≤ℤ pos 0 → pos 0 ≤ℤ z → length (entry z) ≡ 2
length_zero z h g = omega (arith, ap length (entry_zero z h g), length-append (decimal 0) (10 ∷ []), ap length (decimal-one 0 (omega arith)))
