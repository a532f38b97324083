-- The numbers of a clause list as text: by sign, one after another, and how long they are at most. Assumes nothing.
use Rattle.std.specs.Prelude.{◌≡◌, refl, ℕ, zero, suc, ◌+◌, ◌*◌, ◌≤◌, ◌<◌, length, get_or, drop, ℤ, pos, negsuc, nat_abs, ◌<ℤ◌, ◌≤ℤ◌}
use Rattle.std.proofs.Common.{sym, ap, ◌∙◌, add-one, arith, length-append, drop_of_length-le, drop-cons}
use mathlib.Core.List.{List, [], ◌∷◌, ◌++◌, map, flatten}
use Rattle.definitions.specs.Dimacs.{decimal, digits, entry}
use Rattle.laws.specs.Whole.{whole}
use Rattle.text.specs.Lines.{with_end}
use Rattle.laws.specs.Decimals.{digits-length}

above : (z : ℤ) → pos 0 <ℤ z → entry z ≡ with_end (nat_abs z) 32
unfolding entry
above (pos zero) h = absurd (omega whole)
above (pos (suc v)) h = refl
above (negsuc v) h = absurd (omega whole)

below : (z : ℤ) → z <ℤ pos 0 → entry z ≡ 45 ∷ with_end (nat_abs z) 32
unfolding entry
below (pos n) h = absurd (omega whole)
below (negsuc v) h = refl

-- by sign, m the number without it
module _ (z : ℤ) (m : ℕ) (e : m ≡ nat_abs z) where
  pub entry-above : pos 0 <ℤ z → entry z ≡ with_end m 32
  entry-above h = above z h ∙ ap (λ n. with_end n 32) (sym e)

  pub entry-below : z <ℤ pos 0 → entry z ≡ 45 ∷ with_end m 32
  entry-below h = below z h ∙ ap (λ n. 45 ∷ with_end n 32) (sym e)

pub entry_zero : (z : ℤ) → z ≤ℤ pos 0 → pos 0 ≤ℤ z → entry z ≡ with_end 0 10
unfolding entry digits
entry_zero (pos zero) h g = refl
entry_zero (pos (suc n)) h g = absurd (omega whole)
entry_zero (negsuc v) h g = absurd (omega whole)

-- ---- one after another
abbrev pub entries : List ℤ → List ℕ
entries list = flatten (map entry list)

pub entries-more : (list : List ℤ) (i : ℕ) (d : ℤ) → i < length list → entries (drop i list) ≡ entry (get_or list i d) ++ entries (drop (i + 1) list)
unfolding flatten
entries-more list i d h = ap entries (drop-cons list i d h) ∙ ap (λ k. entry (get_or list i d) ++ entries (drop k list)) (sym (add-one i))

pub entries_none : (list : List ℤ) (i : ℕ) → length list ≤ i → entries (drop i list) ≡ []
unfolding flatten
entries_none list i h = ap entries (drop_of_length-le list h)

-- ---- how long
entry_length : (z : ℤ) → length (entry z) ≤ 22
unfolding entry
entry_length (pos zero) = omega arith
entry_length (pos (suc v)) = omega (arith, length-append (decimal (suc v)) (32 ∷ []), digits-length 19 (suc v))
entry_length (negsuc v) = omega (arith, length-append (decimal (suc v)) (32 ∷ []), digits-length 19 (suc v))

pub entries-length : (list : List ℤ) → length (entries list) ≤ 22 * length list
unfolding flatten
entries-length [] = omega arith
entries-length (z ∷ list) = omega (arith, length-append (entry z) (entries list), entry_length z, entries-length list)
