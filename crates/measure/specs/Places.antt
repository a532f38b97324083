-- Three places that the counting formula takes, and those of a comparison. Assumes nothing.
use Rattle.std.specs.Prelude.{ℕ, suc, ◌<◌, ◌^◌, get_or}
use Rattle.definitions.specs.Tools.{size}
use Rattle.laws.specs.Tuples.{no_term}
use Rattle.walk.specs.declared.Comparison.{Comparison}
use Rattle.walk.specs.Comparisons.{over_least, padded_ranges, placed}

-- none is empty, and nothing overflows
pub record Places (u a b c : ℕ) : Type 0 where
  pub sum : 0 < u
  pub small : u < 2 ^ 21
  pub first : (0 < a) × (a < 2 ^ 21)
  pub second : (0 < b) × (b < 2 ^ 21)
  pub third : (0 < c) × (c < 2 ^ 21)

-- the sum of a tuple's offsets and 1 more
unfoldable pub over : Comparison → ℕ
over c = suc (size (over_least c))

-- the width of the j-th of three places and 1 more
unfoldable pub wide : Comparison → ℕ → ℕ
wide c j = suc (placed (get_or (padded_ranges c) j no_term)).w
