-- The numbers from lower - 1 on, as they are computed: nothing overflows. Assumes nothing.
use Rattle.std.proofs.Common.{◌≡◌, ap₂, ◌∙◌, ℕ, ◌≤◌, ◌<◌, arith, ℤ, pos, nat_abs, ◌+ℤ◌, ◌-ℤ◌, w32, SFits, to_z, of_z, to_z-of_z}
use mir.Facts.{to_z_pos}
use Rattle.laws.specs.Whole.{abs_add, abs_sub, abs_fits}

module _ (lower : ℤ) (h : nat_abs lower ≤ 4096) where
  pub below_fits : SFits w32 (lower -ℤ pos 1)
  below_fits = abs_fits (omega (arith, abs_sub lower (pos 1)))

  module _ (i : ℕ) (k : i < 8193) where
    abbrev sum : ℤ
    sum = to_z w32 (of_z w32 (lower -ℤ pos 1)) +ℤ to_z w32 i

    sum_is : sum ≡ (lower -ℤ pos 1) +ℤ pos i
    sum_is = ap₂ ◌+ℤ◌ (to_z-of_z below_fits) (to_z_pos w32 {n = i} (omega arith))

    pub sum_fits : SFits w32 sum
    sum_fits = rw sum_is (abs_fits (omega (arith, abs_add (lower -ℤ pos 1) (pos i), abs_sub lower (pos 1))))

    pub number_is : to_z w32 (of_z w32 sum) ≡ (lower -ℤ pos 1) +ℤ pos i
    number_is = to_z-of_z sum_fits ∙ sum_is
