-- A number below 2^31 as a signed number, and with a minus in front. Assumes nothing.
use Rattle.std.specs.Prelude.{◌≡◌, ℕ, ◌^◌, ◌<◌, pos, ◌-ℤ◌}
use Rattle.std.proofs.Common.{ap, ◌∙◌, arith, SFits, to_z, of_z, to_z-of_z}
use Rattle.std.specs.Int.{w32}
use Rattle.std.proofs.Math.Facts.{to_z_pos}
use Rattle.definitions.specs.Tools.{neg}
use Rattle.laws.specs.Whole.{abs_fits, abs_sub, zero-sub}

module _ (n : ℕ) (h : n < 2 ^ 31) where
  pub plus_is : to_z w32 n ≡ pos n
  plus_is = to_z_pos w32 {n = n} h

  pub minus_fits : SFits w32 (pos 0 -ℤ to_z w32 n)
  minus_fits = rw plus_is (abs_fits (omega (arith, abs_sub (pos 0) (pos n))))

  pub minus_is : to_z w32 (of_z w32 (pos 0 -ℤ to_z w32 n)) ≡ neg n
  minus_is = to_z-of_z minus_fits ∙ ap (λ z. pos 0 -ℤ z) plus_is ∙ zero-sub (pos n)
