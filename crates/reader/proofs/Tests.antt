-- A test `a < b` of signed numbers, as the definitions have it. Assumes nothing.
use mathlib.Core.Path.{◌≡◌, refl}
use mathlib.Core.Bool.{Bool, true, false, not}
use Prim.Native.Nat.{◌<◌, ◌^◌}
use lib.IntN.{ℤ}
use lib.Signed.{mag, le_z, lt_z}
use mir.Syntax.{Width, w32}
use mir.Val.{SFits, to_z, of_z}
use mir.Facts.{to_z-of_z}
use Rattle.laws.specs.Whole.{whole}

-- the range of a number that a pattern binds
pub bound_fits : (z : ℤ) → mag z < 2 ^ 31 → SFits w32 z
bound_fits z h = record { sfits = h }

below : (a b : ℤ) (t : Bool) → lt_z a b ≡ t → le_z b a ≡ not t
below a b t e = go (le_z b a) refl t e
  where
    go : (u : Bool) → le_z b a ≡ u → (t : Bool) → lt_z a b ≡ t → le_z b a ≡ not t
    go true d true e = absurd (omega whole)
    go true d false e = d
    go false d true e = d
    go false d false e = absurd (omega whole)

pub tested : {w : Width} {a b : ℤ} → SFits w a → SFits w b → {t : Bool} → lt_z (to_z w (of_z w a)) (to_z w (of_z w b)) ≡ t → le_z b a ≡ not t
tested {w} {a} {b} f g {t} e = below a b t (rw (to_z-of_z f, to_z-of_z g) at e)
