-- Tests as values: that one passes or fails, that two pass alike, and equal numbers. Assumes nothing.
use Rattle.std.specs.Prelude.{◌≡◌, refl, ◌≢◌, Bool, true, false, ℕ, T, eqb}
use Rattle.std.proofs.Common.{eqb→eq}
use Rattle.laws.specs.Decide.{equals}

pub alike : (x y : Bool) → (T x → T y) → (T y → T x) → x ≡ y
alike true true f g = refl
alike true false f g = absurd (f tt)
alike false true f g = absurd (g tt)
alike false false f g = refl

pub passes : (b : Bool) → T b → b ≡ true
passes true t = refl
passes false t = absurd t

pub fails : (b : Bool) → (T b → ⊥) → b ≡ false
fails true f = absurd (f tt)
fails false f = refl

-- ---- equal numbers
pub eqb_yes : (m n : ℕ) → m ≡ n → eqb m n ≡ true
eqb_yes m n e = passes (eqb m n) ((equals m n).full e)

pub eqb_no : (m n : ℕ) → m ≢ n → eqb m n ≡ false
eqb_no m n h = fails (eqb m n) (λ t. h (eqb→eq m n t))
