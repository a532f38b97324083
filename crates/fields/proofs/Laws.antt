-- Numbers of n bytes: one byte more, their range, two's complement. One law for every width. Assumes nothing.
use mathlib.Core.Path.{◌≡◌, refl, sym, ap, ap₂, ◌∙◌}
use mathlib.Core.Bool.{Bool, true, false}
use mathlib.Core.List.{List}
use Prim.Native.Nat.{ℕ, ◌+◌, ◌*◌, ◌-◌, ◌≤◌, ◌<◌, ◌^◌}
use native.Mathlib.Nat.{pow-le-pow_right}
use native.Mathlib.Numerals.{add-one}
use native.Mathlib.Omega.{arith}
use lib.ListN.{length, get_or, take, drop}
use Rattle.std.proofs.lemmas.List.{length-take, length-drop, get_or-take, get_or-drop}
use lib.Dec.{leb, ltb, lit<}
use lib.IntN.{ℤ, pos, ◌-ℤ◌}
use mir.Syntax.{w8, w32, w64}
use mir.Val.{Fits, SFits, to_z}
use mir.Facts.{to_z_pos}
use borrow.Author.Tests.{leb-true, le-leb, lt-leb, ltb-true, ltb-false, lt-ltb, le-ltb}
use Rattle.std.specs.Prelude.{if◌then◌else◌}
use Rattle.definitions.specs.Result.{Result, done, refused}
use Rattle.definitions.specs.Result as result
use Rattle.definitions.specs.Reading.{Got, big, twos, unsigned, signed}
use Rattle.laws.specs.Whole.{whole, sub_law, sfits}
use Rattle.laws.specs.Readings.{never, big-below}

-- what a call ensures of its result, where a match has told which case the result is
pub told : {A B : Type 0} (f : A → B) {x y : A} {z : B} → f x ≡ z → x ≡ y → z ≡ f y
told f p q = sym p ∙ ap f q

pub power_most : {n : ℕ} → n ≤ 4 → 256 ^ n ≤ 256 ^ 4
power_most h = pow-le-pow_right (lit< tt) h

module _ (s : List ℕ) (at : ℕ) where
  pub big_none : big s at 0 ≡ 0
  unfolding big
  big_none = refl

  pub big-more : (n : ℕ) → 256 * big s at n + get_or s (at + n) 0 ≡ big s at (n + 1)
  unfolding big
  big-more n = rw add-one

  -- the bytes of the field, one by one
  module _ (n : ℕ) (room : at + n ≤ length s) where
    pub part-length : length (take (at + n - at) (drop at s)) ≡ n
    part-length = simp (length-take, length-drop) (omega arith)

    pub part_read : {i : ℕ} → i < length (take (at + n - at) (drop at s)) → get_or (take (at + n - at) (drop at s)) i 0 ≡ get_or s (at + i) 0
    part_read {i} h =
        let k : i < at + n - at = omega (arith, part-length) in
        get_or-take (at + n - at) (drop at s) i 0 k ∙ get_or-drop at s i 0

  -- what is computed on the way fits
  pub big_room : ((i : ℕ) → Fits w8 (get_or s i 0)) → (n : ℕ) → n < 4 → (get_or s (at + n) 0 < 256) × (256 * big s at n + get_or s (at + n) 0 < 256 ^ 4)
  big_room byte n h =
      omega (arith, byte (at + n), big-more n, big-below s (λ i. (byte i).fits) at (n + 1), power_most {n = n + 1} (omega arith))

-- the field where its bytes are there, and where they are not
module _ (n : ℕ) (s : List ℕ) (at : ℕ) where
  pub unsigned_there : at + n ≤ length s → done (record { value = big s at n; next = at + n }) ≡ unsigned n s at
  unfolding unsigned
  unsigned_there h = rw (le-leb _ _ h)

  pub unsigned_missing : length s < at + n → refused 8 at ≡ unsigned n s at
  unfolding unsigned
  unsigned_missing h = rw (lt-leb _ _ h)

  pub unsigned_got : {g : Got ℕ} → unsigned n s at ≡ done g → (g ≡ record { value = big s at n; next = at + n }) × (at + n ≤ length s)
  unfolding unsigned
  unsigned_got {g} = go (leb (at + n) (length s)) refl
    where
      go : (t : Bool) → leb (at + n) (length s) ≡ t → (if t then done (record { value = big s at n; next = at + n }) else refused 8 at) ≡ done g
          → (g ≡ record { value = big s at n; next = at + n }) × (at + n ≤ length s)
      go true e d = (cc, leb-true _ _ e)
      go false e d = never d

  pub signed_got : {g : Got ℤ} → signed n s at ≡ done g → (g ≡ record { value = twos n (big s at n); next = at + n }) × (at + n ≤ length s)
  unfolding signed
  signed_got {g} = go (unsigned n s at) refl
    where
      go : (m : Result (Got ℕ)) → unsigned n s at ≡ m → result.◌>>=◌ m (λ h. done (record { value = twos n h.value; next = h.next })) ≡ done g
          → (g ≡ record { value = twos n (big s at n); next = at + n }) × (at + n ≤ length s)
      go (done h) e d = let u = unsigned_got e in (cc (ap {B = Got ℤ} (λ h. record { value = twos n h.value; next = h.next }) u.0), u.1)
      go (refused why p) e d = never d

-- two's complement, as it is computed
module _ (n v : ℕ) (few : n ≤ 4) (below : v < 256 ^ n) where
  pub low_fits : 2 * v < 256 ^ n → SFits w32 (pos v)
  low_fits h = sfits (omega (arith, power_most few))

  pub twos_low : 2 * v < 256 ^ n → to_z w32 v ≡ twos n v
  unfolding twos
  twos_low h = rw (lt-ltb _ _ h) (to_z_pos w32 {n = v} (omega (arith, power_most few)))

  pub twos-high : 256 ^ n ≤ 2 * v → to_z w64 v -ℤ to_z w64 (256 ^ n) ≡ twos n v
  unfolding twos
  twos-high h =
      ap₂ ◌-ℤ◌ (to_z_pos w64 {n = v} (omega (arith, power_most few))) (to_z_pos w64 {n = 256 ^ n} (omega (arith, power_most few)))
      ∙ rw (le-ltb _ _ h, lt-ltb _ _ below) (omega (whole, sub_law (pos v) (pos (256 ^ n))))

  pub twos_fits : SFits w32 (twos n v)
  unfolding twos
  twos_fits = go (ltb (2 * v) (256 ^ n)) refl
    where
      go : (b : Bool) → ltb (2 * v) (256 ^ n) ≡ b → SFits w32 (twos n v)
      go true e = rw e (low_fits (ltb-true _ _ e))
      go false e = rw (e, lt-ltb _ _ below) (sfits (omega (arith, power_most few, ltb-false (2 * v) (256 ^ n) e)))
