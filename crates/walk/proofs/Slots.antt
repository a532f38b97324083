-- What the code of a slot computes fits its type. Assumes nothing.
use mathlib.Core.Path.{◌≡◌, refl, ap, ap₂, ◌∙◌}
use mathlib.Core.Logic.{⊎_elim}
use Prim.Native.Nat.{◌≤◌}
use native.Mathlib.Omega.{arith}
use lib.IntN.{ℤ, pos, nat_abs, ◌+ℤ◌, ◌-ℤ◌, ◌*ℤ◌}
use lib.Signed.{◌≤ℤ◌, ◌<ℤ◌}
use mir.Syntax.{w32}
use mir.Val.{SFits, to_z}
use mir.Facts.{to_z_pos}
use Rattle.definitions.specs.Tools.{floor, ceil, neg, size}
use Rattle.laws.specs.Whole.{whole, add_law, sub_law, part_law, abs_law, abs_le, abs_mul_le, abs_add, abs_sub, lt_test, ge_test, le_or_lt, mul_rises, mul_falls}
use Rattle.laws.specs.Tuples.{Ordered}
use Rattle.laws.specs.Division.{floor-within, ceil-within, abs_ceil}
use Rattle.walk.specs.declared.Slot.{Slot}
use Rattle.walk.specs.declared.Range.{Range}
use Rattle.walk.specs.declared.Place.{Place}
use Rattle.walk.proofs.Fits.{Small, small, fits}
use Rattle.walk.specs.Comparisons.{placed}
use Rattle.walk.specs.Slots.{FairSlot, value_bounds, slot_bounds, order_number, slot_literal}

module _ (s : Slot) (f : FairSlot s) where
  pub coefficient-small : Small s.coefficient
  coefficient-small = omega arith

  pub lower_small : Small s.lower
  lower_small = omega arith

  pub upper_small : Small s.upper
  upper_small = omega arith

  pub at_lower : Small (s.coefficient *ℤ s.lower)
  at_lower = omega (arith, abs_mul_le s.coefficient s.lower 64 4096 f.few f.lowest)

  pub at_upper : Small (s.coefficient *ℤ s.upper)
  at_upper = omega (arith, abs_mul_le s.coefficient s.upper 64 4096 f.few f.highest)

  pub first_small : Small (pos s.first)
  first_small = omega arith

  pub first_is : to_z w32 s.first ≡ pos s.first
  first_is = to_z_pos w32 (omega arith)

pub ruleset slot_fits = (fits, coefficient-small, lower_small, upper_small, at_lower, at_upper)

pub rising : (s : Slot) → pos 0 <ℤ s.coefficient
    → (s.coefficient *ℤ s.lower -ℤ pos 1 ≡ (slot_bounds s).lo) × (s.coefficient *ℤ s.upper ≡ (slot_bounds s).hi)
unfolding slot_bounds value_bounds
rising s h = rw (lt_test (pos 0) s.coefficient h) (refl, refl)

pub falling : (s : Slot) → s.coefficient ≤ℤ pos 0
    → (s.coefficient *ℤ s.upper -ℤ pos 1 ≡ (slot_bounds s).lo) × (s.coefficient *ℤ s.lower ≡ (slot_bounds s).hi)
unfolding slot_bounds value_bounds
falling s h = rw (ge_test (pos 0) s.coefficient h) (refl, refl)

pub slot_ordered : (s : Slot) → FairSlot s → Ordered (slot_bounds s)
slot_ordered s f = ⊎_elim (λ h. below s.upper s.lower (mul_falls s.coefficient s.lower s.upper h f.ordered) (falling s h)) (λ h. below s.lower s.upper (mul_rises s.coefficient s.lower s.upper h f.ordered) (rising s h)) (le_or_lt s.coefficient (pos 0))
  where
    below : (x y : ℤ) → (s.coefficient *ℤ x) ≤ℤ (s.coefficient *ℤ y) → (s.coefficient *ℤ x -ℤ pos 1 ≡ (slot_bounds s).lo) × (s.coefficient *ℤ y ≡ (slot_bounds s).hi) → Ordered (slot_bounds s)
    below x y h e = omega (whole, sub_law (s.coefficient *ℤ x) (pos 1))

-- ---- the number of p(x,c)
module _ (s : Slot) (c : ℤ) (f : FairSlot s) (low : (s.lower -ℤ pos 1) ≤ℤ c) (high : c ≤ℤ s.upper) where
  above_lower : nat_abs (c -ℤ s.lower) ≤ 8192
  above_lower = abs_le (c -ℤ s.lower) (omega (whole, sub_law c s.lower, sub_law s.lower (pos 1), abs_law s.lower, abs_law s.upper))

  pub from_lower : Small (c -ℤ s.lower)
  from_lower = omega (arith, above_lower)

  pub before-number : Small (pos s.first +ℤ (c -ℤ s.lower))
  before-number = omega (arith, f.numbered, above_lower, abs_add (pos s.first) (c -ℤ s.lower))

  pub number_is : pos s.first +ℤ (c -ℤ s.lower) +ℤ pos 1 ≡ pos (order_number s c)
  unfolding order_number
  number_is =
      let d = c -ℤ s.lower in
      omega (whole, add_law (pos s.first) d, add_law (pos s.first +ℤ d) (pos 1), add_law d (pos 1), part_law (d +ℤ pos 1), sub_law c s.lower, sub_law s.lower (pos 1))

  pub number_small : Small (pos (order_number s c))
  number_small = omega (arith, f.numbered, above_lower, ap nat_abs number_is, abs_add (pos s.first) (c -ℤ s.lower), abs_add (pos s.first +ℤ (c -ℤ s.lower)) (pos 1))

pub ruleset number_fits = (fits, lower_small, first_is, first_small, from_lower, before-number)

-- ---- the literal at a bound of the slot's range
pub slot_near : (s : Slot) → FairSlot s → (nat_abs (slot_bounds s).lo ≤ 262145) × (nat_abs (slot_bounds s).hi ≤ 262144)
slot_near s f = ⊎_elim (λ h. near s.upper s.lower f.highest f.lowest (falling s h)) (λ h. near s.lower s.upper f.lowest f.highest (rising s h)) (le_or_lt s.coefficient (pos 0))
  where
    near : (x y : ℤ) → nat_abs x ≤ 4096 → nat_abs y ≤ 4096 → (s.coefficient *ℤ x -ℤ pos 1 ≡ (slot_bounds s).lo) × (s.coefficient *ℤ y ≡ (slot_bounds s).hi)
        → (nat_abs (slot_bounds s).lo ≤ 262145) × (nat_abs (slot_bounds s).hi ≤ 262144)
    near x y hx hy e =
        let at_x = abs_mul_le s.coefficient x 64 4096 f.few hx in
        let at_y = abs_mul_le s.coefficient y 64 4096 f.few hy in
        omega (arith, ap nat_abs e.0, ap nat_abs e.1, abs_sub (s.coefficient *ℤ x) (pos 1))

module _ {s : Slot} {b : ℤ} (h : FairSlot s × ((slot_bounds s).lo ≤ℤ b) × (b ≤ℤ (slot_bounds s).hi)) where
  bound_near : nat_abs b ≤ 262145
  bound_near = abs_le b (omega (whole, h.1, h.2, slot_near s h.0, abs_law (slot_bounds s).lo, abs_law (slot_bounds s).hi))

  pub bound-small : nat_abs b ≤ 1000000
  bound-small = omega (arith, bound_near)

  pub ceil-small : {c : ℤ} → c ≡ ceil b s.coefficient → Small c
  ceil-small e = omega (arith, bound_near, ap nat_abs e, abs_ceil b s.coefficient)

  pub floor_inside : {c : ℤ} → c ≡ floor b s.coefficient → pos 0 <ℤ s.coefficient → ((s.lower -ℤ pos 1) ≤ℤ c) × (c ≤ℤ s.upper)
  floor_inside e g = let r = rising s g in rw e (floor-within s.coefficient s.lower s.upper b g (rw r.0 h.1) (rw r.1 h.2))

  pub ceil_inside : {c : ℤ} → c ≡ ceil b s.coefficient → s.coefficient <ℤ pos 0 → ((s.lower -ℤ pos 1) ≤ℤ (c -ℤ pos 1)) × ((c -ℤ pos 1) ≤ℤ s.upper)
  ceil_inside e g = let r = falling s (omega whole) in rw e (ceil-within s.coefficient s.lower s.upper b g (rw r.0 h.1) (rw r.1 h.2))

pub literal_rising : (s : Slot) (b : ℤ) → pos 0 <ℤ s.coefficient → slot_literal s b ≡ pos (order_number s (floor b s.coefficient))
unfolding slot_literal
literal_rising s b h = rw (lt_test (pos 0) s.coefficient h)

pub literal_falling : (s : Slot) (b : ℤ) → s.coefficient <ℤ pos 0 → slot_literal s b ≡ neg (order_number s (ceil b s.coefficient -ℤ pos 1))
unfolding slot_literal
literal_falling s b h = rw (ge_test (pos 0) s.coefficient (omega whole))

-- ---- the range as the code has it
module _ (r : Range) (s : Slot) (f : FairSlot s) (e : (r.lo ≡ (slot_bounds s).lo) × (r.hi ≡ (slot_bounds s).hi)) where
  pub low_near : nat_abs r.lo ≤ 262145
  low_near = omega (arith, ap nat_abs e.0, slot_near s f)

  pub low_fits : SFits w32 r.lo
  low_fits = small _ (omega (arith, low_near))

  pub high_fits : SFits w32 r.hi
  high_fits = small _ (omega (arith, ap nat_abs e.1, slot_near s f))

  span_near : nat_abs (r.hi -ℤ r.lo) ≤ 524290
  span_near = omega (arith, abs_sub r.hi r.lo, low_near, ap nat_abs e.1, slot_near s f)

  pub span_fits : SFits w32 (r.hi -ℤ r.lo)
  span_fits = small _ (omega (arith, span_near))

  pub span_sign : pos 0 ≤ℤ (r.hi -ℤ r.lo)
  span_sign = omega (whole, e, slot_ordered s f, sub_law r.hi r.lo)

  pub span-placed : ◌≡◌ {A = Place} (record { lo = r.lo; k = 0; w = nat_abs (r.hi -ℤ r.lo) }) (placed (slot_bounds s))
  span-placed =
      let d : nat_abs (r.hi -ℤ r.lo) ≡ size (r.hi -ℤ r.lo) = omega (whole, abs_law (r.hi -ℤ r.lo), part_law (r.hi -ℤ r.lo), span_sign) in
      ap (λ n. record { lo = r.lo; k = 0; w = n }) d ∙ ap₂ (λ l h. record { lo = l; k = 0; w = size (h -ℤ l) }) e.0 e.1
