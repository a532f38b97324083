-- The literal of a slot at an offset from its least bound: it rises by 1 behind each multiple of the coefficient. Assumes nothing.
use mathlib.Core.Path.{◌≡◌, refl, sym, ap, ◌∙◌}
use mathlib.Core.Logic.{⊎_elim}
use Prim.Native.Nat.{ℕ, zero, suc, ◌+◌, ◌-◌, ◌*◌, ◌≤◌, ◌<◌}
use native.Mathlib.Omega.{arith}
use native.Mathlib.Decide.{dec_le}
use lib.IntN.{ℤ, pos, negsuc, neg_ℤ, nat_abs, ◌+ℤ◌, ◌-ℤ◌, ◌*ℤ◌}
use lib.Signed.{lt_z, ◌≤ℤ◌, ◌<ℤ◌}
use Rattle.std.specs.Prelude.{if◌then◌else◌}
use Rattle.definitions.specs.Tools.{floor, ceil}
use Rattle.laws.specs.Whole.{whole, add_law, sub_law, neg_law, mul_law, mul_add, mul_neg, abs_law, part_law, le_or_lt, lt_test, ge_test}
use Rattle.laws.specs.Division.{below_floor, not-below-ceil}
use Rattle.walk.specs.declared.Slot.{Slot}
use Rattle.walk.specs.declared.Spot.{Spot}
use Rattle.walk.specs.Slots.{FairSlot, slot_bounds, slot_literal}
use Rattle.walk.specs.Rows.{Holds, raised_by, lowered_by, raised, lowered}
use Rattle.walk.proofs.Slots.{rising, falling, number_is, floor_inside, ceil_inside, literal_rising, literal_falling}

-- ---- rounding at an offset: k + r is d u
-- floor((a l - 1 + k) / a) is l + u - 1
floor-at : (a l b : ℤ) (k r u : ℕ) → pos 0 <ℤ a → b ≡ (a *ℤ l -ℤ pos 1) +ℤ pos k → k + r ≡ nat_abs a * u → r < nat_abs a → floor b a ≡ (l +ℤ pos u) -ℤ pos 1
floor-at (negsuc m) l b k r u h e t s = absurd h.lt
floor-at (pos d) l b k r u h e t s =
    let a = pos d in
    let y = l +ℤ pos u in
    let x = y +ℤ negsuc 0 in
    let m = mul_add a l (pos u) in
    let n = mul_add a y (negsuc 0) in
    let low : x ≤ℤ floor b a =
    (below_floor a b x h).0 (omega (whole, m, n, add_law (a *ℤ l) (a *ℤ pos u), add_law (a *ℤ y) (a *ℤ negsuc 0), mul_law a (negsuc 0), mul_law a (pos u), sub_law (a *ℤ l) (pos 1), add_law (a *ℤ l -ℤ pos 1) (pos k))) in
    let high : floor b a <ℤ y = ⊎_elim (λ g.
    let z = (below_floor a b y h).1 g in
    absurd (omega (whole, m, add_law (a *ℤ l) (a *ℤ pos u), mul_law a (pos u), sub_law (a *ℤ l) (pos 1), add_law (a *ℤ l -ℤ pos 1) (pos k)))) (λ g. g) (le_or_lt y (floor b a)) in
    omega (whole, low, high, add_law y (negsuc 0), sub_law y (pos 1))

-- ceil((a u - 1 + k) / a) - 1 is u - times
ceil-at : (a l b : ℤ) (k r u : ℕ) → a <ℤ pos 0 → b ≡ (a *ℤ l -ℤ pos 1) +ℤ pos k → k + r ≡ nat_abs a * u → r < nat_abs a → ceil b a -ℤ pos 1 ≡ l -ℤ pos u
ceil-at (pos d) l b k r u h e t s = absurd (omega whole)
ceil-at (negsuc d) l b k r u h e t s =
    let a = negsuc d in
    let c = ceil b a -ℤ pos 1 in
    let x = l +ℤ neg_ℤ (pos u) in
    let m = mul_add a l (neg_ℤ (pos u)) in
    let v = mul_neg a (pos u) in
    let n = mul_add a x (pos 1) in
    let low : x ≤ℤ c = ⊎_elim (λ g. g) (λ g.
    let z = (not-below-ceil a b x h).1 (λ q. omega (whole, g, q)) in
    absurd (omega (whole, z, m, v, add_law (a *ℤ l) (a *ℤ neg_ℤ (pos u)), mul_law (pos (suc d)) (pos u), sub_law (a *ℤ l) (pos 1), add_law (a *ℤ l -ℤ pos 1) (pos k)))) (le_or_lt x c) in
    let high : c <ℤ (x +ℤ pos 1) = ⊎_elim (λ g.
    absurd ((not-below-ceil a b (x +ℤ pos 1) h).0 (omega (whole, m, v, n, add_law (a *ℤ l) (a *ℤ neg_ℤ (pos u)), add_law (a *ℤ x) (a *ℤ pos 1), mul_law a (pos 1), mul_law (pos (suc d)) (pos u), sub_law (a *ℤ l) (pos 1), add_law (a *ℤ l -ℤ pos 1) (pos k))) g)) (λ g. g) (le_or_lt (x +ℤ pos 1) c) in
    omega (whole, low, high, add_law l (neg_ℤ (pos u)), neg_law (pos u), add_law x (pos 1), sub_law l (pos u))

-- ---- the literal at an offset
unfoldable pub base_of : Slot → ℤ
base_of s = if lt_z (pos 0) s.coefficient then pos s.first else neg_ℤ ((pos s.first +ℤ (s.upper -ℤ s.lower)) +ℤ pos 1)

abbrev pub bound : Slot → ℕ → ℤ
bound s k = (slot_bounds s).lo +ℤ pos k

abbrev pub Within : Slot → ℕ → Type 0
Within s k = bound s k ≤ℤ (slot_bounds s).hi

module _ (s : Slot) (f : FairSlot s) (k r u : ℕ) (t : k + r ≡ nat_abs s.coefficient * u) (h : r < nat_abs s.coefficient) (top : Within s k) where
  rising_literal : pos 0 <ℤ s.coefficient → slot_literal s (bound s k) ≡ base_of s +ℤ pos u
  unfolding base_of
  rising_literal g =
      let q = floor-at s.coefficient s.lower (bound s k) k r u g (ap (λ z. z +ℤ pos k) (sym (rising s g).0)) t h in
      let c = floor (bound s k) s.coefficient in
      let i = floor_inside (f, omega (whole, add_law (slot_bounds s).lo (pos k)), top) refl g in
      let p = pos s.first in
      rw (lt_test (pos 0) s.coefficient g)
      (literal_rising s (bound s k) g ∙ sym (number_is s c f i.0 i.1)
      ∙ omega (whole, q, add_law p (c -ℤ s.lower), add_law (p +ℤ (c -ℤ s.lower)) (pos 1), sub_law c s.lower, add_law s.lower (pos u), sub_law (s.lower +ℤ pos u) (pos 1), add_law p (pos u)))

  falling_literal : s.coefficient ≤ℤ pos 0 → slot_literal s (bound s k) ≡ base_of s +ℤ pos u
  unfolding base_of
  falling_literal g =
      let g' : s.coefficient <ℤ pos 0 = omega (whole, g, f.some, abs_law s.coefficient, part_law s.coefficient) in
      let q = ceil-at s.coefficient s.upper (bound s k) k r u g' (ap (λ z. z +ℤ pos k) (sym (falling s g).0)) t h in
      let ce = ceil (bound s k) s.coefficient in
      let c = ce -ℤ pos 1 in
      let i = ceil_inside (f, omega (whole, add_law (slot_bounds s).lo (pos k)), top) refl g' in
      let p = pos s.first in
      let m = p +ℤ (c -ℤ s.lower) in
      let n = p +ℤ (s.upper -ℤ s.lower) in
      rw (ge_test (pos 0) s.coefficient g)
      (literal_falling s (bound s k) g' ∙ ap neg_ℤ (sym (number_is s c f i.0 i.1))
      ∙ omega (whole, q, add_law p (c -ℤ s.lower), add_law m (pos 1), sub_law c s.lower, sub_law s.upper (pos u), neg_law (m +ℤ pos 1), neg_law (n +ℤ pos 1), add_law p (s.upper -ℤ s.lower), add_law n (pos 1), sub_law s.upper s.lower, add_law (neg_ℤ (n +ℤ pos 1)) (pos u)))

  pub offset_literal : slot_literal s (bound s k) ≡ base_of s +ℤ pos u
  offset_literal = ⊎_elim falling_literal rising_literal (le_or_lt s.coefficient (pos 0))

-- ---- to the next offset, and to the one before
pub rest_up : (d k u : ℕ) → 0 < d → k + 0 ≡ d * u → k + 1 + (d - 1) ≡ d * (u + 1)
rest_up d k u h e = omega (arith, e)

pub rest_down : (d k r u : ℕ) → r + 1 ≡ d → 1 ≤ k → k + r ≡ d * u → k - 1 + 0 ≡ d * (u - 1)
rest_down d k r zero h l e = absurd (omega (arith, e))
rest_down d k r (suc u) h l e = let q : suc u - 1 ≡ u = omega arith in rw q (omega (arith, e))

-- p with another rest and literal
abbrev spot : Spot → ℕ → ℤ → Spot
spot p r l = record { d = p.d; r = r; literal = l }

pub raise_at : (p : Spot) → p.r ≡ 0 → raised p ≡ spot p (p.d - 1) (p.literal +ℤ pos 1)
unfolding raised
raise_at p e = rw e

pub raise_on : (p : Spot) → 0 < p.r → raised p ≡ spot p (p.r - 1) p.literal
unfolding raised
raise_on p h = let e : p.r ≡ suc (p.r - 1) = omega arith in ap (raised_by p) e

pub lower_at : (p : Spot) → p.d ≤ p.r + 1 → lowered p ≡ spot p 0 (p.literal -ℤ pos 1)
unfolding lowered
lower_at p h = let e : p.d - (p.r + 1) ≡ 0 = omega arith in rw e

pub lower_on : (p : Spot) → p.r + 1 < p.d → lowered p ≡ spot p (p.r + 1) p.literal
unfolding lowered
lower_on p h = let e : p.d - (p.r + 1) ≡ suc (p.d - (p.r + 1) - 1) = omega arith in ap (lowered_by p) e

-- ---- along a row
module _ (s : Slot) (f : FairSlot s) (k : ℕ) (p : Spot) (h : Holds s k p) where
  abbrev u : ℕ
  u = h.rest.times

  -- the literal is that of the same slot at another offset, moved as the multiples are
  held : (v : ℕ) (q : Spot) (j r : ℕ) → Within s k → Within s j → j + r ≡ p.d * v → r < p.d → q ≡ spot p r ((p.literal +ℤ pos v) -ℤ pos u) → Holds s j q
  held v q j r top top' e l i =
      let t : j + r ≡ nat_abs s.coefficient * v = rw (← h.size) e in
      let t₀ : k + p.r ≡ nat_abs s.coefficient * u = rw (← h.size) h.rest.whole in
      let a = offset_literal s f k p.r u t₀ (omega (arith, h.size, h.rest.short)) top in
      let b = offset_literal s f j r v t (omega (arith, h.size)) top' in
      rw i (record {
        size = h.size;
        rest = record { times = v; whole = e; short = l };
        literal = omega (whole, h.literal, a, b, add_law p.literal (pos v), sub_law (p.literal +ℤ pos v) (pos u), add_law (base_of s) (pos u), add_law (base_of s) (pos v));
      })

  pub holds_up : Within s (k + 1) → Holds s (k + 1) (raised p)
  holds_up top =
      let below : Within s k = omega (whole, add_law (slot_bounds s).lo (pos k), add_law (slot_bounds s).lo (pos (k + 1))) in
      elim (dec_le 1 p.r) [
        | yes l ↦
            held u (raised p) (k + 1) (p.r - 1) below top (omega (arith, h.rest.whole)) (omega (arith, h.rest.short))
            (raise_on p l ∙ ap (spot p (p.r - 1)) (omega (whole, add_law p.literal (pos u), sub_law (p.literal +ℤ pos u) (pos u))))
        | no l ↦
            let e : p.r ≡ 0 = omega arith in
            held (u + 1) (raised p) (k + 1) (p.d - 1) below top (rest_up p.d k u (omega (arith, h.rest.short)) (rw e at h.rest.whole)) (omega (arith, h.rest.short))
            (raise_at p e ∙ ap (spot p (p.d - 1)) (omega (whole, add_law p.literal (pos 1), add_law p.literal (pos (u + 1)), sub_law (p.literal +ℤ pos (u + 1)) (pos u))))
      ]

  pub holds_down : 1 ≤ k → Within s k → Holds s (k - 1) (lowered p)
  holds_down one top =
      let below : Within s (k - 1) = omega (whole, add_law (slot_bounds s).lo (pos k), add_law (slot_bounds s).lo (pos (k - 1))) in
      elim (dec_le (p.r + 2) p.d) [
        | yes l ↦
            held u (lowered p) (k - 1) (p.r + 1) top below (omega (arith, h.rest.whole)) (omega arith)
            (lower_on p (omega arith) ∙ ap (spot p (p.r + 1)) (omega (whole, add_law p.literal (pos u), sub_law (p.literal +ℤ pos u) (pos u))))
        | no l ↦
            let e : p.r + 1 ≡ p.d = omega (arith, h.rest.short) in
            let some : 0 < u = positive p.d (k + p.r) u (omega arith) h.rest.whole in
            held (u - 1) (lowered p) (k - 1) 0 top below (rest_down p.d k p.r u e one h.rest.whole) (omega (arith, h.rest.short))
            (lower_at p (omega arith) ∙ ap (spot p 0) (omega (whole, some, sub_law p.literal (pos 1), add_law p.literal (pos (u - 1)), sub_law (p.literal +ℤ pos (u - 1)) (pos u))))
      ]
    where
      positive : (d n u : ℕ) → 0 < n → n ≡ d * u → 0 < u
      positive d n zero h e = absurd (omega (arith, e))
      positive d n (suc u) h e = omega arith
