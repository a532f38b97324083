-- The tuples of a row, and their literals. Assumes nothing.
use Rattle.std.specs.Prelude.{Option, Some, None}
use mathlib.Core.Path.{◌≡◌, refl, sym, ap, ap₂, ◌∙◌, subst}
use mathlib.Core.Logic.{⊎_elim}
use mathlib.Core.List.{List, [], ◌∷◌, ◌++◌, map, map-map, map-append}
use Prim.Native.Nat.{ℕ, zero, suc, min, ◌+◌, ◌-◌, ◌≤◌, ◌<◌}
use native.Mathlib.Omega.{arith}
use native.Mathlib.Decide.{dec_le}
use lib.ListN.{length, get_or, take}
use lib.IntN.{ℤ, pos, nat_abs, ◌+ℤ◌, ◌-ℤ◌}
use lib.Signed.{◌≤ℤ◌, ◌<ℤ◌}
use Rattle.laws.specs.Limits.{numbers_limit}
use Rattle.definitions.specs.Tools.{All, floor, ceil}
use Rattle.laws.specs.Whole.{whole, add_law, abs_law, part_law, abs_neg, abs_add, abs_sub, le_or_lt}
use Rattle.laws.specs.Lists.{map_read}
use Rattle.laws.specs.Tuples.{no_term}
use Rattle.walk.specs.declared.Slot.{Slot}
use Rattle.walk.specs.declared.Place.{Place}
use Rattle.walk.specs.declared.Spot.{Spot}
use Rattle.walk.specs.declared.Comparison.{Comparison}
use Rattle.walk.specs.declared.Walk.{Walk}
use Rattle.walk.specs.Slots.{FairSlot, slot_bounds, order_number, slot_literal}
use Rattle.walk.specs.Walks.{places_of, moved, blank, seen, tuples_left, Fine, Over}
use Rattle.walk.specs.Comparisons.{FairComparison, Walking, padded_ranges, placed, literals_at, present, to_come, present-length}
use Rattle.walk.specs.Rows.{along, run, row_length, row_of, row_clauses, After, Placed, Holds, Steady, raised, lowered, row_from}
use Rattle.walk.proofs.Moves.{move_second}
use Rattle.walk.proofs.Slots.{floor_inside, ceil_inside, number_small, literal_rising, literal_falling}
use Rattle.walk.proofs.Padding.{no_slot, no_place, slot_fair, place_fine, range_none, padded_length, low_is, bound_inside, literal_read}
use Rattle.walk.proofs.Steps.{bound, raise_at, raise_on, lower_at, lower_on, holds_up, holds_down}

-- ---- tuples
pub along_none : (w : Walk) → along w 0 ≡ w
along_none w =
    let e : w.b.k + 0 ≡ w.b.k = omega arith in
    let f : w.c.k - 0 ≡ w.c.k = omega arith in
    ap₂ (λ j k. record { a = w.a; b = moved w.b j; c = moved w.c k }) e f

-- it can move up once more
more_room : (bw bk ck i : ℕ) → i < min (bw - bk) ck → 0 < min (bw - (bk + i)) (ck - i)
more_room bw bk ck i h = omega (arith, h)

module _ (w : Walk) (f : All Fine (places_of w)) where
  pub along_fine : (i : ℕ) → i ≤ min (w.b.w - w.b.k) w.c.k → All Fine (places_of (along w i))
  along_fine i h = (
    f.0,
    (
      record { near = f.1.0.near; inside = omega (arith, f.1.0.inside); narrow = f.1.0.narrow },
      (record { near = f.1.1.0.near; inside = omega (arith, f.1.1.0.inside); narrow = f.1.1.0.narrow }, tt),
    ),
  )

  along-more : (i : ℕ) → i < min (w.b.w - w.b.k) w.c.k → tuples_left (Some (along w i)) ≡ seen (along w i) ∷ tuples_left (Some (along w (suc i)))
  along-more i h =
      let e : w.b.k + i + 1 ≡ w.b.k + suc i = omega arith in
      let g : w.c.k - i - 1 ≡ w.c.k - suc i = omega arith in
      (move_second (along w i) (along_fine i (omega arith)) (more_room w.b.w w.b.k w.c.k i h)).1
      ∙ ap₂ (λ j k. seen (along w i) ∷ tuples_left (Some (record { a = w.a; b = moved w.b j; c = moved w.c k }))) e g

  -- r comes after the last
  run-left : (i n : ℕ) (r : Option Walk) → i + n ≡ min (w.b.w - w.b.k) w.c.k → tuples_left (Some (along w (i + n))) ≡ seen (along w (i + n)) ∷ tuples_left r
      → tuples_left (Some (along w i)) ≡ map seen (run w i (suc n)) ++ tuples_left r
  unfolding run
  run-left i zero r e l = let z : i + 0 ≡ i = omega arith in rw z at l
  run-left i (suc n) r e l =
      let z : i + suc n ≡ suc i + n = omega arith in
      along-more i (omega arith) ∙ ap (λ t. seen (along w i) ∷ t) (run-left (suc i) n r (omega arith) (rw z at l))

  pub row-left : (r : Option Walk) → tuples_left (Some (along w (min (w.b.w - w.b.k) w.c.k))) ≡ seen (along w (min (w.b.w - w.b.k) w.c.k)) ∷ tuples_left r → tuples_left (Some w) ≡ map seen (row_of w) ++ tuples_left r
  row-left r l =
      let m = min (w.b.w - w.b.k) w.c.k in
      let z : 0 + m ≡ m = omega arith in
      ap (λ v. tuples_left (Some v)) (sym (along_none w)) ∙ run-left 0 m r z (rw (← z) at l)

-- what comes after the row's last tuple comes after the row
pub behind : (c : Comparison) (w : Walk) (o : Walking c (Some w)) (i : ℕ) → i ≡ min (w.b.w - w.b.k) w.c.k → (r : Option Walk)
    → Over (places_of (along w i)) r × (tuples_left (Some (along w i)) ≡ seen (along w i) ∷ tuples_left r) → After c w r
unfolding Walking Over to_come present row_clauses
behind c w o i e r n = (
  onward r n.0,
  ap (map (literals_at c)) (row-left w o.0 r (subst (λ j. tuples_left (Some (along w j)) ≡ seen (along w j) ∷ tuples_left r) e n.1))
      ∙ map-append (literals_at c) (map seen (row_of w)) (tuples_left r)
      ∙ ap (λ l. l ++ map (literals_at c) (tuples_left r)) (map-map (literals_at c) seen (row_of w)),
)
  where
    onward : (r : Option Walk) → Over (places_of (along w i)) r → Walking c r
    onward (Some v) k = (k.0, k.1 ∙ o.1)
    onward None k = tt

-- ---- literals
one_left : (b c i : ℕ) → suc i ≤ min b c → 1 ≤ c - i
one_left b c i h = omega (arith, h)

-- two or three of them
parts : (l : List ℤ) (n : ℕ) → length l ≡ n → 2 ≤ n → n ≤ 3 → l ≡ take (n - 2) l ++ (get_or l (n - 2) (pos 0) ∷ get_or l (n - 1) (pos 0) ∷ [])
parts [] n e h k = absurd (omega arith)
parts (x ∷ []) n e h k = absurd (omega arith)
parts (x ∷ y ∷ []) n e h k = let q : n ≡ 2 = omega arith in rw q refl
parts (x ∷ y ∷ z ∷ []) n e h k = let q : n ≡ 3 = omega arith in rw q refl
parts (x ∷ y ∷ z ∷ v ∷ l) n e h k = absurd (omega arith)

pub first_taken : (l : List ℤ) (n : ℕ) → n ≡ 1 → 0 < length l → take n l ≡ get_or l 0 (pos 0) ∷ []
first_taken [] n e h = absurd (omega arith)
first_taken (x ∷ l) n e h = rw e refl

abbrev pub slot_at : Comparison → ℕ → Slot
slot_at c i = get_or c.slots i no_slot

-- term i stands at place j
module _ (c : Comparison) (f : FairComparison c) (w : Walk) (o : Walking c (Some w)) (i j : ℕ) (h : i < c.n) (e : i + 3 - c.n ≡ j) where
  abbrev place : Place
  place = get_or (places_of w) j no_place

  placed_at : Placed (slot_at c i) place
  placed_at =
      let low = low_is c f w o i h in
      let k = (get_or (places_of w) (i + 3 - c.n) no_place).k in
      subst (λ m. Placed (slot_at c i) (get_or (places_of w) m no_place)) e (record {
        fair = slot_fair c f i h;
        fine = place_fine c f w o i h;
        low = low;
        high = (bound_inside c f w o i h (bound (slot_at c i) k) (ap (λ z. z +ℤ pos k) (sym low))).1;
      })

  literal_of_lem : get_or (present c w) i (pos 0) ≡ slot_literal (slot_at c i) (bound (slot_at c i) place.k)
  literal_of_lem =
      literal_read c f w o i h
      ∙ ap (λ m. slot_literal (slot_at c i) ((get_or (places_of w) m no_place).lo +ℤ pos (get_or (places_of w) m no_place).k)) e
      ∙ ap (λ z. slot_literal (slot_at c i) (z +ℤ pos place.k)) placed_at.low

module _ (c : Comparison) (f : FairComparison c) (two : 2 ≤ c.n) where
  module _ (w : Walk) (o : Walking c (Some w)) where
    pub placed_b : Placed (slot_at c (c.n - 2)) w.b
    placed_b = placed_at c f w o (c.n - 2) 1 (omega (arith, two)) (omega (arith, two))

    pub placed_c : Placed (slot_at c (c.n - 1)) w.c
    placed_c = placed_at c f w o (c.n - 1) 2 (omega (arith, two)) (omega (arith, two))

    abbrev pub fixed : List ℤ
    fixed = take (c.n - 2) (present c w)

    -- the present tuple's literals
    present_is : (y z : Spot) → Holds (slot_at c (c.n - 2)) w.b.k y → Holds (slot_at c (c.n - 1)) w.c.k z → present c w ≡ fixed ++ (y.literal ∷ z.literal ∷ [])
    present_is y z hy hz =
        let ey = literal_of_lem c f w o (c.n - 2) 1 (omega (arith, two)) (omega (arith, two)) ∙ sym hy.literal in
        let ez = literal_of_lem c f w o (c.n - 1) 2 (omega (arith, two)) (omega (arith, two)) ∙ sym hz.literal in
        parts (present c w) c.n (present-length c w f) two f.few ∙ ap₂ (λ p q. fixed ++ (p ∷ q ∷ [])) ey ez

    pub walking_along : (i : ℕ) → i ≤ min (w.b.w - w.b.k) w.c.k → Walking c (Some (along w i))
    unfolding Walking Over
    walking_along i h = (along_fine w o.0 i h, o.1)

  -- the first of three terms stays
  fixed-along : (w : Walk) (o : Walking c (Some w)) (i : ℕ) (h : i ≤ min (w.b.w - w.b.k) w.c.k) → fixed (along w i) (walking_along w o i h) ≡ fixed w o
  fixed-along w o i h = elim (dec_le 3 c.n) [
    | yes k ↦
        let one : (v : Walk) → Walking c (Some v) → take (c.n - 2) (present c v) ≡ slot_literal (slot_at c 0) (bound (slot_at c 0) v.a.k) ∷ [] =
        λ v p. first_taken (present c v) (c.n - 2) (omega (arith, f.few)) (omega (arith, present-length c v f)) ∙ ap (λ z. z ∷ []) (literal_of_lem c f v p 0 0 (omega (arith, two)) (omega (arith, f.few))) in
        one (along w i) (walking_along w o i h) ∙ sym (one w o)
    | no k ↦ let q : c.n - 2 ≡ 0 = omega arith in rw q refl
  ]

  first_is : (w : Walk) (o : Walking c (Some w)) (i : ℕ) (y z : Spot) → i ≤ min (w.b.w - w.b.k) w.c.k
      → Holds (slot_at c (c.n - 2)) (w.b.k + i) y → Holds (slot_at c (c.n - 1)) (w.c.k - i) z
      → present c (along w i) ≡ fixed w o ++ (y.literal ∷ z.literal ∷ [])
  first_is w o i y z h hy hz =
      present_is (along w i) (walking_along w o i h) y z hy hz ∙ ap (λ l. l ++ (y.literal ∷ z.literal ∷ [])) (fixed-along w o i h)

  run-literals : (w : Walk) (o : Walking c (Some w)) (i n : ℕ) (y z : Spot) → i + n ≤ min (w.b.w - w.b.k) w.c.k
      → Holds (slot_at c (c.n - 2)) (w.b.k + i) y → Holds (slot_at c (c.n - 1)) (w.c.k - i) z
      → map (present c) (run w i (suc n)) ≡ row_from (fixed w o) y z (suc n)
  unfolding run row_from
  run-literals w o i zero y z h hy hz = ap (λ l. l ∷ []) (first_is w o i y z (omega (arith, h)) hy hz)
  run-literals w o i (suc n) y z h hy hz =
      let here : i ≤ min (w.b.w - w.b.k) w.c.k = omega (arith, h) in
      let next : suc i ≤ min (w.b.w - w.b.k) w.c.k = omega (arith, h) in
      let eb : w.b.k + i + 1 ≡ w.b.k + suc i = omega arith in
      let ec : w.c.k - i - 1 ≡ w.c.k - suc i = omega arith in
      let sy = slot_fair c f (c.n - 2) (omega (arith, two)) in
      let sz = slot_fair c f (c.n - 1) (omega (arith, two)) in
      let top = subst (λ k. bound (slot_at c (c.n - 2)) k ≤ℤ (slot_bounds (slot_at c (c.n - 2))).hi) (sym eb) (placed_b (along w (suc i)) (walking_along w o (suc i) next)).high in
      let hy' = subst (λ k. Holds (slot_at c (c.n - 2)) k (raised y)) eb (holds_up (slot_at c (c.n - 2)) sy (w.b.k + i) y hy top) in
      let hz' = subst (λ k. Holds (slot_at c (c.n - 1)) k (lowered z)) ec (holds_down (slot_at c (c.n - 1)) sz (w.c.k - i) z hz (one_left (w.b.w - w.b.k) w.c.k i next) (placed_c (along w i) (walking_along w o i here)).high) in
      ap₂ ◌∷◌ (first_is w o i y z here hy hz) (run-literals w o (suc i) n (raised y) (lowered z) (omega (arith, h)) hy' hz')

  -- the row of the present tuple, from what is said of its last two terms
  pub row-literals : (w : Walk) → Walking c (Some w) → (y z : Spot) → Holds (slot_at c (c.n - 2)) w.b.k y → Holds (slot_at c (c.n - 1)) w.c.k z
      → row_clauses c w ≡ row_from (take (c.n - 2) (present c w)) y z (row_length w)
  unfolding row_clauses
  row-literals w o y z hy hz =
      let m = min (w.b.w - w.b.k) w.c.k in
      let eb : w.b.k + 0 ≡ w.b.k = omega arith in
      let ec : w.c.k - 0 ≡ w.c.k = omega arith in
      run-literals w o 0 m y z (omega arith)
      (subst (λ k. Holds (slot_at c (c.n - 2)) k y) (sym eb) hy)
      (subst (λ k. Holds (slot_at c (c.n - 1)) k z) (sym ec) hz)

-- with fewer than two terms a row has one tuple
pub row-single : (c : Comparison) → FairComparison c → (w : Walk) → Walking c (Some w) → c.n < 2 → row_clauses c w ≡ present c w ∷ []
unfolding run Walking Over row_clauses
row-single c f w o h =
    let none : w.b.w ≡ 0 =
    ap (λ l. (get_or l 1 (blank no_place)).w) (o.1 ∙ map-map blank placed (padded_ranges c))
    ∙ ap (λ q. q.w) (map_read placed no_term (blank no_place) (padded_ranges c) 1 (omega (arith, padded_length c f)))
    ∙ ap (λ r. (placed r).w) (range_none c 1 (omega arith)) in
    let m : min (w.b.w - w.b.k) w.c.k ≡ 0 = omega (arith, none) in
    ap (λ n. map (present c) (run w 0 (suc n))) m ∙ ap (λ v. present c v ∷ []) (along_none w)

-- ---- what the code computes with
module _ (p : Spot) (n : ℕ) (some : 0 < n) (h : Steady p n) where
  pub raised_steady : Steady (raised p) (n - 1)
  raised_steady = elim (dec_le 1 p.r) [
    | yes l ↦ rw (raise_on p l) (record { short = omega (arith, h.short); few = h.few; near = omega (arith, h.near) })
    | no l ↦ rw (raise_at p (omega arith)) (record { short = omega (arith, h.short); few = h.few; near = omega (arith, h.near, abs_add p.literal (pos 1)) })
  ]

  pub lowered_steady : Steady (lowered p) (n - 1)
  lowered_steady = elim (dec_le (p.r + 2) p.d) [
    | yes l ↦ rw (lower_on p (omega arith)) (record { short = omega arith; few = h.few; near = omega (arith, h.near) })
    | no l ↦ rw (lower_at p (omega arith)) (record { short = omega (arith, h.short); few = h.few; near = omega (arith, h.near, abs_sub p.literal (pos 1)) })
  ]

literal_near : (s : Slot) → FairSlot s → (b : ℤ) → (slot_bounds s).lo ≤ℤ b → b ≤ℤ (slot_bounds s).hi → nat_abs (slot_literal s b) ≤ numbers_limit
literal_near s f b low high = ⊎_elim (λ g.
    let h : s.coefficient <ℤ pos 0 = omega (whole, g, f.some, abs_law s.coefficient, part_law s.coefficient) in
    let i = ceil_inside (f, low, high) refl h in
    let c = ceil b s.coefficient -ℤ pos 1 in
    omega (arith, ap nat_abs (literal_falling s b h), abs_neg (pos (order_number s c)), number_small s c f i.0 i.1)) (λ h.
    let i = floor_inside (f, low, high) refl h in
    omega (arith, ap nat_abs (literal_rising s b h), number_small s (floor b s.coefficient) f i.0 i.1)) (le_or_lt s.coefficient (pos 0))

-- a spot is ready to go along the row
pub spot_ready : (s : Slot) (q : Place) → Placed s q → (p : Spot) → Holds s q.k p → (n : ℕ) → n ≤ numbers_limit → Steady p n
spot_ready s q h p e n few =
    let near = literal_near s h.fair (bound s q.k) (omega (whole, add_law (slot_bounds s).lo (pos q.k))) h.high in
    record { short = e.rest.short; few = omega (arith, e.size, h.fair.few); near = omega (arith, ap nat_abs e.literal, near, few) }
