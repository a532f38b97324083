-- Where a comparison's terms stand among three places. Assumes nothing.
use Rattle.std.specs.Prelude.{Some}
use mathlib.Core.Path.{◌≡◌, refl, sym, ap, ap₂, ◌∙◌}
use mathlib.Core.List.{List, [], ◌∷◌, ◌++◌, zip_with, map-map}
use Prim.Native.Nat.{ℕ, zero, suc, ◌+◌, ◌-◌, ◌≤◌, ◌<◌}
use native.Mathlib.Omega.{arith}
use lib.ListN.{length, get_or, drop, replicate, length-replicate, get_or-replicate, get_or-append, length-append, length-map, length-drop}
use lib.Seq.{get_or-append-add, get_or-take, get_or-drop}
use lib.IntN.{ℤ, pos, ◌+ℤ◌, ◌-ℤ◌}
use lib.Signed.{◌≤ℤ◌}
use Rattle.definitions.specs.Tools.{size}
use Rattle.laws.specs.Whole.{whole, add_law, sub_law, part_law}
use Rattle.laws.specs.Lists.{all-at, map_read}
use Rattle.laws.specs.Tuples.{no_term}
use Rattle.walk.specs.declared.Slot.{Slot}
use Rattle.walk.specs.declared.Comparison.{Comparison}
use Rattle.walk.specs.declared.Place.{Place}
use Rattle.walk.specs.declared.Walk.{Walk}
use Rattle.walk.specs.Slots.{FairSlot, slot_bounds, slot_literal}
use Rattle.walk.specs.Walks.{places_of, blank, seen, Fine, Over}
use Rattle.walk.specs.Comparisons.{slots_of, ranges_of, FairComparison, padded_ranges, placed, Walking, literals_at, present}
use Rattle.walk.proofs.Slots.{slot_ordered}

-- ---- reading
zip_read : {A B C : Type 0} (f : A → B → C) (d : A) (e : B) (g : C) (l : List A) (m : List B) (i : ℕ) → i < length l → i < length m
    → get_or (zip_with f l m) i g ≡ f (get_or l i d) (get_or m i e)
unfolding zip_with
zip_read f d e g [] m i h k = absurd (omega arith)
zip_read f d e g (x ∷ l) [] i h k = absurd (omega arith)
zip_read f d e g (x ∷ l) (y ∷ m) zero h k = refl
zip_read f d e g (x ∷ l) (y ∷ m) (suc i) h k = zip_read f d e g l m i (omega arith) (omega arith)

-- what is read past an array's end
abbrev pub no_slot : Slot
no_slot = record { coefficient = pos 0; lower = pos 0; upper = pos 0; first = 0 }

abbrev pub no_place : Place
no_place = record { lo = pos 0; k = 0; w = 0 }

module _ (c : Comparison) (f : FairComparison c) where
  slot_read : (i : ℕ) → i < c.n → get_or (slots_of c) i no_slot ≡ get_or c.slots i no_slot
  slot_read i h = get_or-take c.n c.slots i no_slot h

  pub slot_fair : (i : ℕ) → i < c.n → FairSlot (get_or c.slots i no_slot)
  slot_fair i h = rw (← slot_read i h) (all-at FairSlot no_slot (slots_of c) f.slots i (omega (arith, f.counted)))

  pub range-read : (j : ℕ) → 3 ≤ j + c.n → j < 3 → get_or (padded_ranges c) j no_term ≡ slot_bounds (get_or c.slots (j + c.n - 3) no_slot)
  unfolding padded_ranges
  range-read j l u =
      let none = replicate (3 - c.n) no_term in
      let i = j + c.n - 3 in
      let e : j ≡ length none + (j + c.n - 3) = omega (arith, length-replicate (3 - c.n) no_term, f.few) in
      ap (λ k. get_or (none ++ ranges_of c) k no_term) e
      ∙ get_or-append-add none (ranges_of c) i no_term
      ∙ map_read slot_bounds no_slot no_term (slots_of c) i (omega (arith, f.counted))
      ∙ ap slot_bounds (slot_read i (omega arith))

pub range_none : (c : Comparison) (j : ℕ) → j + c.n < 3 → get_or (padded_ranges c) j no_term ≡ no_term
unfolding padded_ranges
range_none c j h =
    let m = 3 - c.n in
    get_or-append (replicate m no_term) (ranges_of c) no_term j (omega (arith, length-replicate m no_term))
    ∙ get_or-replicate m j no_term no_term (omega arith)

pub padded_length : (c : Comparison) → FairComparison c → length (padded_ranges c) ≡ 3
unfolding padded_ranges
padded_length c f =
    let none = replicate (3 - c.n) no_term in
    omega (arith, length-append none (ranges_of c), length-replicate (3 - c.n) no_term, length-map (slots_of c) slot_bounds, f.counted, f.few)

-- ---- the present tuple
module _ (c : Comparison) (f : FairComparison c) (w : Walk) (o : Walking c (Some w)) (i : ℕ) (h : i < c.n) where
  abbrev pub s : Slot
  s = get_or c.slots i no_slot

  abbrev pub p : Place
  p = get_or (places_of w) (i + 3 - c.n) no_place

  pub place_fine : Fine p
  unfolding Walking Over
  place_fine = all-at Fine no_place (places_of w) o.0 (i + 3 - c.n) (omega (arith, f.few))

  pub place-range : blank p ≡ placed (slot_bounds s)
  unfolding Walking Over
  place-range =
      let j = i + 3 - c.n in
      let below : i + 3 - c.n < 3 = omega (arith, f.few) in
      let i-is : i + 3 - c.n + c.n - 3 ≡ i = omega (arith, f.few) in
      sym (map_read blank no_place (blank no_place) (places_of w) j below)
      ∙ ap (λ l. get_or l j (blank no_place)) (o.1 ∙ map-map blank placed (padded_ranges c))
      ∙ map_read placed no_term (blank no_place) (padded_ranges c) j (omega (arith, padded_length c f))
      ∙ ap placed (range-read c f j (omega (arith, f.few)) below ∙ ap (λ k. slot_bounds (get_or c.slots k no_slot)) i-is)

  pub low_is : p.lo ≡ (slot_bounds s).lo
  low_is = ap (λ q. q.lo) place-range

  pub width_is : p.w ≡ size ((slot_bounds s).hi -ℤ (slot_bounds s).lo)
  width_is = ap (λ q. q.w) place-range

  pub bound_inside : (b : ℤ) → b ≡ p.lo +ℤ pos p.k → ((slot_bounds s).lo ≤ℤ b) × (b ≤ℤ (slot_bounds s).hi)
  bound_inside b e =
      let l = (slot_bounds s).lo in
      let u = (slot_bounds s).hi in
      omega (whole, low_is, width_is, place_fine.inside, slot_ordered s (slot_fair c f i h), add_law p.lo (pos p.k), sub_law u l, part_law (u -ℤ l))

  bound-read : get_or (seen w) (i + 3 - c.n) (pos 0) ≡ p.lo +ℤ pos p.k
  unfolding seen zip_with
  bound-read = map_read (λ q. q.lo +ℤ pos q.k) no_place (pos 0) (places_of w) (i + 3 - c.n) (omega (arith, f.few))

  seen-length : length (seen w) ≡ 3
  unfolding seen zip_with
  seen-length = refl

  pub literal_read : get_or (present c w) i (pos 0) ≡ slot_literal s (p.lo +ℤ pos p.k)
  unfolding present literals_at
  literal_read =
      let m = 3 - c.n in
      let j-is : 3 - c.n + i ≡ i + 3 - c.n = omega (arith, f.few) in
      zip_read slot_literal no_slot (pos 0) (pos 0) (slots_of c) (drop m (seen w)) i (omega (arith, f.counted)) (omega (arith, f.few, length-drop m (seen w), seen-length))
      ∙ ap₂ slot_literal (slot_read c f i h) (get_or-drop m (seen w) i (pos 0) ∙ ap (λ k. get_or (seen w) k (pos 0)) j-is ∙ bound-read)
