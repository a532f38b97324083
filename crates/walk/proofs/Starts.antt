-- Where the walk over a comparison starts. Assumes nothing.
use Rattle.std.specs.Prelude.{Option, None}
use mathlib.Core.Path.{◌≡◌, refl, sym, ap, ap₂, ◌∙◌}
use mathlib.Core.List.{List, [], ◌∷◌, ◌++◌, map, zip_with, map-map}
use Prim.Native.Nat.{ℕ, zero, suc, ◌-◌}
use native.Mathlib.Omega.{arith}
use lib.ListN.{length, get_or, replicate, length-map, length-replicate}
use lib.Seq.{drop_at}
use lib.IntN.{ℤ, pos, ◌+ℤ◌, ◌-ℤ◌}
use lib.Signed.{◌<ℤ◌}
use Rattle.definitions.specs.Tools.{All, sum_z}
use Rattle.definitions.specs.Board.{Bounds}
use Rattle.definitions.specs.Encoding.{tuples}
use Rattle.laws.specs.Whole.{whole, add_law, sub_law, part_law, abs_law}
use Rattle.laws.specs.Lists.{all_every, all_map, all_impl, all_append, map_same}
use Rattle.laws.specs.Offsets.{offsets}
use Rattle.laws.specs.Tuples.{Ordered, lows, shift, no_term, tuples_none, tuples-offsets, tuples_padded, lows_padded, ordered_padded}
use Rattle.walk.specs.declared.Slot.{Slot}
use Rattle.walk.specs.declared.Comparison.{Comparison}
use Rattle.walk.specs.declared.Place.{Place}
use Rattle.walk.specs.declared.Walk.{Walk}
use Rattle.walk.specs.Slots.{FairSlot, value_bounds, slot_bounds, slot_literal}
use Rattle.walk.specs.Walks.{bounds_at, above, tuples_left, Fine, Over}
use Rattle.walk.specs.Comparisons.{slots_of, ranges_of, least_of, over_least, literals_of, FairComparison, padded_ranges, placed, Walking, literals_at, to_come}
use Rattle.walk.proofs.Slots.{slot_near, slot_ordered}
use Rattle.walk.proofs.Padding.{padded_length}

slots_lows : (ss : List Slot) → sum_z (lows (map slot_bounds ss)) +ℤ pos (length ss) ≡ sum_z (map (λ s. (value_bounds s).lo) ss)
unfolding slot_bounds
slots_lows [] = refl
slots_lows (s ∷ ss) =
    let l = (value_bounds s).lo in
    let m = sum_z (lows (map slot_bounds ss)) in
    let r = slots_lows ss in
    omega (whole, add_law (l -ℤ pos 1) m, sub_law l (pos 1), add_law ((l -ℤ pos 1) +ℤ m) (pos (suc (length ss))), add_law m (pos (length ss)), add_law l (sum_z (map (λ s. (value_bounds s).lo) ss)))

module _ (c : Comparison) (f : FairComparison c) where
  abbrev s : ℤ
  s = c.constant -ℤ pos c.n +ℤ pos 1

  abbrev R : List Bounds
  R = padded_ranges c

  terms_lows : sum_z (lows (ranges_of c)) +ℤ pos c.n ≡ least_of c
  unfolding least_of
  terms_lows = ap (λ n. sum_z (lows (ranges_of c)) +ℤ pos n) (sym f.counted) ∙ slots_lows (slots_of c)

  over_law : (t : ℤ) → t ≡ over_least c → s ≡ sum_z (lows (ranges_of c)) +ℤ t
  unfolding over_least
  over_law t e =
      let k = c.constant in
      let m = sum_z (lows (ranges_of c)) in
      let n = c.n in
      omega (whole, terms_lows, add_law m (pos n), add_law m t, sub_law k (least_of c), add_law (k -ℤ least_of c) (pos 1), sub_law k (pos n), add_law (k -ℤ pos n) (pos 1))

  -- ---- below the least there is nothing
  pub start-end : over_least c <ℤ pos 0 → Walking c None × (to_come c None ≡ literals_of c)
  unfolding Walking Over to_come tuples_left literals_of
  start-end h =
      let e = over_law (over_least c) refl in
      let b : s <ℤ sum_z (lows (ranges_of c)) = omega (whole, e, add_law (sum_z (lows (ranges_of c))) (over_least c)) in
      (tt, sym (ap (map (zip_with slot_literal (slots_of c))) (tuples_none (ranges_of c) s b)))

  -- ---- three places
  pub ranges_fine : All (λ r. Fine (placed r)) R
  unfolding padded_ranges
  ranges_fine =
      all_append (λ r. Fine (placed r)) (replicate (3 - c.n) no_term) (ranges_of c) (none (3 - c.n))
      (all_map (λ r. Fine (placed r)) slot_bounds (slots_of c) (all_impl FairSlot (λ t. Fine (placed (slot_bounds t))) term (slots_of c) f.slots))
    where
      none : (m : ℕ) → All (λ r. Fine (placed r)) (replicate m no_term)
      none zero = tt
      none (suc m) = (record { near = omega arith; inside = omega arith; narrow = omega arith }, none m)

      term : (t : Slot) → FairSlot t → Fine (placed (slot_bounds t))
      term t g =
          let l = (slot_bounds t).lo in
          let u = (slot_bounds t).hi in
          let near = slot_near t g in record {
            near = near.0;
            inside = omega arith;
            narrow = omega (whole, near, abs_law l, abs_law u, sub_law u l, part_law (u -ℤ l));
          }

  pub places_fine : All Fine (map placed R)
  places_fine = all_map Fine placed R ranges_fine

  pub three-places : (x y z : Place) → x ≡ placed (get_or R 0 no_term) → y ≡ placed (get_or R 1 no_term) → z ≡ placed (get_or R 2 no_term) → map placed R ≡ x ∷ y ∷ z ∷ []
  three-places x y z ex ey ez = let e = go R (padded_length c f) in cc
    where
      go : (rs : List Bounds) → length rs ≡ 3 → map placed rs ≡ placed (get_or rs 0 no_term) ∷ placed (get_or rs 1 no_term) ∷ placed (get_or rs 2 no_term) ∷ []
      go [] h = absurd (omega arith)
      go (x ∷ []) h = absurd (omega arith)
      go (x ∷ y ∷ []) h = absurd (omega arith)
      go (x ∷ y ∷ z ∷ []) h = refl
      go (x ∷ y ∷ z ∷ r ∷ rs) h = absurd (omega arith)

  -- ---- all tuples
  ranges_ordered : All Ordered R
  unfolding padded_ranges
  ranges_ordered = ordered_padded (3 - c.n) (ranges_of c) (all_map Ordered slot_bounds (slots_of c) (all_impl FairSlot (λ t. Ordered (slot_bounds t)) slot_ordered (slots_of c) f.slots))

  above_is : (t : ℕ) → pos t ≡ over_least c → above (map placed R) t ≡ map (λ bs. replicate (3 - c.n) (pos 0) ++ bs) (tuples (ranges_of c) s)
  unfolding above padded_ranges
  above_is t e =
      let m = 3 - c.n in
      ap₂ (λ ls ws. map (shift ls) (offsets ws t)) (map-map (λ p. p.lo) placed R) (map-map (λ p. p.w) placed R)
      ∙ sym (tuples-offsets R ranges_ordered s t (over_law (pos t) e ∙ ap (λ z. z +ℤ pos t) (sym (lows_padded m (ranges_of c)))))
      ∙ tuples_padded m (ranges_of c) s

  unpadded : (bs : List ℤ) → literals_at c (replicate (3 - c.n) (pos 0) ++ bs) ≡ zip_with slot_literal (slots_of c) bs
  unfolding literals_at
  unpadded bs = let m = 3 - c.n in ap (zip_with slot_literal (slots_of c)) (drop_at (replicate m (pos 0)) bs m (length-replicate m (pos 0)))

  pub start-at : (t : ℕ) (r : Option Walk) → pos t ≡ over_least c → tuples_left r ≡ above (map placed R) t → to_come c r ≡ literals_of c
  unfolding to_come literals_of
  start-at t r e l =
      let pad : List ℤ → List ℤ = λ bs. replicate (3 - c.n) (pos 0) ++ bs in
      ap (map (literals_at c)) (l ∙ above_is t e)
      ∙ map-map (literals_at c) pad (tuples (ranges_of c) s)
      ∙ map_same (λ bs. literals_at c (pad bs)) (zip_with slot_literal (slots_of c)) (tuples (ranges_of c) s)
      (all_every (λ bs. literals_at c (pad bs) ≡ zip_with slot_literal (slots_of c) bs) unpadded (tuples (ranges_of c) s))

  -- there are as many as offsets with their sum
  pub start-count : (t : ℕ) → pos t ≡ over_least c → length (literals_of c) ≡ length (offsets (map (λ p. p.w) (map placed R)) t)
  unfolding above literals_of
  start-count t e =
      let bss = tuples (ranges_of c) s in
      length-map bss (zip_with slot_literal (slots_of c))
      ∙ sym (length-map bss (λ bs. replicate (3 - c.n) (pos 0) ++ bs))
      ∙ ap length (sym (above_is t e))
      ∙ length-map (offsets (map (λ p. p.w) (map placed R)) t) (bounds_at (map placed R))
