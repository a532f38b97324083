-- The sum of a comparison's least values, term by term. Assumes nothing.
use mathlib.Core.Path.{◌≡◌, refl, sym, ap, ◌∙◌}
use mathlib.Core.List.{List, [], ◌∷◌, ◌++◌, map, map-append}
use Prim.Native.Nat.{ℕ, zero, suc, ◌+◌, ◌*◌, ◌≤◌, ◌<◌}
use native.Mathlib.Numerals.{add-one}
use native.Mathlib.Omega.{arith}
use lib.ListN.{length, get_or, take}
use lib.Seq.{take-suc, take_all}
use lib.IntN.{ℤ, pos, nat_abs, ◌+ℤ◌}
use Rattle.definitions.specs.Tools.{sum_z}
use Rattle.laws.specs.Lists.{all-at}
use Rattle.laws.specs.Whole.{whole, add_law, sub_law, abs_add}
use Rattle.walk.specs.declared.Comparison.{Comparison}
use Rattle.walk.specs.Slots.{FairSlot, value_bounds, slot_bounds}
use Rattle.walk.specs.Comparisons.{slots_of, FairComparison, least_of}
use Rattle.walk.proofs.Slots.{slot_near}
use Rattle.walk.proofs.Padding.{no_slot}

sum_snoc : (l : List ℤ) (z : ℤ) → sum_z (l ++ (z ∷ [])) ≡ sum_z l +ℤ z
sum_snoc [] z = omega (whole, add_law z (pos 0), add_law (pos 0) z)
sum_snoc (x ∷ l) z =
    let r = sum_snoc l z in
    omega (whole, add_law x (sum_z (l ++ (z ∷ []))), add_law (sum_z l) z, add_law x (sum_z l), add_law (x +ℤ sum_z l) z)

-- over the first i terms
unfoldable pub least_up_to : Comparison → ℕ → ℤ
least_up_to c i = sum_z (map (λ s. (value_bounds s).lo) (take i (slots_of c)))

pub least_none : (c : Comparison) → pos 0 ≡ least_up_to c 0
unfolding least_up_to
least_none c = refl

module _ (c : Comparison) (f : FairComparison c) where
  fair_at : (i : ℕ) → i < length (slots_of c) → FairSlot (get_or (slots_of c) i no_slot)
  fair_at i h = all-at FairSlot no_slot (slots_of c) f.slots i h

  pub least_more : (i : ℕ) → i < length (slots_of c) → least_up_to c (i + 1) ≡ least_up_to c i +ℤ ((slot_bounds (get_or (slots_of c) i no_slot)).lo +ℤ pos 1)
  unfolding least_up_to slot_bounds
  least_more i h =
      let s = get_or (slots_of c) i no_slot in
      let l : (slot_bounds s).lo +ℤ pos 1 ≡ (value_bounds s).lo = omega (whole, sub_law (value_bounds s).lo (pos 1), add_law (slot_bounds s).lo (pos 1)) in
      ap (λ k. sum_z (map (λ t. (value_bounds t).lo) (take k (slots_of c)))) (add-one i)
      ∙ ap (λ l. sum_z (map (λ t. (value_bounds t).lo) l)) (take-suc (slots_of c) i no_slot h)
      ∙ ap sum_z (map-append (λ t. (value_bounds t).lo) (take i (slots_of c)) (s ∷ []))
      ∙ sum_snoc (map (λ t. (value_bounds t).lo) (take i (slots_of c))) (value_bounds s).lo
      ∙ ap (λ z. least_up_to c i +ℤ z) (sym l)

  pub least_near : (i : ℕ) → i ≤ c.n → nat_abs (least_up_to c i) ≤ i * 262146
  unfolding least_up_to
  least_near zero h = omega arith
  least_near (suc i) h =
      let here : i < length (slots_of c) = omega (arith, f.counted) in
      let s = get_or (slots_of c) i no_slot in
      let l = (slot_bounds s).lo in
      omega (
        arith,
        ap (λ k. nat_abs (least_up_to c k)) (add-one i),
        ap nat_abs (least_more i here),
        abs_add (least_up_to c i) (l +ℤ pos 1),
        abs_add l (pos 1),
        slot_near s (fair_at i here),
        least_near i (omega arith),
      )

  pub least-all : least_up_to c c.n ≡ least_of c
  unfolding least_up_to least_of
  least-all = ap (λ l. sum_z (map (λ t. (value_bounds t).lo) l)) (take_all c.n (slots_of c) (omega (arith, f.counted)))

  -- a turn of the loop: low is the least bound of the next term
  module _ (i : ℕ) (h : i < length (slots_of c)) (low : ℤ) (e : low ≡ (slot_bounds (get_or (slots_of c) i no_slot)).lo) where
    pub low_near : nat_abs low ≤ 262145
    low_near = omega (arith, ap nat_abs e, slot_near (get_or (slots_of c) i no_slot) (fair_at i h))

    pub total_is : least_up_to c i +ℤ (low +ℤ pos 1) ≡ least_up_to c (i + 1)
    total_is = ap (λ l. least_up_to c i +ℤ (l +ℤ pos 1)) e ∙ sym (least_more i h)

    pub total_near : nat_abs (least_up_to c i +ℤ (low +ℤ pos 1)) ≤ 786438
    total_near = omega (arith, ap nat_abs total_is, least_near (i + 1) (omega (arith, f.counted)), f.few, f.counted)
