-- A comparison as the code has it: the literals of its tuples, and what they are of a board's comparison. Assumes nothing.
use Rattle.std.specs.Prelude.{◌≡◌, take, drop, replicate, ℤ, nat_abs, ◌-ℤ◌, ◌≤ℤ◌, ◌<ℤ◌, Option, Some, None}
use Rattle.std.proofs.Math.Path.{refl, ap, ap₂}
use Rattle.std.proofs.Common.{◌∙◌, arith}
use mathlib.Core.List.{List, [], ◌∷◌, ◌++◌, map, zip_with}
use Prim.Native.Nat.{ℕ, suc, ◌-◌, ◌≤◌}
use Rattle.std.proofs.Math.ListN.{length, length-drop}
use Rattle.std.proofs.lemmas.List.{length-map}
use Rattle.std.proofs.Math.IntN.{pos, ◌+ℤ◌}
use Rattle.definitions.specs.Tools.{All, sum_z, size}
use Rattle.definitions.specs.Board.{Bounds, Term, Board, bounds_of}
use Rattle.definitions.specs.Board as board
use Rattle.definitions.specs.Encoding.{least, tuples, tuples_of, sharp, first, literal_number}
use Rattle.laws.specs.Whole.{whole, add_law, sub_law}
use Rattle.laws.specs.Lists.{all_every, map_same}
use Rattle.laws.specs.Tuples.{no_term}
use Rattle.laws.specs.Terms.{ranges}
use Rattle.walk.specs.declared.Slot.{Slot}
use Rattle.walk.specs.declared.Comparison.{Comparison}
use Rattle.walk.specs.declared.Place.{Place}
use Rattle.walk.specs.declared.Walk.{Walk}
use Rattle.walk.specs.Slots.{FairSlot, value_bounds, slot_bounds, slot_literal, slot_of, value_bounds_lem, slot_literal_lem}
use Rattle.walk.specs.Walks.{places_of, seen, tuples_left, Fine, Over}

abbrev pub slots_of : Comparison → List Slot
slots_of c = take c.n c.slots

-- L
unfoldable pub least_of : Comparison → ℤ
least_of c = sum_z (map (λ s. (value_bounds s).lo) (slots_of c))

-- how far the constant is above L, and 1 more: the sum of a tuple's offsets from the least bounds
unfoldable pub over_least : Comparison → ℤ
over_least c = c.constant -ℤ least_of c +ℤ pos 1

pub over_sign : (c : Comparison) → least_of c ≤ℤ c.constant → pos 0 ≤ℤ over_least c
unfolding over_least
over_sign c h = let k = c.constant in let l = least_of c in omega (whole, h, sub_law k l, add_law (k -ℤ l) (pos 1))

-- whether the constant is below the least sum
pub below-least : (c : Comparison) → over_least c <ℤ pos 1 → c.constant <ℤ least_of c
unfolding over_least
below-least c h = let k = c.constant in let l = least_of c in omega (whole, h, sub_law k l, add_law (k -ℤ l) (pos 1))

pub from-least : (c : Comparison) → pos 1 ≤ℤ over_least c → least_of c ≤ℤ c.constant
unfolding over_least
from-least c h = let k = c.constant in let l = least_of c in omega (whole, h, sub_law k l, add_law (k -ℤ l) (pos 1))

abbrev pub ranges_of : Comparison → List Bounds
ranges_of c = map slot_bounds (slots_of c)

-- the literals of each tuple
unfoldable pub literals_of : Comparison → List (List ℤ)
literals_of c = map (zip_with slot_literal (slots_of c)) (tuples (ranges_of c) (c.constant -ℤ pos c.n +ℤ pos 1))

-- what 01 admits
pub record FairComparison (c : Comparison) : Type 0 where
  pub few : c.n ≤ 3
  pub counted : length (slots_of c) ≡ c.n
  pub slots : All FairSlot (slots_of c)
  pub near : nat_abs c.constant ≤ 1000000

-- ---- a walk over it: in front of the terms' ranges stands 0 .. 0 for each that it lacks
unfoldable pub padded_ranges : Comparison → List Bounds
padded_ranges c = replicate (3 - c.n) no_term ++ ranges_of c

abbrev pub placed : Bounds → Place
placed r = record { lo = r.lo; k = 0; w = size (r.hi -ℤ r.lo) }

unfoldable pub Walking : Comparison → Option Walk → Type 0
Walking c cur = Over (map placed (padded_ranges c)) cur

-- the literals of a padded tuple, of the present one, and of each to come
unfoldable pub literals_at : Comparison → List ℤ → List ℤ
literals_at c bs = zip_with slot_literal (slots_of c) (drop (3 - c.n) bs)

unfoldable pub present : Comparison → Walk → List ℤ
present c w = literals_at c (seen w)

unfoldable pub to_come : Comparison → Option Walk → List (List ℤ)
to_come c cur = map (literals_at c) (tuples_left cur)

-- ---- what a step shows
pub none_left : (c : Comparison) → to_come c None ≡ []
unfolding to_come tuples_left
none_left c = refl

module _ (c : Comparison) (w : Walk) where
  pub walking_fine : Walking c (Some w) → All Fine (places_of w)
  unfolding Walking Over
  walking_fine o = o.0

  pub present-length : FairComparison c → length (present c w) ≡ c.n
  unfolding present literals_at seen zip_with
  present-length f = zip_length (slots_of c) (drop (3 - c.n) (seen w)) (omega (arith, f.counted, f.few, length-drop (3 - c.n) (seen w)))
      ∙ f.counted
    where
      zip_length : (ss : List Slot) (bs : List ℤ) → length ss ≡ length bs → length (zip_with slot_literal ss bs) ≡ length ss
      zip_length [] bs h = refl
      zip_length (s ∷ ss) [] h = absurd (omega arith)
      zip_length (s ∷ ss) (b ∷ bs) h = ap suc (zip_length ss bs (omega arith))

-- ---- what it is of a board's comparison, where f numbers the variables
pub record ShowsBy (B : Board) (f : ℕ → ℕ) (q : board.Comparison) (c : Comparison) : Type 0 where
  pub counted : c.n ≡ length q.terms
  pub terms : slots_of c ≡ map (slot_of B f) q.terms
  pub constant : c.constant ≡ q.constant

-- under the board's own numbers
abbrev pub Shows : Board → board.Comparison → Comparison → Type 0
Shows B = ShowsBy B (first B)

module _ (B : Board) (f : ℕ → ℕ) where
  slots_ranges : (ts : List Term) → map slot_bounds (map (slot_of B f) ts) ≡ ranges (bounds_of B) ts
  unfolding slot_bounds
  slots_ranges [] = refl
  slots_ranges (t ∷ ts) = ap₂ ◌∷◌ (ap (λ r. record { lo = r.lo -ℤ pos 1; hi = r.hi }) (value_bounds_lem B f t)) (slots_ranges ts)

  slots_least : (ts : List Term) → sum_z (map (λ s. (value_bounds s).lo) (map (slot_of B f) ts)) ≡ least (bounds_of B) ts
  unfolding least
  slots_least [] = refl
  slots_least (t ∷ ts) = ap₂ ◌+ℤ◌ (ap (λ r. r.lo) (value_bounds_lem B f t)) (slots_least ts)

slots_literals : (B : Board) (ts : List Term) (bs : List ℤ) → zip_with slot_literal (map (slot_of B (first B)) ts) bs ≡ map (literal_number B) (zip_with sharp ts bs)
unfolding zip_with
slots_literals B [] bs = refl
slots_literals B (t ∷ ts) [] = refl
slots_literals B (t ∷ ts) (b ∷ bs) = ap₂ ◌∷◌ (slot_literal_lem B t b) (slots_literals B ts bs)

module _ (B : Board) {f : ℕ → ℕ} (q : board.Comparison) (c : Comparison) (h : ShowsBy B f q c) where
  pub shows_least : least_of c ≡ least (bounds_of B) q.terms
  unfolding least_of
  shows_least = ap (λ ss. sum_z (map (λ s. (value_bounds s).lo) ss)) h.terms ∙ slots_least B f q.terms

  -- the literals of the board's tuples, whatever f is
  by_tuples : literals_of c ≡ map (zip_with slot_literal (map (slot_of B f) q.terms)) (tuples_of (bounds_of B) q)
  unfolding literals_of tuples_of
  by_tuples =
      let ss = map (slot_of B f) q.terms in
      ap (λ l. map (zip_with slot_literal l) (tuples (map slot_bounds l) (c.constant -ℤ pos c.n +ℤ pos 1))) h.terms
      ∙ ap (λ rs. map (zip_with slot_literal ss) (tuples rs (c.constant -ℤ pos c.n +ℤ pos 1))) (slots_ranges B f q.terms)
      ∙ ap₂ (λ k n. map (zip_with slot_literal ss) (tuples (ranges (bounds_of B) q.terms) (k -ℤ pos n +ℤ pos 1))) h.constant h.counted

  pub shows_count : length (literals_of c) ≡ length (tuples_of (bounds_of B) q)
  shows_count = ap length by_tuples ∙ length-map (tuples_of (bounds_of B) q) (zip_with slot_literal (map (slot_of B f) q.terms))

pub shows_literals : (B : Board) (q : board.Comparison) (c : Comparison) → Shows B q c
    → literals_of c ≡ map (λ bs. map (literal_number B) (zip_with sharp q.terms bs)) (tuples_of (bounds_of B) q)
shows_literals B q c h =
    let bss = tuples_of (bounds_of B) q in
    by_tuples B q c h ∙ map_same _ _ bss (all_every _ (slots_literals B q.terms) bss)
