-- The plain model in the parts that are written one after another. Assumes nothing.
use Rattle.std.specs.Prelude.{◌≡◌, refl, Bool, true, not, ℕ, suc, ◌+◌, ◌-◌, ◌<◌, length, get_or, eqb, ℤ, ◌+ℤ◌, ◌-ℤ◌, if◌then◌else◌}
use Rattle.std.proofs.Math.Path.{sym, ap, ap₂}
use Rattle.std.proofs.Common.{◌∙◌, arith}
use mathlib.Core.List.{List, [], ◌∷◌, ◌++◌, map, flatten, map-append, map-map}
use Rattle.std.proofs.lemmas.List.{length-map}
use Rattle.std.specs.Int.Signed.{le_z}
use Rattle.std.proofs.Math.IntN.{pos, suc_ℤ}
use Rattle.definitions.specs.Tools.{count_up, size, range}
use Rattle.definitions.specs.Board.{Board, Comparison, Clause, bounds_of, variables, is_true, is_false, at_most}
use Rattle.definitions.specs.Encoding.{Atom, bool, order, selector, orders, comparisons, selected, selections, atoms, width}
use Rattle.definitions.specs.Meaning.{Assignment, on, compares, selection, truth, plain_model}
use Rattle.laws.specs.Lists.{all_every, counted-at, length-count_up, map_same, map-flatten, map_at}
use Rattle.laws.specs.Ranges.{range-shift}
use Rattle.laws.specs.Layout.{orders-count}
use Rattle.laws.specs.Pieces.{Piece, line, under, compared, lone, used, opening, pieces_from}

abbrev pub bit : Bool → ℕ
bit b = if b then 1 else 0

-- the bytes of m Boolean variables
abbrev pub boolean_bytes : List ℕ → List ℕ
boolean_bytes booleans = map (λ i. bit (on booleans i)) (count_up 1 (length booleans))

-- the bytes of a variable's order variables
abbrev pub order_bytes : Board → Assignment → ℕ → List ℕ
order_bytes B a x = map (λ c. bit (le_z (a.α x) c)) (range ((bounds_of B x).lo -ℤ pos 1) (bounds_of B x).hi)

abbrev pub selector_bytes : Assignment → List Comparison → List ℕ
selector_bytes a qs = map (λ q. bit (compares a q)) qs

pub boolean-at : (booleans : List ℕ) (i : ℕ) → i < length booleans → get_or (boolean_bytes booleans) i 0 ≡ bit (eqb (get_or booleans i 0) 1)
unfolding on
boolean-at booleans i h =
    let e : 1 + i - 1 ≡ i = omega arith in
    counted-at (λ i. bit (on booleans i)) 0 1 (length booleans) i h ∙ ap (λ k. bit (eqb (get_or booleans k 0) 1)) e

pub booleans_length : (booleans : List ℕ) → length (boolean_bytes booleans) ≡ length booleans
booleans_length booleans = length-map (count_up 1 (length booleans)) (λ i. bit (on booleans i)) ∙ length-count_up 1 (length booleans)

-- those of a value, for so many numbers from lower - 1 on
abbrev pub order_from : ℤ → ℤ → ℕ → List ℕ
order_from value lower width = map (λ k. bit (le_z value ((lower -ℤ pos 1) +ℤ pos k))) (count_up 0 width)

module _ (value lower : ℤ) (width : ℕ) where
  pub order_at : (i : ℕ) → i < width → get_or (order_from value lower width) i 0 ≡ bit (le_z value ((lower -ℤ pos 1) +ℤ pos i))
  order_at i h =
      let e : 0 + i ≡ i = omega arith in
      counted-at (λ k. bit (le_z value ((lower -ℤ pos 1) +ℤ pos k))) 0 0 width i h ∙ ap (λ k. bit (le_z value ((lower -ℤ pos 1) +ℤ pos k))) e

  pub orders-length : length (order_from value lower width) ≡ width
  orders-length = length-map (count_up 0 width) (λ k. bit (le_z value ((lower -ℤ pos 1) +ℤ pos k))) ∙ length-count_up 0 width

module _ (B : Board) (a : Assignment) where
  pub orders-from : (x : ℕ) → order_bytes B a x ≡ order_from (a.α x) (bounds_of B x).lo (width (bounds_of B x))
  orders-from x =
      let b = bounds_of B x in
      let l = b.lo -ℤ pos 1 in
      ap (map (λ c. bit (le_z (a.α x) c))) (range-shift l b.hi)
      ∙ map-map (λ c. bit (le_z (a.α x) c)) (λ k. l +ℤ pos k) (count_up 0 (size (suc_ℤ b.hi -ℤ l)))
      ∙ ap (order_from (a.α x) b.lo) (orders-count b)

  abbrev byte : Atom → ℕ
  byte v = bit (truth B a v)

  ordered : (x : ℕ) → map byte (orders (bounds_of B) x) ≡ order_bytes B a x
  unfolding orders truth
  ordered x = map-map byte (order x) (range ((bounds_of B x).lo -ℤ pos 1) (bounds_of B x).hi)

  selectors : map byte (map selector (count_up 0 (length (selections B)))) ≡ selector_bytes a (selections B)
  unfolding truth selection
  selectors =
      map-map byte selector (count_up 0 (length (selections B)))
      ∙ sym (map-map (λ q. bit (compares a q)) (λ j. selection B j) (count_up 0 (length (selections B))))
      ∙ ap (map (λ q. bit (compares a q))) (map_at _ (selections B))

  pub plain_parts : plain_model B a ≡ (map (λ i. bit (a.β i)) (count_up 1 B.bools) ++ flatten (map (order_bytes B a) (variables B))) ++ selector_bytes a (selections B)
  unfolding plain_model atoms truth
  plain_parts =
      let ours = map bool (count_up 1 B.bools) in
      let these = flatten (map (orders (bounds_of B)) (variables B)) in
      map-append byte (ours ++ these) (map selector (count_up 0 (length (selections B))))
      ∙ ap₂ ◌++◌
      (map-append byte ours these
      ∙ ap₂ ◌++◌ (map-map byte bool (count_up 1 B.bools))
      (map-flatten byte (map (orders (bounds_of B)) (variables B))
      ∙ ap flatten (map-map (map byte) (orders (bounds_of B)) (variables B) ∙ map_same _ _ (variables B) (all_every _ ordered (variables B)))))
      selectors

-- ---- the comparisons that have a selector, as the pieces of the rules have them
unfoldable pub led_in : List Piece → List Comparison
led_in [] = []
led_in (line j C ∷ ps) = led_in ps
led_in (under [] q ∷ ps) = led_in ps
led_in (under (l ∷ lead) q ∷ ps) = q ∷ led_in ps

led-compared : (j : ℕ) (qs : List Comparison) (ps : List Piece) → led_in (compared true j qs ++ ps) ≡ qs ++ led_in ps
unfolding led_in compared
led-compared j [] ps = refl
led-compared j (q ∷ qs) ps = ap (λ z. q ∷ z) (led-compared (suc j) qs ps)

led-clause : (j : ℕ) (C : Clause) (ps : List Piece) → led_in (opening (lone C) j C ++ (compared (not (lone C)) j (comparisons C) ++ ps)) ≡ selected C ++ led_in ps
unfolding led_in compared lone comparisons selected
led-clause j [] ps = refl
led-clause j (is_true b ∷ []) ps = refl
led-clause j (is_false b ∷ []) ps = refl
led-clause j (at_most q ∷ []) ps = refl
led-clause j (is_true b ∷ l ∷ C) ps = led-compared j (comparisons (l ∷ C)) ps
led-clause j (is_false b ∷ l ∷ C) ps = led-compared j (comparisons (l ∷ C)) ps
led-clause j (at_most q ∷ l ∷ C) ps = ap (λ z. q ∷ z) (led-compared (suc j) (comparisons (l ∷ C)) ps)

pub led-selected : (j : ℕ) (Cs : List Clause) → led_in (pieces_from j Cs) ≡ flatten (map selected Cs)
unfolding led_in pieces_from flatten
led-selected j [] = refl
led-selected j (C ∷ Cs) = led-clause j C _ ∙ ap (λ z. selected C ++ z) (led-selected (j + used (not (lone C)) (length (comparisons C))) Cs)
