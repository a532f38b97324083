-- What a walk by rows is spared: the last bound follows from the others, and every step is a tuple. Assumes nothing.
use Rattle.std.specs.Prelude.{◌≡◌, ℕ, suc, min, ◌+◌, ◌-◌, ◌≤◌, ℤ, pos, ◌+ℤ◌, ◌-ℤ◌, ◌≤ℤ◌, Option, Some, None}
use Rattle.std.proofs.Math.Path.{sym, ap}
use Rattle.std.proofs.Common.{◌∙◌, arith}
use mathlib.Core.List.{List, [], ◌∷◌, ◌++◌, map, flatten, zip_with}
use Rattle.std.proofs.Math.ListN.{length, length-append}
use Rattle.definitions.specs.Tools.{sum, size}
use Rattle.definitions.specs.Board.{Bounds}
use Rattle.definitions.specs.Encoding.{tuples}
use Rattle.laws.specs.Whole.{whole, add_law, sub_law, part_law}
use Rattle.laws.specs.Runs.{over}
use Rattle.laws.specs.Offsets.{offsets, beginning, later, lowest, start}
use Rattle.laws.specs.Tuples.{lows, shift, tuples-offsets}
use Rattle.walk.specs.declared.Comparison.{Comparison}
use Rattle.walk.specs.declared.Walk.{Walk}
use Rattle.walk.specs.Comparisons.{Walking, to_come, literals_of, none_left}
use Rattle.walk.specs.Rows.{row_length, row_clauses, After, row-size}

-- ---- the last bound is what the others leave of the sum: it is never tried
one_offset : (w t : ℕ) → t ≤ w → offsets (w ∷ []) t ≡ (t ∷ []) ∷ []
unfolding offsets later lowest over flatten
one_offset w t h =
    let z : t - 0 ≡ t = omega arith in
    let m : min (w - t) 0 ≡ 0 = omega arith in
    start (w ∷ []) t (omega arith) ∙ ap (λ k. (k ∷ []) ∷ later (w ∷ []) (k ∷ [])) z ∙ ap (λ n. (t ∷ []) ∷ over (beginning [] (t + 0)) (suc t) n) m

pub last-bound : (r : Bounds) (s : ℤ) → r.lo ≤ℤ s → s ≤ℤ r.hi → tuples (r ∷ []) s ≡ (s ∷ []) ∷ []
unfolding zip_with
last-bound r s l u =
    let t = size (s -ℤ r.lo) in
    let e : r.lo +ℤ pos t ≡ s = omega (whole, add_law r.lo (pos t), sub_law s r.lo, part_law (s -ℤ r.lo)) in
    let inside : t ≤ size (r.hi -ℤ r.lo) = omega (whole, sub_law s r.lo, part_law (s -ℤ r.lo), sub_law r.hi r.lo, part_law (r.hi -ℤ r.lo)) in
    let own : s ≡ (r.lo +ℤ pos 0) +ℤ pos t = omega (whole, add_law r.lo (pos t), add_law r.lo (pos 0), add_law (r.lo +ℤ pos 0) (pos t)) in
    tuples-offsets (r ∷ []) (omega whole, tt) s t own
    ∙ ap (map (shift (lows (r ∷ [])))) (one_offset (size (r.hi -ℤ r.lo)) t inside)
    ∙ ap (λ b. (b ∷ []) ∷ []) e

-- ---- every step is a tuple
module _ (c : Comparison) where
  -- from `cur` on the rows of these tuples come one after another, and then the end
  unfoldable pub ByRows : List Walk → Option Walk → Type 0
  ByRows [] cur = cur ≡ None
  ByRows (w ∷ ws) cur = (cur ≡ Some w) × ((r : Option Walk) × (After c w r × ByRows ws r))

  -- the rows are all clauses to come, each once and in their order
  pub rows_are_all : (ws : List Walk) (cur : Option Walk) → ByRows ws cur → to_come c cur ≡ flatten (map (row_clauses c) ws)
  unfolding ByRows flatten
  rows_are_all [] cur e = ap (to_come c) e ∙ none_left c
  rows_are_all (w ∷ ws) cur (e, (r, (a, h))) = ap (to_come c) e ∙ a.1 ∙ ap (λ l. row_clauses c w ++ l) (rows_are_all ws r h)

  -- a row's loop has a step for each of its tuples: the steps of all rows are as many as the clauses
  pub steps_are_tuples : (ws : List Walk) (cur : Option Walk) → ByRows ws cur → sum (map row_length ws) ≡ length (to_come c cur)
  unfolding ByRows
  steps_are_tuples [] cur e = sym (ap length (ap (to_come c) e ∙ none_left c))
  steps_are_tuples (w ∷ ws) cur (e, (r, (a, h))) =
      omega (arith, ap (λ z. length (to_come c z)) e, ap length a.1, length-append (row_clauses c w) (to_come c r), row-size c w, steps_are_tuples ws r h)

  -- of a whole walk: as many steps as 01 has clauses for the comparison
  pub walk_steps : (ws : List Walk) (cur : Option Walk) → Walking c cur × (to_come c cur ≡ literals_of c) → ByRows ws cur → sum (map row_length ws) ≡ length (literals_of c)
  walk_steps ws cur s h = steps_are_tuples ws cur h ∙ ap length s.1
