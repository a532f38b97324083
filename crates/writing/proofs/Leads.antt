-- The numbers of a row's clauses in their parts, and those of the tuples to come. Assumes nothing.
use Rattle.std.proofs.Common.{FitsSigned, w32, to_z, of_z, to_z-of_z}
use mathlib.Core.Path.{◌≡◌, refl, sym, ap, ap₂, ◌∙◌, subst}
use mathlib.Core.List.{List, [], ◌∷◌, ◌++◌, map, flatten, map-append, append_assoc, append-nil}
use Prim.Native.Nat.{ℕ, ◌+◌, ◌-◌, ◌<◌}
use native.Mathlib.Omega.{arith}
use lib.ListN.{drop}
use lib.IntN.{ℤ, pos, ◌+ℤ◌, ◌-ℤ◌}
use Rattle.std.specs.Prelude.{◌<ℤ◌, ◌≤ℤ◌}
use Rattle.laws.specs.Limits.{numbers_limit}
use Rattle.laws.specs.Signs.{plus_is, minus_is}
use Rattle.laws.specs.Lists.{flatten-append}
use Rattle.walk.specs.declared.Comparison.{Comparison}
use Rattle.walk.specs.declared.Walk.{Walk}
use Rattle.std.specs.Prelude.{Option, Some, None}
use Rattle.walk.specs.declared.Spot.{Spot}
use Rattle.walk.specs.declared.Run.{Run}
use Rattle.walk.specs.Rows.{front_of, raised, lowered, in_run, ReadyRun, run-first, run_none, row_next}
use Rattle.walk.specs.Comparisons.{to_come, none_left, over_least, literals_of, below-least, from-least}
use Rattle.walk.proofs.Runs.{raised_steady, lowered_steady}
use Rattle.writing.specs.Axioms.{steps_from, axiom_numbers, steps_more, steps_none}
use Rattle.writing.specs.Numbers.{clause, flat, stays, led, led_none, led-more, under_lead, under_low, under-high}

-- what is said of two numbers that fit is said of them as words
pub as_words : {y z : ℤ} (P : ℤ → ℤ → Type 0) → FitsSigned w32 y → FitsSigned w32 z → P y z → P (to_z w32 (of_z w32 y)) (to_z w32 (of_z w32 z))
as_words {y} {z} P f g h = subst (λ u. P u (to_z w32 (of_z w32 z))) (sym (to_z-of_z f)) (subst (P y) (sym (to_z-of_z g)) h)

-- ---- rows
pub clause_behind : (fixed ls : List ℤ) → clause (fixed ++ ls) ≡ fixed ++ clause ls
unfolding clause
clause_behind fixed ls = append_assoc fixed ls (pos 0 ∷ [])

pub clause_pair : (y z : ℤ) → clause (y ∷ z ∷ []) ≡ (y ∷ []) ++ ((z ∷ []) ++ (pos 0 ∷ []))
unfolding clause
clause_pair y z = refl

pub clause_end : (fixed : List ℤ) → clause fixed ≡ fixed ++ (pos 0 ∷ [])
unfolding clause
clause_end fixed = refl

led_next : (lead front : Option ℤ) (ls : List ℤ) (cs : List (List ℤ)) → led lead ((front_of front ++ ls) ∷ cs) ≡ clause (stays lead front ++ ls) ++ led lead cs
led_next lead front ls cs = led-more lead (front_of front ++ ls) cs ∙ ap (λ l. clause l ++ led lead cs) (sym (append_assoc (front_of lead) (front_of front) ls))

module _ (lead : Option ℤ) (run : Run) where
  pub run_end : run.count ≡ 0 → led lead (in_run run) ≡ []
  run_end h = ap (led lead) (run_none run h) ∙ led_none lead

  pub run_more : 0 < run.count → led lead (in_run run) ≡ clause (stays lead run.front ++ (run.y.literal ∷ run.z.literal ∷ [])) ++ led lead (drop 1 (in_run run))
  run_more h = ap (led lead) (run-first run h) ∙ led_next lead run.front (run.y.literal ∷ run.z.literal ∷ []) (drop 1 (in_run run))

-- ---- a run whose literals move with each clause
abbrev unit : ℤ → Spot
unit l = record { d = 1; r = 0; literal = l }

abbrev pub unit_run : Option ℤ → ℤ → ℤ → ℕ → Run
unit_run front y z n = record { front = front; y = unit y; z = unit z; count = n }

pub unit_is : (run : Run) → ReadyRun run → run.y.d + run.z.d < 3 → run ≡ unit_run run.front run.y.literal run.z.literal run.count
unit_is run ready h = ap₂ (λ y z. record { front = run.front; y = y; z = z; count = run.count }) (one-step run.y (omega (arith, ready.rising.short, ready.falling.short)) (omega (arith, ready.rising.short, ready.falling.short))) (one-step run.z (omega (arith, ready.rising.short, ready.falling.short)) (omega (arith, ready.rising.short, ready.falling.short)))
  where
    one-step : (p : Spot) → p.d ≡ 1 → p.r ≡ 0 → p ≡ unit p.literal
    one-step p d r = ap₂ (λ a b. record { d = a; r = b; literal = p.literal }) d r

pub units_more : (lead front : Option ℤ) (y z : ℤ) (n : ℕ) → 0 < n
    → led lead (in_run (unit_run front y z n)) ≡ clause (stays lead front ++ (y ∷ z ∷ [])) ++ led lead (in_run (unit_run front (y +ℤ pos 1) (z -ℤ pos 1) (n - 1)))
unfolding in_run raised lowered
units_more lead front y z n h = ap (led lead) (row_next (front_of front) (unit y) (unit z) n h) ∙ led_next lead front (y ∷ z ∷ []) (in_run (unit_run front (y +ℤ pos 1) (z -ℤ pos 1) (n - 1)))

pub units_ready : (front : Option ℤ) (y z : ℤ) (n : ℕ) → 0 < n → ReadyRun (unit_run front y z n) → ReadyRun (unit_run front (y +ℤ pos 1) (z -ℤ pos 1) (n - 1))
unfolding raised lowered
units_ready front y z n h ready = record { rising = raised_steady (unit y) n h ready.rising; falling = lowered_steady (unit z) n h ready.falling }

pub led-append : (lead : Option ℤ) (cs ds : List (List ℤ)) → led lead (cs ++ ds) ≡ led lead cs ++ led lead ds
unfolding flat
led-append lead cs ds =
    ap (λ l. flatten (map clause l)) (map-append (λ ls. front_of lead ++ ls) cs ds)
    ∙ ap flatten (map-append clause (map (λ ls. front_of lead ++ ls) cs) (map (λ ls. front_of lead ++ ls) ds))
    ∙ flatten-append (map clause (map (λ ls. front_of lead ++ ls) cs)) (map clause (map (λ ls. front_of lead ++ ls) ds))

pub led-single : (lead : Option ℤ) (ls : List ℤ) → led lead (ls ∷ []) ≡ clause (front_of lead ++ ls)
led-single lead ls = led-more lead ls [] ∙ ap (λ l. clause (front_of lead ++ ls) ++ l) (led_none lead) ∙ append-nil (clause (front_of lead ++ ls))

-- a clause of fewer than two terms is a row by itself
pub led_alone : (lead front : Option ℤ) → led lead (front_of front ∷ []) ≡ clause (stays lead front)
led_alone lead front = led-single lead (front_of front)

-- ---- what a comparison adds under a lead, by how far its constant is over the least sum
pub under_below : (lead : Option ℤ) (c : Comparison) (t : ℤ) → t ≡ over_least c → t <ℤ pos 1 → under_lead lead c ≡ led lead ([] ∷ [])
under_below lead c t e h = under_low lead c (below-least c (subst (λ z. z <ℤ pos 1) e h))

pub under_above : (lead : Option ℤ) (c : Comparison) (t : ℤ) → t ≡ over_least c → pos 1 ≤ℤ t → under_lead lead c ≡ led lead (literals_of c)
under_above lead c t e h = under-high lead c (from-least c (subst (λ z. pos 1 ≤ℤ z) e h))

-- ---- the clauses of the tuples to come
module _ (c : Comparison) (lead : Option ℤ) (cur : Option Walk) where
  pub led-end : cur ≡ None → led lead (to_come c cur) ≡ []
  led-end q = ap (led lead) (ap (to_come c) q ∙ none_left c) ∙ led_none lead

  -- a row, and then the rest
  pub led_on : (w : Walk) → cur ≡ Some w → (row rest : List (List ℤ)) → to_come c (Some w) ≡ row ++ rest → led lead (to_come c cur) ≡ led lead row ++ led lead rest
  led_on w q row rest e = ap (led lead) (ap (to_come c) q ∙ e) ∙ led-append lead row rest

-- ---- the axioms of a variable: two clauses of one literal, and its steps. The numbers are words
abbrev pub negated : ℕ → ℤ
negated i = to_z w32 (of_z w32 (pos 0 -ℤ to_z w32 i))

-- n steps: the first, and m more from the number k on
pub steps_on : (i n m k : ℕ) → n ≡ m + 1 → k ≡ i + 1 → i + n < numbers_limit → steps_from i n ≡ clause (negated i ∷ to_z w32 (i + 1) ∷ []) ++ steps_from k m
unfolding clause
steps_on i n m k e ek h =
    let fewer : n - 1 ≡ m = omega arith in
    steps_more i n (omega arith)
    ∙ ap₂ (λ u v. u ∷ v ∷ pos 0 ∷ steps_from (i + 1) (n - 1)) (sym (minus_is i (omega arith))) (sym (plus_is (i + 1) (omega arith)))
    ∙ ap₂ (λ a b. negated i ∷ to_z w32 (i + 1) ∷ pos 0 ∷ steps_from a b) (sym ek) fewer

step_alone : (i : ℕ) → i + 1 < numbers_limit → steps_from i 1 ≡ clause (negated i ∷ to_z w32 (i + 1) ∷ [])
step_alone i h =
    let one = clause (negated i ∷ to_z w32 (i + 1) ∷ []) in
    steps_on i 1 0 (i + 1) (omega arith) (omega arith) h ∙ ap (λ l. one ++ l) (steps_none (i + 1) 0 refl) ∙ append-nil one

-- a step is two literals, and 0
pub step_words : (i : ℕ) → i + 1 < numbers_limit → steps_from i 1 ≡ (negated i ∷ []) ++ ((to_z w32 (i + 1) ∷ []) ++ (pos 0 ∷ []))
step_words i h = step_alone i h ∙ clause_pair (negated i) (to_z w32 (i + 1))

-- n steps are one, and m more
pub steps_next : (i n m k : ℕ) → n ≡ m + 1 → k ≡ i + 1 → i + n < numbers_limit → steps_from i n ≡ steps_from i 1 ++ steps_from k m
steps_next i n m k e ek h = steps_on i n m k e ek h ∙ ap (λ l. l ++ steps_from k m) (sym (step_alone i (omega arith)))

pub axioms_on : (i w : ℕ) → i + w < numbers_limit → axiom_numbers i w ≡ clause (negated i ∷ []) ++ (clause (to_z w32 (i + (w - 1)) ∷ []) ++ steps_from i (w - 1))
unfolding clause axiom_numbers
axioms_on i w h = ap₂ (λ a b. a ∷ pos 0 ∷ b ∷ pos 0 ∷ steps_from i (w - 1)) (sym (minus_is i (omega arith))) (sym (plus_is (i + (w - 1)) (omega arith)))
