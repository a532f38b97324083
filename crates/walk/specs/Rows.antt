-- Rows: tuples one after another that differ in the last two places alone, and the literals along them. Assumes nothing.
use Rattle.std.specs.Prelude.{◌≡◌, List, [], ◌∷◌, ◌++◌, map, length, drop, ℤ, pos, nat_abs, ◌+ℤ◌, ◌-ℤ◌, ◌≤ℤ◌, Option, Some, None}
use Rattle.std.proofs.Math.Path.{refl, ap}
use Rattle.std.proofs.Common.{sym, ◌∙◌}
use Prim.Native.Nat.{ℕ, zero, suc, min, ◌+◌, ◌-◌, ◌*◌, ◌≤◌, ◌<◌}
use native.Mathlib.Omega.{arith}
use Rattle.std.proofs.Math.ListN.{length-map}
use Rattle.walk.specs.declared.Slot.{Slot}
use Rattle.walk.specs.declared.Place.{Place}
use Rattle.walk.specs.declared.Spot.{Spot}
use Rattle.walk.specs.declared.Run.{Run}
use Rattle.walk.specs.declared.Row.{Row}
use Rattle.walk.specs.declared.Row.TheVariants.{One, Many}
use Rattle.walk.specs.declared.Comparison.{Comparison}
use Rattle.walk.specs.declared.Walk.{Walk}
use Rattle.walk.specs.Slots.{FairSlot, slot_bounds, slot_literal}
use Rattle.walk.specs.Walks.{moved, Fine}
use Rattle.walk.specs.Comparisons.{Walking, present, to_come}

-- ---- the tuples of a row
-- i tuples on: the last place holds i less, the one before it i more
abbrev pub along : Walk → ℕ → Walk
along w i = record { a = w.a; b = moved w.b (w.b.k + i); c = moved w.c (w.c.k - i) }

unfoldable pub run : Walk → ℕ → ℕ → List Walk
run w i zero = []
run w i (suc n) = along w i ∷ run w (suc i) n

-- how many the row has from the present tuple on
abbrev pub row_length : Walk → ℕ
row_length w = suc (min (w.b.w - w.b.k) w.c.k)

-- these tuples
abbrev pub row_of : Walk → List Walk
row_of w = run w 0 (row_length w)

-- their clauses, each as its literals
unfoldable pub row_clauses : Comparison → Walk → List (List ℤ)
row_clauses c w = map (present c) (row_of w)

-- r stands behind the row of w
abbrev pub After : Comparison → Walk → Option Walk → Type 0
After c w r = Walking c r × (to_come c (Some w) ≡ row_clauses c w ++ to_come c r)

-- ---- a literal along a row
-- r more than k is a multiple of d, and none lies between
pub record Rest (d k r : ℕ) : Type 0 where
  pub times : ℕ
  pub whole : k + r ≡ d * times
  pub short : r < d

-- a place that stands in the range of a slot
pub record Placed (s : Slot) (p : Place) : Type 0 where
  pub fair : FairSlot s
  pub fine : Fine p
  pub low : p.lo ≡ (slot_bounds s).lo
  pub high : ((slot_bounds s).lo +ℤ pos p.k) ≤ℤ (slot_bounds s).hi

-- what a spot says of a slot at the offset k
pub record Holds (s : Slot) (k : ℕ) (p : Spot) : Type 0 where
  pub size : p.d ≡ nat_abs s.coefficient
  pub rest : Rest p.d k p.r
  pub literal : p.literal ≡ slot_literal s ((slot_bounds s).lo +ℤ pos k)

-- what the code computes with: it can be stepped n times
pub record Steady (p : Spot) (n : ℕ) : Type 0 where
  pub short : p.r < p.d
  pub few : p.d ≤ 64
  pub near : nat_abs p.literal + n ≤ 40000000

-- at the next offset, and at the one before
abbrev pub raised_by : Spot → ℕ → Spot
raised_by p zero = record { d = p.d; r = p.d - 1; literal = p.literal +ℤ pos 1 }
raised_by p (suc r) = record { d = p.d; r = r; literal = p.literal }

abbrev pub lowered_by : Spot → ℕ → Spot
lowered_by p zero = record { d = p.d; r = 0; literal = p.literal -ℤ pos 1 }
lowered_by p (suc n) = record { d = p.d; r = p.r + 1; literal = p.literal }

unfoldable pub raised : Spot → Spot
raised p = raised_by p p.r

unfoldable pub lowered : Spot → Spot
lowered p = lowered_by p (p.d - (p.r + 1))

-- the literals of so many tuples of a row, behind those that stay
unfoldable pub row_from : List ℤ → Spot → Spot → ℕ → List (List ℤ)
row_from fixed y z zero = []
row_from fixed y z (suc n) = (fixed ++ (y.literal ∷ z.literal ∷ [])) ∷ row_from fixed (raised y) (lowered z) n

-- a literal in front of others, or none
abbrev pub front_of : Option ℤ → List ℤ
front_of None = []
front_of (Some l) = l ∷ []

-- the clauses of a run, and the first of them
abbrev pub first_in : Run → List ℤ
first_in run = front_of run.front ++ (run.y.literal ∷ run.z.literal ∷ [])

unfoldable pub in_run : Run → List (List ℤ)
in_run run = row_from (front_of run.front) run.y run.z run.count

pub record ReadyRun (run : Run) : Type 0 where
  pub rising : Steady run.y run.count
  pub falling : Steady run.z run.count

-- the clauses of a row
abbrev pub in_row : Row → List (List ℤ)
in_row (One front) = front_of front ∷ []
in_row (Many run) = in_run run

abbrev pub Ready : Row → Type 0
Ready (One front) = Unit {0}
Ready (Many run) = ReadyRun run

pub row_count : (fixed : List ℤ) (y z : Spot) (n : ℕ) → length (row_from fixed y z n) ≡ n
unfolding row_from
row_count fixed y z zero = refl
row_count fixed y z (suc n) = ap suc (row_count fixed (raised y) (lowered z) n)

module _ (fixed : List ℤ) (y z : Spot) where
  pub row_none : (n : ℕ) → n ≡ 0 → row_from fixed y z n ≡ []
  unfolding row_from
  row_none zero h = refl
  row_none (suc n) h = absurd (omega arith)

  pub row_next : (n : ℕ) → 0 < n → row_from fixed y z n ≡ (fixed ++ (y.literal ∷ z.literal ∷ [])) ∷ row_from fixed (raised y) (lowered z) (n - 1)
  unfolding row_from
  row_next zero h = absurd (omega arith)
  row_next (suc n) h = let e : n ≡ suc n - 1 = omega arith in ap (λ m. (fixed ++ (y.literal ∷ z.literal ∷ [])) ∷ row_from fixed (raised y) (lowered z) m) e

pub run-first : (run : Run) → 0 < run.count → in_run run ≡ first_in run ∷ drop 1 (in_run run)
unfolding in_run
run-first run h = let e = row_next (front_of run.front) run.y run.z run.count h in e ∙ ap (λ l. first_in run ∷ l) (sym (ap (drop 1) e))

pub run_none : (run : Run) → run.count ≡ 0 → in_run run ≡ []
unfolding in_run
run_none run h = row_none (front_of run.front) run.y run.z run.count h

-- ---- what a row shows
run_length : (w : Walk) (i n : ℕ) → length (run w i n) ≡ n
unfolding run
run_length w i zero = refl
run_length w i (suc n) = ap suc (run_length w (suc i) n)

module _ (c : Comparison) (w : Walk) where
  -- a clause for each tuple
  pub row-size : length (row_clauses c w) ≡ row_length w
  unfolding row_clauses
  row-size = length-map (row_of w) (present c) ∙ run_length w 0 (row_length w)

  pub row_some : 0 < length (row_clauses c w)
  row_some = omega (arith, row-size)
