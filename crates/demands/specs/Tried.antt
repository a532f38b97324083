-- P9, a function that replies truly: whether a board has a solution, found out by trying all values and Booleans. Assumes nothing.
use Rattle.std.specs.Prelude.{◌≡◌, Bool, List, [], ◌∷◌, ℕ, zero, suc, ◌≤◌, ◌<◌, T, length, get_or, ℤ, pos, ◌≤ℤ◌}
use Rattle.std.proofs.Common.{inl, inr, arith}
use Rattle.definitions.specs.Tools.{any, Any, All, range}
use Rattle.definitions.specs.Board.{Bounds, Board, bounds_of}
use Rattle.definitions.specs.Result.{done}
use Rattle.definitions.specs.Meaning.{is_solution}
use Rattle.definitions.specs.Operations.{accepted}
use Rattle.definitions.specs.Closing.{closing_outcome}
use Rattle.laws.specs.Decide.{Decides}
use Rattle.laws.specs.Some.{one_of, some_true}
use Rattle.laws.specs.Tests.{is_solution_decides}
use Rattle.laws.specs.Ranges.{any-range}
use Rattle.demands.specs.Driving.{driven}
use Rattle.demands.specs.Demand3.{a_solution_means}
use Rattle.demands.specs.Questions.{adding, Solved}
use Rattle.demands.specs.Earliest.{Found, a_driver_finds_the_least}

-- ---- a test of some choice: of a value in each range, of n bytes
abbrev pub tries : List Bounds → (List ℤ → Bool) → Bool
tries [] p = p []
tries (b ∷ bs) p = any (λ v. tries bs (λ vs. p (v ∷ vs))) (range b.lo b.hi)

abbrev pub turns : ℕ → (List ℕ → Bool) → Bool
turns zero p = p []
turns (suc n) p = any (λ b. turns n (λ l. p (b ∷ l))) (0 ∷ 1 ∷ [])

-- ---- what a test finds is there
found_in : {A : Type 0} (f : A → Bool) (l : List A) → T (any f l) → (x : A) × T (f x)
found_in f l k = one_of (λ x. T (f x)) l ((some_true f l).sound k)

tries_sound : (bs : List Bounds) (p : List ℤ → Bool) → T (tries bs p) → (vs : List ℤ) × T (p vs)
tries_sound [] p k = ([], k)
tries_sound (b ∷ bs) p k =
    let v = found_in (λ v. tries bs (λ vs. p (v ∷ vs))) (range b.lo b.hi) k in
    let vs = tries_sound bs (λ vs. p (v.0 ∷ vs)) v.1 in
    (v.0 ∷ vs.0, vs.1)

turns_sound : (n : ℕ) (p : List ℕ → Bool) → T (turns n p) → (l : List ℕ) × T (p l)
turns_sound zero p k = ([], k)
turns_sound (suc n) p k =
    let b = found_in (λ b. turns n (λ l. p (b ∷ l))) (0 ∷ 1 ∷ []) k in
    let l = turns_sound n (λ l. p (b.0 ∷ l)) b.1 in
    (b.0 ∷ l.0, l.1)

-- ---- and what is there it finds
module _ (d : Bounds) where
  tries_full : (bs : List Bounds) (p : List ℤ → Bool) (vs : List ℤ) → length vs ≡ length bs
      → ((x : ℕ) → x < length bs → ((get_or bs x d).lo ≤ℤ get_or vs x (pos 0)) × (get_or vs x (pos 0) ≤ℤ (get_or bs x d).hi)) → T (p vs) → T (tries bs p)
  tries_full [] p [] e w k = k
  tries_full [] p (v ∷ vs) e w k = absurd (omega arith)
  tries_full (b ∷ bs) p [] e w k = absurd (omega arith)
  tries_full (b ∷ bs) p (v ∷ vs) e w k =
      let f : ℤ → Bool = λ v. tries bs (λ vs. p (v ∷ vs)) in
      let z = w 0 (omega arith) in
      let more = tries_full bs (λ vs. p (v ∷ vs)) vs (omega arith) (λ x h. w (suc x) (omega arith)) k in
      (some_true f (range b.lo b.hi)).full (any-range (λ v. T (f v)) b.lo b.hi v z.0 z.1 more)

turns_full : (n : ℕ) (p : List ℕ → Bool) (l : List ℕ) → length l ≡ n → All (λ b. b ≤ 1) l → T (p l) → T (turns n p)
turns_full zero p [] e w k = k
turns_full zero p (b ∷ l) e w k = absurd (omega arith)
turns_full (suc n) p [] e w k = absurd (omega arith)
turns_full (suc n) p (b ∷ l) e w k =
    let f : ℕ → Bool = λ b. turns n (λ l. p (b ∷ l)) in
    let more = turns_full n (λ l. p (b ∷ l)) l (omega arith) w.1 k in
    (some_true f (0 ∷ 1 ∷ [])).full (bit (λ b. T (f b)) b w.0 more)
  where
    bit : (P : ℕ → Type 0) (b : ℕ) → b ≤ 1 → P b → Any P (0 ∷ 1 ∷ [])
    bit P zero h k = inl k
    bit P (suc zero) h k = inr (inl k)
    bit P (suc (suc b)) h k = absurd (omega arith)

-- ---- a board
unfoldable pub is_solved : Board → Bool
is_solved B = tries B.bounds (λ values. turns B.bools (λ bools. is_solution B values bools))

pub is_solved_decides : (B : Board) → Decides (is_solved B) (Solved B)
unfolding is_solved bounds_of
is_solved_decides B = record {
  sound = λ k.
      let v = tries_sound B.bounds _ k in
      let b = turns_sound B.bools _ v.1 in
      record { values = v.0; bools = b.0; solution = (is_solution_decides B v.0 b.0).sound b.1 };
  full = λ s.
      let m = (a_solution_means B s.values s.bools).0 s.solution in
      tries_full _ B.bounds _ s.values m.0 m.3 (turns_full B.bools _ s.bools m.1 m.2 ((is_solution_decides B s.values s.bools).full s.solution));
}

-- a driver with this function finds the least value, or that there is none, of every variable of every accepted record
pub trying_all_finds_the_least : (s : List ℕ) (B : Board) (e : accepted s ≡ done B) (x : ℕ) → x < length B.bounds
    → Found s B e x (closing_outcome s x (driven (λ h. is_solved (adding B x h)) (closing_outcome s x) 14))
trying_all_finds_the_least s B e x h =
    a_driver_finds_the_least s B e x (λ h. is_solved (adding B x h)) (λ h. let d = is_solved_decides (adding B x h) in (d.sound, d.full)) h
