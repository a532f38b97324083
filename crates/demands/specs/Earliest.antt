-- P9, the earliest closing hour: where the replies are true, Closing finds the least value of the variable over all solutions,
-- within 14 questions. Assumes nothing.
use Rattle.std.specs.Prelude.{◌≡◌, ◌↔◌, ◌≢◌, Bool, List, [], ◌∷◌, ◌++◌, T, get_or, take, drop, ℤ, pos, ◌≤ℤ◌}
use Rattle.std.proofs.Math.Path.{refl, ap}
use Rattle.std.proofs.Common.{sym, ◌∙◌, inl, inr, arith, take-append-drop}
use Rattle.std.proofs.Math.Bool.{true, false}
use Prim.Native.Nat.{ℕ, zero, suc, ◌≤◌, ◌<◌}
use Rattle.std.proofs.Math.Dec.{ltb}
use borrow.Author.Tests.{ltb-true, lt-ltb}
use Rattle.std.proofs.Math.ListN.{length}
use Rattle.definitions.specs.Tools.{All}
use Rattle.definitions.specs.Board.{Bounds, Board, bounds_of, variables}
use Rattle.definitions.specs.Result.{Result, done, refused, need}
use Rattle.definitions.specs.Meaning.{assigned, in_bounds, Solution}
use Rattle.definitions.specs.Operations.{accepted, bits}
use Rattle.definitions.specs.Closing.{Earliest, found, none, unfinished, after, closing_outcome}
use Rattle.laws.specs.Whole.{whole}
use Rattle.laws.specs.Lists.{append-all, count_up-all}
use Rattle.laws.specs.Decide.{is_within}
use Rattle.laws.specs.Readings.{never}
use Rattle.laws.specs.Halving.{after-end}
use Rattle.laws.specs.Admitted.{GoodBounds}
use Rattle.laws.specs.Terms.{good_bounds}
use Rattle.laws.specs.Reread.{accepted_admitted}
use Rattle.demands.specs.Records.{Admits, accepted_exactly}
use Rattle.demands.specs.Passed.{and_then}
use Rattle.demands.specs.Accepts.{bytes}
use Rattle.demands.specs.Questions.{adding, Solved, Least, a_question_means}
use Rattle.demands.specs.Bisection as bisection
use Rattle.demands.specs.Driving.{driven}
use Rattle.demands.specs.Driving as driving

-- ---- which values x has in solutions
record Met (B : Board) (x : ℕ) (v : ℤ) : Type 0 where
  pub values : List ℤ
  pub bools : List ℕ
  pub solution : Solution B values bools
  pub here : get_or values x (pos 0) ≡ v

met : {B : Board} (x : ℕ) (values : List ℤ) (bools : List ℕ) → Solution B values bools → Met B x (get_or values x (pos 0))
met x values bools s = record { values = values; bools = bools; solution = s; here = refl }

at-most : (B : Board) (x : ℕ) (h : ℤ) → Solved (adding B x h) ↔ bisection.AtMost (Met B x) h
at-most B x h =
    let q = a_question_means B x h in (
      λ s. (let k = q.0 s in record { met = get_or k.values x (pos 0); is_met = met x k.values k.bools k.solution; most = k.early }),
      λ a. (let m = a.is_met in q.1 (record { values = m.values; bools = m.bools; solution = m.solution; early = rw m.here a.most })),
    )

least-of : (B : Board) (x : ℕ) (v : ℤ) → bisection.Least (Met B x) v → Least B x v
least-of B x v k =
    let m = k.is_met in
    record { values = m.values; bools = m.bools; solution = m.solution; here = m.here; least = λ values bools w. k.least _ (met x values bools w) }

none_of : (B : Board) (x : ℕ) → ((v : ℤ) → Met B x v → ⊥) → ¬ Solved B
none_of B x k w = k _ (met x w.values w.bools w.solution)

met_within : (B : Board) (x : ℕ) → x < length B.bounds → (v : ℤ) → Met B x v → ((bounds_of B x).lo ≤ℤ v) × (v ≤ℤ (bounds_of B x).hi)
unfolding Solution in_bounds assigned variables
met_within B x h v m =
    rw m.here at ((is_within (bounds_of B x).lo (bounds_of B x).hi (get_or m.values x (pos 0))).sound
    (count_up-all (λ x. T (in_bounds B (assigned m.values m.bools) x)) 0 (length B.bounds) m.solution.3 x (omega arith) (omega arith)))

some_of : (i : ℕ) (l : List ℕ) → bits l ≡ done tt → bits (take i l) ≡ done tt
some_of i l k = (bytes (take i l)).1 (append-all (λ b. b ≤ 1) (take i l) (drop i l) (rw take-append-drop ((bytes l).0 k))).0

-- a refusal of the record is passed on
pub closing_passes_it_on : (s : List ℕ) (n d : ℕ) → accepted s ≡ refused n d → (x : ℕ) (replies : List ℕ) → closing_outcome s x replies ≡ refused n d
unfolding closing_outcome
closing_passes_it_on s n d e x replies = rw e

module _ (s : List ℕ) (B : Board) (e : accepted s ≡ done B) (x : ℕ) where
  -- ---- Closing from its first question on
  abbrev start : Earliest
  start = unfinished (bounds_of B x) (bounds_of B x).hi

  closing_is : (replies : List ℕ) → x < length B.bounds → bits replies ≡ done tt → closing_outcome s x replies ≡ after start replies
  unfolding closing_outcome
  closing_is replies h k = rw (e, lt-ltb x (length B.bounds) h, k)

  passed : (replies : List ℕ) {a : Earliest} → closing_outcome s x replies ≡ done a → (x < length B.bounds) × (bits replies ≡ done tt) × (after start replies ≡ done a)
  unfolding closing_outcome
  passed replies d =
      let c = (and_then (need 22 x (ltb x (length B.bounds))) _).0 (rw e at d) in
      let k = (and_then (bits replies) _).0 c.1 in
      (below (ltb x (length B.bounds)) refl c.0, k.0, k.1)
    where
      below : (t : Bool) → ltb x (length B.bounds) ≡ t → need 22 x t ≡ done tt → x < length B.bounds
      below true q c = ltb-true x (length B.bounds) q
      below false q c = never c

  -- it answers exactly where the variable is known, the replies are bytes 0 or 1, and each is to a question
  answers_exactly : (replies : List ℕ) → ((a : Earliest) × (closing_outcome s x replies ≡ done a))
      ↔ ((x < length B.bounds) × All (λ b. b ≤ 1) replies × bisection.Wanted (closing_outcome s x) replies)
  answers_exactly replies = (
    λ d.
        let k = passed replies d.1 in
        let w = bisection.answered-wanted start replies k.2 in
        (k.0, (bytes replies).0 k.1, λ i l. (let q = w i l in record { range = q.range; question = q.question; is = closing_is (take i replies) k.0 (some_of i replies k.1) ∙ q.is })),
    λ k.
        let b = (bytes replies).1 k.1 in
        let a = bisection.wanted-answered start replies (λ i l. let q = k.2 i l in record { range = q.range; question = q.question; is = sym (closing_is (take i replies) k.0 (some_of i replies b)) ∙ q.is }) in
        (a.0, closing_is replies k.0 b ∙ a.1),
  )

  bounds : x < length B.bounds → GoodBounds (bounds_of B x)
  bounds h = good_bounds B (accepted_admitted s B e).bounds x h

  begins_inside : x < length B.bounds → bisection.Inside (bounds_of B x) start
  begins_inside h = let g = bounds h in (omega whole, g.ordered, omega whole, omega whole)

  begins_true : x < length B.bounds → bisection.Tells (Met B x) start
  begins_true h = record { least = λ v m. (met_within B x h v m).0; most = inr (refl, λ v m. (met_within B x h v m).1) }

  ends : x < length B.bounds → bisection.Ends 14 start
  ends h = let g = bounds h in bisection.first_ends 13 (bounds_of B x) (omega (whole, g.lowest, g.highest))

  -- ---- true replies
  -- "every reply is true of the record with that clause added": the reply to question h is 1 exactly where the board has a solution with
  -- 'x is at most h' added. The question is the one that Closing puts after the replies before it
  pub record Truthful (replies : List ℕ) : Type 0 where
    pub each : (i : ℕ) → i < length replies → (r : Bounds) (h : ℤ) → closing_outcome s x (take i replies) ≡ done (unfinished r h) →
        (get_or replies i 0 ≡ 1) ↔ Solved (adding B x h)

  tells : (replies : List ℕ) (a : Earliest) → Truthful replies → closing_outcome s x replies ≡ done a → bisection.Tells (Met B x) a
  tells replies a t d =
      let k = passed replies d in
      bisection.after-tells (Met B x) (bounds_of B x) start replies a (begins_inside k.0) (begins_true k.0)
      (record {
        each = λ i h r q c.
            let w = t.each i h r q (closing_is (take i replies) k.0 (some_of i replies k.1) ∙ c) in
            let p = at-most B x q in
            (λ y. p.0 (w.0 y), λ y. w.1 (p.1 y));
      })
      k.2

  -- "the value found is the least"
  pub the_value_found_is_the_least : (replies : List ℕ) (v : ℤ) → Truthful replies → closing_outcome s x replies ≡ done (found v) → Least B x v
  the_value_found_is_the_least replies v t d = least-of B x v (tells replies (found v) t d)

  -- "a no there ends with 'none'", and nothing else does
  pub a_first_no_ends_with_none : x < length B.bounds → closing_outcome s x (0 ∷ []) ≡ done none
  a_first_no_ends_with_none h = closing_is (0 ∷ []) h refl ∙ bisection.first_no (bounds_of B x) 0 [] (λ z. omega arith) ∙ after-end none

  pub none_comes_of_a_first_no : (replies : List ℕ) → closing_outcome s x replies ≡ done none → replies ≡ 0 ∷ []
  none_comes_of_a_first_no replies d =
      let k = passed replies d in
      let n = bisection.none_first (bounds_of B x) replies (bounds k.0).ordered k.2 in
      let small = rw n.2 at ((bytes replies).0 k.1) in
      let z : n.0 ≡ 0 = (let l = n.1 in let m = small.0 in omega arith) in
      n.2 ∙ ap (λ b. b ∷ []) z

  -- so there is no solution, exactly
  pub none_exactly_where_there_is_no_solution : (replies : List ℕ) (a : Earliest) → Truthful replies → 1 ≤ length replies → closing_outcome s x replies ≡ done a → (a ≡ none) ↔ ¬ Solved B
  none_exactly_where_there_is_no_solution replies a t l d = (
    λ q. none_of B x (tells replies none t (rw q at d)),
    λ n. begun replies t l d n,
  )
    where
      begun : (replies : List ℕ) → Truthful replies → 1 ≤ length replies → closing_outcome s x replies ≡ done a → ¬ Solved B → a ≡ none
      begun [] t l d n = absurd (omega arith)
      begun (b ∷ bs) t l d n =
          let k = passed (b ∷ bs) d in
          let first = t.each 0 (omega arith) (bounds_of B x) (bounds_of B x).hi (closing_is [] k.0 refl ∙ after-end start) in
          let no : b ≢ 1 = λ y. (let q = (a_question_means B x (bounds_of B x).hi).0 (first.0 y) in n (record { values = q.values; bools = q.bools; solution = q.solution })) in
          (bisection.after_none bs a (sym (bisection.first_no (bounds_of B x) b bs no) ∙ k.2)).1

  -- "the range so far" has the least value in it
  pub the_least_is_in_the_range : (replies : List ℕ) (r : Bounds) (h : ℤ) → Truthful replies → closing_outcome s x replies ≡ done (unfinished r h) →
      (v : ℤ) → Least B x v → (r.lo ≤ℤ v) × (v ≤ℤ r.hi)
  the_least_is_in_the_range replies r h t d v m =
      let k = tells replies (unfinished r h) t d in
      let here : Met B x v = record { values = m.values; bools = m.bools; solution = m.solution; here = m.here } in (
        k.least v here,
        elim k.most [
          | inl a ↦ (let w = a.is_met in let q = m.least w.values w.bools w.solution in let y = w.here in omega (whole, a.most))
          | inr z ↦ z.1 v here
        ],
      )

  -- "within 14 questions": after 14 replies, true or not, none is left
  pub no_question_is_left_after_14 : (replies : List ℕ) → 14 ≤ length replies → (r : Bounds) (h : ℤ) → ¬ (closing_outcome s x replies ≡ done (unfinished r h))
  no_question_is_left_after_14 replies l r h d =
      let k = passed replies d in
      bisection.no_question 14 start replies (ends k.0) l r h k.2

  -- the range so far lies within the variable's bounds, and the question in it: there is a p(x,h)
  pub every_question_lies_within_the_bounds : (replies : List ℕ) (r : Bounds) (h : ℤ) → closing_outcome s x replies ≡ done (unfinished r h) →
      ((bounds_of B x).lo ≤ℤ r.lo) × (r.lo ≤ℤ h) × (h ≤ℤ r.hi) × (r.hi ≤ℤ (bounds_of B x).hi)
  every_question_lies_within_the_bounds replies r h d =
      let k = passed replies d in
      bisection.after_inside (bounds_of B x) start replies (unfinished r h) (begins_inside k.0) k.2

  -- ---- a driver
  -- f says of each question whether the board with its clause has a solution: then the replies that f gives to the questions put, 14 of them at
  -- the most, end with the least value, or with 'none' where there is no solution
  pub data Found (answer : Result Earliest) : Type 0 where
    least : (v : ℤ) → answer ≡ done (found v) → Least B x v → Found answer
    nothing : answer ≡ done none → ¬ Solved B → Found answer

  module _ (f : ℤ → Bool) (right : (h : ℤ) → T (f h) ↔ Solved (adding B x h)) (known : x < length B.bounds) where
    -- Closing's replies are those of the search
    alike : (n : ℕ) → driven f (closing_outcome s x) n ≡ driven f (after start) n
    unfolding driven
    alike zero = refl
    alike (suc n) =
        let b = (bytes (driven f (after start) n)).1 (driving.driven-bits f n start) in
        ap (λ l. l ++ driving.reply f (closing_outcome s x l)) (alike n) ∙ ap (λ r. driven f (after start) n ++ driving.reply f r) (closing_is (driven f (after start) n) known b)

    pub a_driver_asks_14_questions_at_most : length (driven f (closing_outcome s x) 14) ≤ 14
    a_driver_asks_14_questions_at_most = rw (alike 14) (driving.driven_few f 14 start)

    ending : (last : Earliest) (replies : List ℕ) → closing_outcome s x replies ≡ done last → bisection.Finished last → bisection.Tells (Met B x) last → Found (closing_outcome s x replies)
    ending (found v) replies d z k = least v d (least-of B x v k)
    ending none replies d z k = nothing d (none_of B x k)
    ending (unfinished r h) replies d z k = absurd z

    pub a_driver_finds_the_least : Found (closing_outcome s x (driven f (closing_outcome s x) 14))
    a_driver_finds_the_least =
        let replies = driven f (after start) 14 in
        let b = (bytes replies).1 (driving.driven-bits f 14 start) in
        let k = driving.driven_ends f 14 start (ends known) in
        let t = driving.driven_true f (Met B x) (λ h. let q = at-most B x h in let y = right h in (λ z. q.0 (y.0 z), λ z. y.1 (q.1 z))) 14 start in
        rw (alike 14)
        (ending k.last replies (closing_is replies known b ∙ k.is) k.finished
        (bisection.after-tells (Met B x) (bounds_of B x) start replies k.last (begins_inside known) (begins_true known) t k.is))

-- ---- the first demand: what Closing accepts
pub closing_accepts_exactly : (s : List ℕ) → All (λ b. b < 256) s → (x : ℕ) (replies : List ℕ) → ((a : Earliest) × (closing_outcome s x replies ≡ done a))
    ↔ ((B : Board) × Admits s B × ((x < length B.bounds) × All (λ b. b ≤ 1) replies × bisection.Wanted (closing_outcome s x) replies))
closing_accepts_exactly s small x replies = (
  λ h. go (accepted s) refl h,
  λ h. (answers_exactly s h.0 ((accepted_exactly s h.0 small).1 h.1) x replies).1 h.2,
)
  where
    go : (m : Result Board) → accepted s ≡ m → ((a : Earliest) × (closing_outcome s x replies ≡ done a))
        → (B : Board) × Admits s B × ((x < length B.bounds) × All (λ b. b ≤ 1) replies × bisection.Wanted (closing_outcome s x) replies)
    go (done B) e h = (B, (accepted_exactly s B small).0 e, (answers_exactly s B e x replies).0 h)
    go (refused n d) e h = never (sym (closing_passes_it_on s n d e x replies) ∙ h.1)
