-- The clauses of an admitted board under a truth of the atoms that tells an assignment (000, section 3 as a whole). Assumes nothing.
use Rattle.std.specs.Prelude.{◌≡◌, ◌↔◌, Bool, ℕ, ◌≤◌, ◌<◌, T, length}
use Rattle.std.proofs.Common.{inl, arith}
use mathlib.Core.List.{[], flatten}
use Rattle.std.proofs.Math.Nat.{zero-add}
use Rattle.std.proofs.Math.IntN.{pos}
use Rattle.definitions.specs.Tools.{All, Any}
use Rattle.definitions.specs.Board.{Board, Literal, bounds_of, variables, is_true, is_false, at_most}
use Rattle.definitions.specs.Encoding.{Atom, bool, selector, axioms_of, clauses_of, axioms, rules, clauses, selections}
use Rattle.definitions.specs.Meaning.{Assignment, satisfies, compares, holds, selection}
use Rattle.laws.specs.Lists.{all_append, append-all, all-flatten, flatten-all, all_impl, all_map, map-all, all-count_up, count_up-all}
use Rattle.laws.specs.Admitted.{Admitted, GoodTerm, GoodLiteral, GoodClause}
use Rattle.demands.specs.Truth.{Holds, Satisfied, Tells, only}
use Rattle.demands.specs.Rule.{KnownTerm, proposition_1}
use Rattle.demands.specs.Order.{tells-axioms}
use Rattle.demands.specs.Selectors.{Means, plainly, rules_sound, rules_full}

-- v tells each value of a, and has its Booleans
pub record TellsAll (B : Board) (v : Atom → Bool) (a : Assignment) : Type 0 where
  pub ints : (x : ℕ) → x < length B.bounds → Tells (bounds_of B) v x (a.α x)
  pub bools : (i : ℕ) → 1 ≤ i → i ≤ B.bools → v (bool i) ≡ a.β i

module _ (B : Board) (v : Atom → Bool) where
  pub axioms_in : Satisfied v (clauses B) → (x : ℕ) → x < length B.bounds → Satisfied v (axioms_of (bounds_of B) x)
  unfolding clauses axioms variables
  axioms_in a x h =
      let all = flatten-all (Holds v) (axioms B) (append-all (Holds v) (flatten (axioms B)) (flatten (rules B)) a).0 in
      count_up-all (λ x. Satisfied v (axioms_of (bounds_of B) x)) 0 (length B.bounds) (map-all (Satisfied v) (axioms_of (bounds_of B)) (variables B) all) x (omega arith) (omega arith)

  rules_in : Satisfied v (clauses B) → All (Satisfied v) (rules B)
  unfolding clauses
  rules_in a = flatten-all (Holds v) (rules B) (append-all (Holds v) (flatten (axioms B)) (flatten (rules B)) a).1

  joined : ((x : ℕ) → x < length B.bounds → Satisfied v (axioms_of (bounds_of B) x)) → All (Satisfied v) (rules B) → Satisfied v (clauses B)
  unfolding clauses axioms variables
  joined f r =
      all_append (Holds v) (flatten (axioms B)) (flatten (rules B))
      (all-flatten (Holds v) (axioms B) (all_map (Satisfied v) (axioms_of (bounds_of B)) (variables B)
      (all-count_up (λ x. Satisfied v (axioms_of (bounds_of B) x)) 0 (length B.bounds) (λ x l u. f x (omega arith)))))
      (all-flatten (Holds v) (rules B) r)

  module _ (a : Assignment) (good : Admitted B) (tells : TellsAll B v a) where
    abbrev Mean : Literal → Type 0
    Mean l = T (holds a l)

    means : (l : Literal) → GoodLiteral (length B.bounds) B.bools l → Means (bounds_of B) v Mean l
    unfolding clauses_of holds satisfies
    means (is_true b) g = let e = tells.bools b g.0 g.1 in (λ h. rw e at (only h.0), λ h. (inl (rw e h), tt))
    means (is_false b) g = let e = tells.bools b g.0 g.1 in (λ h. rw e at (only h.0), λ h. (inl (rw e h), tt))
    means (at_most q) g =
        proposition_1 (bounds_of B) v a q
        (all_impl (GoodTerm (length B.bounds)) (KnownTerm (bounds_of B) v a) (λ t k. (k.some, tells.ints t.var k.known)) q.terms g.terms)

    all_mean : All (All (Means (bounds_of B) v Mean)) B.clauses
    all_mean =
        all_impl (GoodClause (length B.bounds) B.bools) (All (Means (bounds_of B) v Mean))
        (λ C k. all_impl (GoodLiteral (length B.bounds) B.bools) (Means (bounds_of B) v Mean) means C k.literals)
        B.clauses good.clauses

    -- each clause of the record holds
    pub solves : Satisfied v (clauses B) → All (Any (λ l. T (holds a l))) B.clauses
    unfolding rules
    solves s = rules_sound (bounds_of B) v Mean 0 B.clauses all_mean (rules_in s)

    -- and back, where each selector says its comparison
    pub satisfied : ((j : ℕ) → j < length (selections B) → T (v (selector j)) ↔ T (compares a (selection B j))) → All (Any (λ l. T (holds a l))) B.clauses → Satisfied v (clauses B)
    unfolding rules selections selection holds
    satisfied plain s =
        joined (λ x h. tells-axioms (bounds_of B) v x (a.α x) (tells.ints x h))
        (rules_full (bounds_of B) v Mean 0 B.clauses all_mean (plainly (bounds_of B) v Mean 0 (selections B) (record { terms = []; constant = pos 0 }) (λ i h. rw zero-add (plain i h))) s)
