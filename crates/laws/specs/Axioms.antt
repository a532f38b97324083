-- The axioms from a variable on, and the number of each order variable in them. Assumes nothing.
use Rattle.std.specs.Prelude.{◌≡◌, ℕ, ◌+◌, ◌-◌, ◌≤◌, ◌<◌, length, ℤ, ◌+ℤ◌, ◌-ℤ◌, ◌≤ℤ◌}
use Rattle.std.proofs.Math.Path.{ap}
use Rattle.std.proofs.Common.{◌∙◌, add-zero, arith}
use mathlib.Core.List.{List, [], ◌++◌, map, flatten}
use Rattle.std.proofs.Math.Nat.{sub-zero}
use Rattle.std.proofs.Math.IntN.{pos, suc_ℤ}
use Rattle.definitions.specs.Tools.{count_up, size}
use Rattle.definitions.specs.Board.{Board, bounds_of, variables}
use Rattle.definitions.specs.Encoding.{SatClause, order, axioms_of, axioms, width, first, number}
use Rattle.laws.specs.Whole.{whole, add_law, sub_law, suc_law, part_law}
use Rattle.laws.specs.Lists.{count_up-first, count_up_none}
use Rattle.laws.specs.Layout.{width-range}

unfoldable pub axioms_from : Board → ℕ → List SatClause
axioms_from B x = flatten (map (axioms_of (bounds_of B)) (count_up x (length B.bounds - x)))

module _ (B : Board) where
  pub axioms-all : axioms_from B 0 ≡ flatten (axioms B)
  unfolding axioms_from axioms variables
  axioms-all = rw sub-zero

  module _ (x : ℕ) where
    pub axioms-more : x < length B.bounds → axioms_from B x ≡ axioms_of (bounds_of B) x ++ axioms_from B (x + 1)
    unfolding axioms_from flatten
    axioms-more h = ap (λ l. flatten (map (axioms_of (bounds_of B)) l)) (count_up-first x (length B.bounds) h)

    pub axioms_none : length B.bounds ≤ x → axioms_from B x ≡ []
    unfolding axioms_from flatten
    axioms_none h = ap (λ l. flatten (map (axioms_of (bounds_of B)) l)) (count_up_none x (length B.bounds) h)

    abbrev lo : ℤ
    lo = (bounds_of B x).lo

    abbrev hi : ℤ
    hi = (bounds_of B x).hi

    -- p(x,c) comes k places behind p(x,ℓ(x)-1)
    order_number_lem : (c : ℤ) (k : ℕ) → c +ℤ pos 1 ≡ lo +ℤ pos k → number B (order x c) ≡ first B x + k
    unfolding number
    order_number_lem c k e =
        let s : size (c -ℤ lo +ℤ pos 1) ≡ k = omega (whole, add_law (c -ℤ lo) (pos 1), sub_law c lo, add_law c (pos 1), add_law lo (pos k), part_law (c -ℤ lo +ℤ pos 1)) in
        ap (λ n. first B x + n) s

    -- those of the step at the k-th value
    pub before-value : (c : ℤ) (k : ℕ) → c ≡ lo +ℤ pos k → number B (order x (c -ℤ pos 1)) ≡ first B x + k
    before-value c k e = order_number_lem (c -ℤ pos 1) k (omega (whole, add_law (c -ℤ pos 1) (pos 1), sub_law c (pos 1)))

    pub at_value : (c : ℤ) (k : ℕ) → c ≡ lo +ℤ pos k → number B (order x c) ≡ first B x + k + 1
    at_value c k e = order_number_lem c (k + 1) (omega (whole, add_law c (pos 1), add_law lo (pos k), add_law lo (pos (k + 1)))) ∙ omega arith

    pub lowest-number : number B (order x (lo -ℤ pos 1)) ≡ first B x
    lowest-number = before-value lo 0 (omega (whole, add_law lo (pos 0))) ∙ add-zero _

    pub highest_number : lo ≤ℤ hi → number B (order x hi) + 1 ≡ first B x + width (bounds_of B x)
    highest_number h =
        let k = size (suc_ℤ hi -ℤ lo) in
        let e = order_number_lem hi k (omega (whole, add_law hi (pos 1), add_law lo (pos k), sub_law (suc_ℤ hi) lo, suc_law hi, part_law (suc_ℤ hi -ℤ lo))) in
        omega (arith, e, width-range (bounds_of B x) h)
