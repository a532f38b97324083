-- The axioms before the present one hold.
use Rattle.std.proofs.Common.{◌≡◌, ◌≤◌, ◌+◌, ◌-◌, ◌++◌}
use mathlib.Core.List.{flatten}
use Rattle.definitions.specs.Encoding.{axioms, first}
use Rattle.laws.specs.Boards.{board_of}
use Rattle.laws.specs.Axioms.{axioms_from}
use Rattle.decode.specs.Truth.{tests}
use Rattle.decode.specs.Goes.{Goes}
use Rattle.decode.specs.Axioms.{axiom_tests}
use Rattle.decode.proofs.axioms.search_axioms.Given as goal

abbrev pub invariant-loop-k : goal.invariant-loop-k
invariant-loop-k l =
    let B = board_of l.opened in
    Goes 0 (tests B l.model (flatten (axioms B))) l.number (axiom_tests l.model l.first l.width l.k ++ tests B l.model (axioms_from B (l.x + 1)))

abbrev pub invariant-search : goal.invariant-search
invariant-search l =
    let B = board_of l.opened in
    (l.x ≤ l.ints) × (l.first ≡ first B l.x) × Goes 0 (tests B l.model (flatten (axioms B))) l.number (tests B l.model (axioms_from B l.x))

abbrev pub decreases-search : goal.decreases-search
decreases-search l = l.ints - l.x
