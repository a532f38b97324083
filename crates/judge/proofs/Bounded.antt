-- The test of a value's bounds, and values that have passed it. Assumes nothing.
use Rattle.std.proofs.Common.{◌≡◌, sym, ap, ◌∙◌, Bool, true, false, List, [], map-id, ℕ, ◌+◌, ◌<◌, zero-add, arith, length, get_or, drop, ℤ, pos}
use Rattle.definitions.specs.Tools.{within, count_up}
use Rattle.definitions.specs.Board.{Board, variables}
use Rattle.definitions.specs.Meaning.{assigned, in_bounds}
use Rattle.definitions.specs.Result.{refused}
use Rattle.laws.specs.Lists.{length-count_up, counted-at}
use Rattle.laws.specs.Search.{seek, seek_fails, seek_goes}
use Rattle.slots.specs.declared.Bounds.{Bounds}
use Rattle.slots.specs.Variables.{BoundsOf}

pub variables-count : (B : Board) → length (variables B) ≡ length B.bounds
unfolding variables
variables-count B = length-count_up 0 (length B.bounds)

variable-at : (B : Board) (x : ℕ) → x < length B.bounds → get_or (variables B) x 0 ≡ x
unfolding variables
variable-at B x h = ap (λ l. get_or l x 0) (sym (map-id (count_up 0 (length B.bounds)))) ∙ counted-at (λ i. i) 0 0 (length B.bounds) x h ∙ zero-add x

-- a turn of the search
module _ (B : Board) (values : List ℤ) (x : ℕ) (b : Bounds) (h : x < length B.bounds) (k : BoundsOf B x b) where
  abbrev test : ℕ → Bool
  test = in_bounds B (assigned values [])

  there : x < length (variables B)
  there = omega (arith, variables-count B)

  module _ {t : Bool} (e : t ≡ within b.lower b.upper (get_or values x (pos 0))) where
    tested : test (get_or (variables B) x 0) ≡ t
    unfolding in_bounds assigned
    tested = rw (variable-at B x h, ← k.lower, ← k.upper) (sym e)

  pub outside : false ≡ within b.lower b.upper (get_or values x (pos 0)) → seek 14 test x (drop x (variables B)) ≡ refused 14 x
  outside e = seek_fails 14 test 0 (variables B) x there (tested e)

  pub inside : true ≡ within b.lower b.upper (get_or values x (pos 0)) → seek 14 test x (drop x (variables B)) ≡ seek 14 test (x + 1) (drop (x + 1) (variables B))
  inside e = seek_goes 14 test 0 (variables B) x there (tested e)
