-- The earliest closing hour: the least value of a variable over all solutions, found by a solver's replies to questions
-- 'at most h?' (02, P9; 003, section 6). A reply is a byte, 1 yes, 0 no.
use Rattle.std.specs.Prelude.{◌∷◌, ◌+ℤ◌, if◌then◌else◌}
use Rattle.definitions.specs.Tools.{ℕ, suc, List, [], length, ltb, eqb, ℤ, pos, lt_z, floor}
use Rattle.definitions.specs.Board.{Bounds, bounds_of}
use Rattle.definitions.specs.Result.{Result, ◌>>=◌, ◌>>◌, need, done, refused}
use Rattle.definitions.specs.Operations.{accepted, bits}

-- the least value; that there is no solution; or, with too few replies, the range so far and the question to put next
pub data Earliest : Type 0 where
  found : ℤ → Earliest
  none : Earliest
  unfinished : Bounds → ℤ → Earliest

-- half the sum of low and high, rounded down
unfoldable pub halfway : Bounds → ℤ
halfway r = floor (r.lo +ℤ r.hi) (pos 2)

-- what a reply to 'at most h?' leaves of the range: yes sets high to h, no sets low to h + 1
unfoldable pub narrowed : Bounds → ℤ → ℕ → Bounds
narrowed r h reply = if eqb reply 1 then record { lo = r.lo; hi = h } else record { lo = h +ℤ pos 1; hi = r.hi }

-- what a range tells: while low is below high, the next question; where they are equal, the value. A no at the upper bound, and
-- no other reply, sets low above high: there 'none'
unfoldable pub tells : Bounds → Earliest
tells r =
    if lt_z r.lo r.hi then unfinished r (halfway r)
    else if lt_z r.hi r.lo then none
    else found r.lo

-- reply after reply; 23 where replies are left over
unfoldable pub after : Earliest → List ℕ → Result Earliest
after e [] = done e
after (unfinished r h) (reply ∷ replies) = after (tells (narrowed r h reply)) replies
after (found v) (reply ∷ replies) = refused 23 (suc (length replies))
after none (reply ∷ replies) = refused 23 (suc (length replies))

-- x is the variable's number; the first question is at its upper bound
unfoldable pub closing_outcome : List ℕ → ℕ → List ℕ → Result Earliest
closing_outcome s x replies = do
  B ← accepted s
  need 22 x (ltb x (length B.bounds))
  bits replies
  after (unfinished (bounds_of B x) (bounds_of B x).hi) replies
