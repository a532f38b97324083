-- What is known of a range, and of the answer so far, while replies narrow it.
use Rattle.std.specs.Prelude.{◌≡◌, List, ℕ, drop, ℤ, pos, ◌+ℤ◌, ◌≤ℤ◌}
use Rattle.definitions.specs.Tools.{neg}
use Rattle.definitions.specs.Board as board
use Rattle.definitions.specs.Closing.{Earliest, found, none, unfinished, narrowed, after}
use Rattle.definitions.specs.Answers.{hour_said}
use Rattle.definitions.specs.declared.Hour.{Hour}
use Rattle.slots.specs.declared.Bounds.{Bounds}
use Rattle.slots.specs.Variables.{bounds_read}

-- a range within 01's bounds; it may be empty, and low is then one above high
pub record Small (range : Bounds) : Type 0 where
  pub least : neg 4096 ≤ℤ range.lower
  pub near : range.lower ≤ℤ (range.upper +ℤ pos 1)
  pub most : range.upper ≤ℤ pos 4095

-- a range within 01's bounds, and a question within the range
pub record Asked (r : board.Bounds) (h : ℤ) : Type 0 where
  pub least : neg 4096 ≤ℤ r.lo
  pub from : r.lo ≤ℤ h
  pub to : h ≤ℤ r.hi
  pub most : r.hi ≤ℤ pos 4095

-- what a reply leaves of it
pub record Left (range : Bounds) (h : ℤ) (reply : ℕ) (r : Bounds) : Type 0 where
  pub small : Small r
  pub cuts : bounds_read r ≡ narrowed (bounds_read range) h reply

-- an answer whose question lies within its range
abbrev pub Sound : Earliest → Type 0
Sound (found v) = Unit {0}
Sound none = Unit {0}
Sound (unfinished r h) = Asked r h

-- after i replies: the others lead from here to where all of them lead from the start
pub record Going (replies : List ℕ) (start hour : Hour) (i : ℕ) : Type 0 where
  pub sound : Sound (hour_said hour)
  pub answers : after (hour_said hour) (drop i replies) ≡ after (hour_said start) replies
