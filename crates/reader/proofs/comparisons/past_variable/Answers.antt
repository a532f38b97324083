-- Known first, then not seen before.
use borrow.Author.Tests.{lt-ltb, le-ltb}
use Rattle.reader.specs.Parts.{variable}
use Rattle.reader.proofs.comparisons.past_variable.Goals as goal

pub returns-in_default : goal.returns-in_default
unfolding variable
returns-in_default c = rw (← c.in_default.ensures)

pub returns-then-known-read : goal.returns-then-known-read
unfolding variable
returns-then-known-read c = rw (← c.in-Some.ensures, le-ltb _ _ c.if-known-read.true)

pub returns-then-is_repeated : goal.returns-then-is_repeated
unfolding variable
returns-then-is_repeated c =
    rw (← c.in-Some.ensures, lt-ltb _ _ c.if-known-read.false, ← c.if-is_repeated.ensures)

pub returns : goal.returns
unfolding variable
returns c =
    rw (← c.in-Some.ensures, lt-ltb _ _ c.if-known-read.false, ← c.if-is_repeated.ensures)
