-- `closing::checks::checked` meets its contract: the first refusal met is the one given.
use Rattle.std.proofs.Common.{refl, sym}
use Rattle.closing.proofs.Checked.{lent_is}
use Rattle.closing.proofs.checks.checked.Goals as goal

pub returns-in-Some : goal.returns-in-Some
returns-in-Some c = let a = c.args in lent_is a.ints a.variable a.replies.now (sym c.in-Some.ensures) refl

pub returns-in-Some-first_bad_byte : goal.returns-in-Some-first_bad_byte
returns-in-Some-first_bad_byte c = let a = c.args in lent_is a.ints a.variable a.replies.now (sym c.in_default.ensures) (sym c.in-Some-first_bad_byte.ensures)

pub returns : goal.returns
returns c = let a = c.args in lent_is a.ints a.variable a.replies.now (sym c.in_default.ensures) (sym c.in_default-first_bad_byte.ensures)
