-- The checks in 01's order.
use Rattle.std.proofs.Common.{sym, ◌∙◌, arith}
use borrow.Author.Tests.{lt-leb}
use Rattle.definitions.specs.Operations.{read_board}
use Rattle.reader.proofs.Steps.{turned}
use Rattle.opening.proofs.Opened.{no_version, no_length, begins, version_wrong, length_wrong, board_is}
use Rattle.opening.proofs.open.Goals as goal

pub returns-then-bytes-gt65536 : goal.returns-then-bytes-gt65536
unfolding read_board
returns-then-bytes-gt65536 c = rw (lt-leb _ _ c.if-bytes-gt65536.true)

pub returns-in_default : goal.returns-in_default
returns-in_default c = sym (no_version _ c.if-bytes-gt65536.false (sym c.in_default.ensures))

pub returns-in_default-unsigned_at : goal.returns-in_default-unsigned_at
returns-in_default-unsigned_at c =
    sym (no_length _ c.if-bytes-gt65536.false (sym c.in-Some.ensures) (sym c.in_default-unsigned_at.ensures))

pub returns-then-version-ne1 : goal.returns-then-version-ne1
returns-then-version-ne1 c =
    sym (version_wrong _ c.if-bytes-gt65536.false (sym c.in-Some.ensures) (sym c.in-Some-unsigned_at.ensures) c.if-version-ne1.true)

pub overflow_sub-bytes : goal.overflow_sub-bytes
overflow_sub-bytes c =
    omega (arith, begins _ c.if-bytes-gt65536.false (sym c.in-Some.ensures) (sym c.in-Some-unsigned_at.ensures))

pub returns-then-stated-bytes : goal.returns-then-stated-bytes
returns-then-stated-bytes c =
    sym (length_wrong _ c.if-bytes-gt65536.false (sym c.in-Some.ensures) (sym c.in-Some-unsigned_at.ensures) c.if-version-ne1.false c.if-stated-bytes.true)

pub returns-in_err-header : goal.returns-in_err-header
returns-in_err-header c =
    let b = board_is _ c.if-bytes-gt65536.false (sym c.in-Some.ensures) (sym c.in-Some-unsigned_at.ensures) c.if-version-ne1.false c.if-stated-bytes.false in
    turned (λ header. header) _ _ c.from_residual.ensures.1 ∙ sym (b ∙ sym c.in_err-header.ensures)

pub returns : goal.returns
returns c =
    let b = board_is _ c.if-bytes-gt65536.false (sym c.in-Some.ensures) (sym c.in-Some-unsigned_at.ensures) c.if-version-ne1.false c.if-stated-bytes.false in
    sym (b ∙ sym c.in_ok-header.ensures)
