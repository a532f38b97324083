use Rattle.std.proofs.Common.{rules, arith, ℕ, ℤ, List, length, ◌+◌, ◌*◌, ◌≤◌}
use Rattle.definitions.specs.Dimacs.{ascii}
use Rattle.laws.specs.Written.{rest-length}
use Rattle.laws.specs.Filling.{Filling, begun, room_before, room, last}
use Rattle.text.specs.Puts.{Put}
use Rattle.text.specs.Lines.{line, line-length}
use Rattle.text.specs.Entries.{entries}
use Rattle.dimacs.specs.Shown.{cnf, cnf-length}
use Rattle.dimacs.proofs.printing.put_cnf.Goals as goal

-- the head is written
head_put : (n m : ℕ) (clauses : List ℤ) (old out : List ℕ) (at : ℕ) → 64 + 22 * length clauses ≤ length old → Put (line (ascii "p cnf ") n m) old at out
    → Filling (cnf n m clauses) (entries clauses) old out at
head_put n m clauses old out at r p =
    begun (line (ascii "p cnf ") n m) _ _ _ _ (omega (arith, r, cnf-length n m clauses)) p.0 p.1

pub put_text_line-at-requires : goal.put_text_line-at-requires
put_text_line-at-requires c = omega (arith, c.requires, line-length (ascii "p cnf ") c.args.n c.args.m)

pub slice_bounds-put_entries-count : goal.slice_bounds-put_entries-count
slice_bounds-put_entries-count c = omega (arith, room (head_put _ _ _ _ _ _ c.requires c.put_text_line-at.ensures))

pub slice_bounds-put_entries-start : goal.slice_bounds-put_entries-start
slice_bounds-put_entries-start c = omega (arith, room (head_put _ _ _ _ _ _ c.requires c.put_text_line-at.ensures))

pub put_entries-requires : goal.put_entries-requires
put_entries-requires c =
    omega (
      arith,
      room (head_put _ _ _ _ _ _ c.requires c.put_text_line-at.ensures),
      rest-length c.put_text_line-at.new.out c.put_text_line-at.result,
    )

pub overflow_add-result : goal.overflow_add-result
overflow_add-result c =
    let h = head_put _ _ _ _ _ _ c.requires c.put_text_line-at.ensures in
    let k : c.put_text_line-at.result + c.put_entries.result ≤ length c.args.out.now = omega (arith, room_before h, c.put_entries.ensures.0) in
    search rules

pub returns : goal.returns
returns c =
    let h = head_put _ _ _ _ _ _ c.requires c.put_text_line-at.ensures in
    let r = last h _ _ c.put_entries.ensures.0 c.put_entries.ensures.1 in
    (r.0, r.1)
