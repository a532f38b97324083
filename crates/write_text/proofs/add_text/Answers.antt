use Rattle.std.proofs.Common.{List, ℕ, ◌++◌, ◌≡◌, ◌∙◌, ap, sym, arith, rules, length, length-append}
use Rattle.definitions.specs.Encoding.{clause_list}
use Rattle.definitions.specs.Dimacs.{ascii}
use Rattle.definitions.specs.TextOperations.{text_of}
use Rattle.laws.specs.Boards.{board_of}
use Rattle.text.specs.Entries.{entries}
use Rattle.text.specs.Lines.{line}
use Rattle.writing.specs.Adds.{retold, left_as, ◌then◌}
use Rattle.write_text.proofs.Texts.{text_list}
use Rattle.write_text.proofs.add_text.Goals as goal
use Rattle.write_text.proofs.add_text.Goals.{Start}

module _ (s : Start) where
  abbrev head : List ℕ
  head = line (ascii "p cnf ") s.args.sizes.n s.args.sizes.m

  abbrev clauses : List ℕ
  clauses = entries (clause_list (board_of s.args.opened.now))

  whole : text_of (board_of s.args.opened.now) ≡ head ++ clauses
  whole = text_list (board_of s.args.opened.now) ∙ ap (λ t. line (ascii "p cnf ") t.n t.m ++ clauses) (sym s.requires.0)

pub add_first_line-clauses-requires : goal.add_first_line-clauses-requires
add_first_line-clauses-requires c =
    let s = (goal.at.add_first_line-clauses-requires c).Start in
    omega (arith, c.requires.1, ap length (whole s), length-append (head s) (clauses s))

pub add_clauses-requires : goal.add_clauses-requires
add_clauses-requires c =
    let s = (goal.at.add_clauses-requires c).Start in
    omega (arith, c.requires.1, ap length (whole s), length-append (head s) (clauses s), c.add_first_line-clauses.ensures.place)

pub returns : goal.returns
returns c =
    let s = (goal.at.returns c).Start in
    left_as (search rules) (retold (sym (whole s)) (c.add_first_line-clauses.ensures then c.add_clauses.ensures.0))
