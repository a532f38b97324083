use Rattle.std.proofs.Common.{◌+◌, ◌-◌, ◌<◌}
use Rattle.laws.specs.Again.{literals_at}
use Rattle.laws.specs.Limits.{numbers_limit}
use Rattle.writing.specs.Lines.{line_numbers, LineRead}
use Rattle.writing.specs.Parts.{Adding}
use Rattle.writing.proofs.lines.put_line.Given as goal

abbrev pub invariant-loop-before : goal.invariant-loop-before
invariant-loop-before g l =
    Adding
    g.P.Part.room
    g.P.Part.adds
    (line_numbers l.fn.selector (literals_at l.rules l.fn.n l.fn.place).value)
    (line_numbers l.number (literals_at l.rules (l.fn.n - l._before) l.next_place).value)
    l.fn.at
    l.fn.part
    l.to
    l.part
    × LineRead l.rules (l.fn.n - l._before) l.next_place
    × (l.number + (l.fn.n - l._before) < numbers_limit)
