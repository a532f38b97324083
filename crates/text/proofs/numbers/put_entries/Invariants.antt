-- The numbers before `number-index` are written, and there is room for those from there on.
use Rattle.std.proofs.Common.{drop}
use Rattle.laws.specs.Filling.{Filling}
use Rattle.text.specs.Entries.{entries}
use Rattle.text.proofs.numbers.put_entries.Given as goal

abbrev pub invariant-loop-number : goal.invariant-loop-number
invariant-loop-number l = Filling (entries l.list) (entries (drop l.number-index l.list)) l.fn.out l.out l.at
