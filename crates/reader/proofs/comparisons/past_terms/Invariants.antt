-- After i terms those that are left read as all of them do.
use Rattle.reader.specs.Said.{context_of}
use Rattle.reader.proofs.Terms.{Passing}
use Rattle.reader.proofs.comparisons.past_terms.Given as goal

abbrev pub invariant-loop-i : goal.invariant-loop-i
invariant-loop-i l = Passing (context_of l.known) l.rules l.first l.n l.i l.place
