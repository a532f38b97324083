-- Clauses that are read in the record's tail, said of the whole. Assumes nothing.
use mathlib.Core.Path.{◌≡◌, ap}
use mathlib.Core.List.{List}
use Prim.Native.Nat.{ℕ, ◌+◌, ◌≤◌, zero-le}
use native.Mathlib.Nat.{add-zero}
use native.Mathlib.Omega.{arith}
use borrow.Author.Tests.{eq-eqb, ne_eqb}
use lib.ListN.{length, drop, length-drop}
use Rattle.definitions.specs.Board.{Clause}
use Rattle.definitions.specs.Result.{Result, done, refused}
use Rattle.definitions.specs.Reading.{Got, Context, times, read_clause}
use Rattle.laws.specs.Readings.{same, moved, place, Orderly}
use Rattle.laws.specs.Grammar.{reads_times}
use Rattle.laws.specs.Reads.{reads-clause}
use Rattle.laws.specs.Written.{rest, rest-drop}
use Rattle.reader.specs.Parts.{past}
use Rattle.reader.proofs.Steps.{past_done, past_refused}
use Rattle.opening.specs.declared.Header.{Header}
use Rattle.opening.specs.Said.{context_in}
use Rattle.opening.specs.Parts.{rules_from}

module _ (h : Header) (s : List ℕ) (begins : h.rules ≤ length s) (ctx : Context) (known : ctx ≡ context_in h) where
  abbrev base : ℕ
  base = h.rules

  abbrev tail : List ℕ
  tail = rest s base

  abbrev clauses : Context → List ℕ → ℕ → Result (Got (List Clause))
  clauses ctx = times h.clauses (read_clause ctx)

  orderly : Orderly (clauses ctx)
  orderly = (reads_times (reads-clause ctx) h.clauses).orderly

  whole_is : clauses (context_in h) s base ≡ moved base (clauses ctx tail 0)
  whole_is = rw (← known, rest-drop s base) (rw add-zero at (orderly.moves s base 0 begins))

  inside : base + place (clauses ctx tail 0) ≤ length s
  inside = rw (rest-drop s base) (omega (arith, orderly.inside (drop base s) 0 zero-le, length-drop base s))

  module _ {why d : ℕ} (e : past (clauses ctx tail 0) ≡ refused why d) where
    pub fault_inside : base + d ≤ length s
    fault_inside = omega (arith, inside, ap place (past_refused (clauses ctx tail 0) e))

    pub rules_refused : rules_from h s ≡ refused why (base + d)
    unfolding rules_from
    rules_refused = rw (whole_is, past_refused (clauses ctx tail 0) e)

  module _ {p : ℕ} (e : past (clauses ctx tail 0) ≡ done p) where
    pub end_inside : base + p ≤ length s
    end_inside = let q = past_done (clauses ctx tail 0) e in omega (arith, inside, ap place q.read, same q.rest)

    end_is : past (clauses (context_in h) s base) ≡ done (base + p)
    end_is = let q = past_done (clauses ctx tail 0) e in rw (whole_is, q.read, same q.rest)

    pub rules-left-over : (base + p ≡ length s → ⊥) → rules_from h s ≡ refused 8 (base + p)
    unfolding rules_from
    rules-left-over n = rw (end_is, ne_eqb _ _ n)

    pub rules_done : base + p ≡ length s → rules_from h s ≡ done (base + p)
    unfolding rules_from
    rules_done l = rw (end_is, eq-eqb _ _ l)
