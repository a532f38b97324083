-- Where a literal or a count that was read before leads a cursor. Assumes nothing.
use Rattle.std.proofs.Common.{◌≡◌, ◌∙◌, subst, Bool, true, false, not, List, ◌∷◌, ◌++◌, ℕ, suc, ◌+◌, ◌-◌, ◌≤◌, ◌<◌, add-one, arith, length, ℤ}
use Rattle.definitions.specs.Board.{Clause}
use Rattle.definitions.specs.Reading.{Context, big}
use Rattle.laws.specs.Reread.{comparison_at}
use Rattle.laws.specs.Pieces.{lone, opening, remaining, remaining_bool, remaining_negated, remaining-selected, remaining-lone}
use Rattle.laws.specs.Again.{There, literal_read, first_literal, literals_at, clauses_at}
use Rattle.laws.specs.Ahead.{Readable, coming, Past, past_literal, Into, into_clause, coming_none}
use Rattle.reader.specs.declared.Literal.{Literal}
use Rattle.definitions.specs.declared.Got.{Got}
use Rattle.reader.specs.Said.{literal_of}
use Rattle.reader.specs.Literals.{Rereads, KnownLiteral, known_literal}
use Rattle.rules.specs.declared.Cursor.{Cursor}
use Rattle.rules.specs.declared.Piece as code
use Rattle.rules.specs.declared.Stepped.{Stepped}
use Rattle.rules.specs.Cursors.{behind, within, coming_at, Sound, Onward, Went}

module _ (ctx : Context) (t : List ℕ) (c : Cursor) (s : Sound ctx t c) where
  -- ---- past a literal
  module _ (h : 0 < c.literals) where
    past : Past ctx t c.literals c.clauses c.place
    past = past_literal ctx t c.literals c.clauses c.place h s.readable

    pub literal_there : There t c.place
    literal_there = (literal_read t c.place ctx _ past.read).there

    module _ (r : Got Literal) (a : Rereads t c.place r) where
      onward : (j : ℕ) → j ≤ suc c.selector → Onward ctx t c (behind c r.next j)
      onward j k = record { sound = record { readable = rw a.next past.on; few = omega (arith, s.few); short = omega (arith, s.short) }; less = omega arith }

      these : {l : Literal} → r.value ≡ l → coming t c.led c.selector c.literals c.clauses c.place
          ≡ remaining c.led c.selector (literal_of t l ∷ (literals_at t (c.literals - 1) r.next).value) (clauses_at t c.clauses (literals_at t (c.literals - 1) r.next).next).value
      these e = rw (← e, a.literal, a.next) (past.these c.led c.selector)

      pub known : {l : Literal} → r.value ≡ l → KnownLiteral t ctx.ints ctx.bools l
      known e = subst (KnownLiteral t ctx.ints ctx.bools) e (known_literal ctx t c.place past.read a)

      pub goes_bool : {b : ℕ} → r.value ≡ Literal.Boolean b → Went ctx t c (Stepped.Passed (behind c r.next c.selector))
      unfolding Went coming_at coming
      goes_bool {b} e = record { same = these e ∙ remaining_bool c.led c.selector b _ _; onward = onward c.selector (omega arith) }

      pub goes_negated : {b : ℕ} → r.value ≡ Literal.Negated b → Went ctx t c (Stepped.Passed (behind c r.next c.selector))
      unfolding Went coming_at coming
      goes_negated {b} e = record { same = these e ∙ remaining_negated c.led c.selector b _ _; onward = onward c.selector (omega arith) }

      module _ {place : ℕ} {k : ℤ} (e : r.value ≡ Literal.Comparison place k) where
        pub goes_led : c.led ≡ true → Went ctx t c (Stepped.Met (code.Piece.Led c.selector place k) (behind c r.next (c.selector + 1)))
        unfolding Went coming_at coming
        goes_led d = record {
          comes = rw (add-one, d) (rw d at (these e) ∙ remaining-selected c.selector (comparison_at t place k) _ _);
          held = known e;
          onward = onward (c.selector + 1) (omega arith);
          few = omega (arith, s.few);
        }

        pub goes_lone : c.led ≡ false → Went ctx t c (Stepped.Met (code.Piece.Lone place k) (behind c r.next c.selector))
        unfolding Went coming_at coming
        goes_lone d = record {
          comes = rw d (rw d at (these e) ∙ remaining-lone c.selector (comparison_at t place k) _ _);
          held = known e;
          onward = onward c.selector (omega arith);
          few = omega arith;
        }

  -- ---- into a clause
  module _ (z : c.literals ≡ 0) (h : 0 < c.clauses) where
    into : Into ctx t c.clauses c.place
    into = into_clause ctx t c.clauses c.place h (subst (λ n. Readable ctx t n c.clauses c.place) z s.readable)

    pub count_there : c.place + 1 ≤ length t
    count_there = into.clause.room

    module _ (n : ℕ) (e : n ≡ big t c.place 1) where
      abbrev literals : Clause
      literals = (literals_at t n (c.place + 1)).value

      readable : Readable ctx t n (c.clauses - 1) (c.place + 1)
      readable = rw e into.on

      pub first_there : n ≡ 1 → There t (c.place + 1)
      first_there o = (literal_read t (c.place + 1) ctx _ (first_literal ctx t n (c.place + 1) (omega arith) readable.literals).read).there

      few_literals : n ≤ 64
      few_literals = omega (arith, into.clause.few)

      onward_in : (led : Bool) → Onward ctx t c (within c (c.place + 1) n led)
      onward_in led = record { sound = record { readable = readable; few = omega (arith, s.few, few_literals); short = few_literals }; less = omega (arith, few_literals) }

      these_in : coming t c.led c.selector c.literals c.clauses c.place
          ≡ opening (lone literals) c.selector literals ++ coming t (not (lone literals)) c.selector n (c.clauses - 1) (c.place + 1)
      these_in = rw (z, e) (into.these c.led c.selector)

      pub goes_bare : lone literals ≡ true → Went ctx t c (Stepped.Passed (within c (c.place + 1) n false))
      unfolding Went coming_at
      goes_bare d = record { same = rw d at these_in; onward = onward_in false }

      pub goes_line : lone literals ≡ false → Went ctx t c (Stepped.Met (code.Piece.Line (c.place + 1) n c.selector) (within c (c.place + 1) n true))
      unfolding Went coming_at
      goes_line d = record { comes = rw d at these_in; held = readable.literals; onward = onward_in true; few = omega (arith, s.few, few_literals) }

pub ends : (ctx : Context) (t : List ℕ) (c : Cursor) → c.literals ≤ 0 → c.clauses ≤ 0 → Went ctx t c Stepped.End
unfolding Went coming_at
ends ctx t c l k =
    let e : c.literals ≡ 0 = omega arith in
    let f : c.clauses ≡ 0 = omega arith in
    rw (e, f) (coming_none t c.led c.selector c.place)
