-- A literal that was read before, read again: what it says, and what is known of it. Assumes nothing.
use Rattle.std.specs.Prelude.{◌≡◌, List, ℕ, ◌≤◌}
use Rattle.definitions.specs.Result.{done}
use Rattle.definitions.specs.Reading.{Context, read_literal}
use Rattle.definitions.specs.declared.Got.{Got}
use Rattle.laws.specs.Admitted.{GoodLiteral}
use Rattle.laws.specs.Reread.{TermsStand, Stands}
use Rattle.laws.specs.Again.{literal_at, literal_read}
use Rattle.reader.specs.declared.Literal.{Literal}
use Rattle.reader.specs.Said.{literal_of}

-- the terms of a comparison
abbrev pub Terms : List ℕ → Literal → Type 0
Terms t (Literal.Boolean b) = Unit {0}
Terms t (Literal.Negated b) = Unit {0}
Terms t (Literal.Comparison place constant) = TermsStand t place

pub record Rereads (t : List ℕ) (at : ℕ) (r : Got Literal) : Type 0 where
  pub literal : literal_of t r.value ≡ (literal_at t at).value
  pub next : r.next ≡ (literal_at t at).next
  pub terms : Terms t r.value

-- of a literal that was read in a record of so many variables and Booleans
abbrev pub KnownLiteral : List ℕ → ℕ → ℕ → Literal → Type 0
KnownLiteral t ints bools (Literal.Boolean b) = (1 ≤ b) × (b ≤ bools)
KnownLiteral t ints bools (Literal.Negated b) = (1 ≤ b) × (b ≤ bools)
KnownLiteral t ints bools (Literal.Comparison place constant) = Stands ints t place constant

pub known_literal : (ctx : Context) (t : List ℕ) (at : ℕ) {r : Got Literal} → read_literal ctx t at ≡ done (literal_at t at) → Rereads t at r
    → KnownLiteral t ctx.ints ctx.bools r.value
known_literal ctx t at {r} e h = go r.value (rw h.literal (literal_read t at ctx (literal_at t at) e).good) h.terms
  where
    go : (l : Literal) → GoodLiteral ctx.ints ctx.bools (literal_of t l) → Terms t l → KnownLiteral t ctx.ints ctx.bools l
    go (Literal.Boolean b) g s = g
    go (Literal.Negated b) g s = g
    go (Literal.Comparison place constant) g s = record { terms = s; good = g }
