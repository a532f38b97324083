-- What is coming at a cursor, and what a step says of it. Assumes nothing.
use Rattle.std.specs.Prelude.{◌≡◌, Option, Some, None, Bool, true, List, [], ◌∷◌, ℕ, ◌+◌, ◌*◌, ◌-◌, ◌≤◌, ◌<◌}
use Rattle.definitions.specs.Result.{done}
use Rattle.definitions.specs.Reading.{Context, times, read_literal}
use Rattle.definitions.specs.Encoding.{selector, minus}
use Rattle.laws.specs.Limits.{selectors_limit}
use Rattle.laws.specs.Reread.{comparison_at, Stands}
use Rattle.laws.specs.Pieces.{Piece, line, under}
use Rattle.laws.specs.Again.{literals_at}
use Rattle.laws.specs.Ahead.{Readable, coming}
use Rattle.rules.specs.declared.Cursor.{Cursor}
use Rattle.rules.specs.declared.Piece as code
use Rattle.rules.specs.declared.Stepped.{Stepped}

abbrev pub at_start : ℕ → Cursor
at_start clauses = record { place = 0; literals = 0; led = true; clauses = clauses; selector = 0 }

-- behind a literal of the present clause
abbrev pub behind : Cursor → ℕ → ℕ → Cursor
behind c next j = record { place = next; literals = c.literals - 1; led = c.led; clauses = c.clauses; selector = j }

-- before the first literal of the next clause
abbrev pub within : Cursor → ℕ → ℕ → Bool → Cursor
within c next n led = record { place = next; literals = n; led = led; clauses = c.clauses - 1; selector = c.selector }

-- what falls with each step
abbrev pub todo : Cursor → ℕ
todo c = c.literals + 65 * c.clauses

-- the selectors up to the end of a piece; a lone comparison has none
abbrev pub selectors_to : code.Piece → ℕ
selectors_to (code.Piece.Line place n j) = j + n
selectors_to (code.Piece.Lone place constant) = 0
selectors_to (code.Piece.Led j place constant) = j + 1

module _ (t : List ℕ) where
  abbrev pub said_piece : code.Piece → Piece
  said_piece (code.Piece.Line place n j) = line j (literals_at t n place).value
  said_piece (code.Piece.Lone place constant) = under [] (comparison_at t place constant)
  said_piece (code.Piece.Led j place constant) = under (minus (selector j) ∷ []) (comparison_at t place constant)

  unfoldable pub coming_at : Cursor → List Piece
  coming_at c = coming t c.led c.selector c.literals c.clauses c.place

-- in the context in which the record was read
module _ (ctx : Context) (t : List ℕ) where
  -- what a piece's bytes are known to hold
  abbrev pub Held : code.Piece → Type 0
  Held (code.Piece.Line place n j) = times n (read_literal ctx) t place ≡ done (literals_at t n place)
  Held (code.Piece.Lone place constant) = Stands ctx.ints t place constant
  Held (code.Piece.Led j place constant) = Stands ctx.ints t place constant

  -- all that is coming was read, and selectors stay few
  pub record Sound (c : Cursor) : Type 0 where
    pub readable : Readable ctx t c.literals c.clauses c.place
    pub few : c.selector + c.literals + 64 * c.clauses ≤ selectors_limit
    pub short : c.literals ≤ 64

  pub record Onward (c c' : Cursor) : Type 0 where
    pub sound : Sound c'
    pub less : todo c' < todo c

  pub record Meets (c : Cursor) (p : code.Piece) (c' : Cursor) : Type 0 where
    pub comes : coming_at t c ≡ said_piece t p ∷ coming_at t c'
    pub held : Held p
    pub onward : Onward c c'
    pub few : selectors_to p ≤ selectors_limit

  pub record Passes (c c' : Cursor) : Type 0 where
    pub same : coming_at t c ≡ coming_at t c'
    pub onward : Onward c c'

  unfoldable pub Went : Cursor → Stepped → Type 0
  Went c (Stepped.Met p c') = Meets c p c'
  Went c (Stepped.Passed c') = Passes c c'
  Went c Stepped.End = coming_at t c ≡ []

  -- the next piece
  unfoldable pub Came : Cursor → Option (code.Piece × Cursor) → Type 0
  Came c (Some (p, c')) = Meets c p c'
  Came c None = coming_at t c ≡ []

  module _ (c : Cursor) {r : Option (code.Piece × Cursor)} (w : Came c r) where
    pub meets : {p : code.Piece} {c' : Cursor} → r ≡ Some (p, c') → Meets c p c'
    unfolding Came
    meets e = rw e at w

    pub ends : r ≡ None → coming_at t c ≡ []
    unfolding Came
    ends e = rw e at w

-- a pass needs not know the context, and what it tells is so in each
abbrev pub Steady : List ℕ → Cursor → Type 0
Steady t c = (ctx : Context) × Sound ctx t c

abbrev pub Steps : List ℕ → Cursor → Stepped → Type 0
Steps t c r = (ctx : Context) → Sound ctx t c → Went ctx t c r

abbrev pub Comes : List ℕ → Cursor → Option (code.Piece × Cursor) → Type 0
Comes t c r = (ctx : Context) → Sound ctx t c → Came ctx t c r
