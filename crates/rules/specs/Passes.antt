-- What a step of a pass gives, and where a pass through the rules of an opened record stands. Assumes nothing.
use Rattle.std.specs.Prelude.{◌≡◌, refl, Option, Some, None, List, [], ℕ, length}
use Rattle.std.proofs.Common.{◌∙◌}
use Rattle.laws.specs.Boards.{Opens, board_of}
use Rattle.laws.specs.Reread.{context_of}
use Rattle.laws.specs.Pieces.{Piece, pieces_from}
use Rattle.opening.specs.Headers.{tail_of}
use Rattle.rules.specs.declared.Piece as code
use Rattle.rules.specs.declared.pass.Pass.{Pass}
use Rattle.rules.specs.Nexts.{Next}
use Rattle.rules.specs.Cursors.{Sound, Steady, Meets, coming_at, at_start}
use Rattle.rules.specs.Known.{starts, all-coming}

pub record Passing (s : List ℕ) (p : Pass) : Type 0 where
  pub opens : Opens s
  pub rules : p.rules.now ≡ tail_of s
  pub sound : Sound (context_of (board_of s)) (tail_of s) p.cursor

-- what is still to come
abbrev pub coming : List ℕ → Pass → List Piece
coming s p = coming_at (tail_of s) p.cursor

module _ (s : List ℕ) (p : Pass) where
  module _ (o : Opens s) (r : p.rules.now ≡ tail_of s) (e : p.cursor ≡ at_start (length (board_of s).clauses)) where
    pub begun : Passing s p
    begun = record { opens = o; rules = r; sound = rw e (starts (record { opens = o; tail = refl }) refl) }

    pub all_coming : coming s p ≡ pieces_from 0 (board_of s).clauses
    all_coming = rw e (all-coming (record { opens = o; tail = refl }) refl)

  module _ (a : Passing s p) where
    pub callable : Steady p.rules.now p.cursor
    callable = rw a.rules (context_of (board_of s), a.sound)

    module _ (t : Pass) (r : Option code.Piece) (g : (t.rules.now ≡ p.rules.now) × Next p.rules.now p.cursor r t.cursor) where
      pub met : (q : code.Piece) → r ≡ Some q → Meets (context_of (board_of s)) (tail_of s) p.cursor q t.cursor
      met q e = (rw (a.rules, e) at g.1) (context_of (board_of s)) a.sound

      pub further : (q : code.Piece) → r ≡ Some q → Passing s t
      further q e = record { opens = a.opens; rules = g.0 ∙ a.rules; sound = (met q e).onward.sound }

      pub ended : r ≡ None → coming s p ≡ []
      ended e = (rw (a.rules, e) at g.1) (context_of (board_of s)) a.sound
