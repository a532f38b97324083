-- A pass over the rules that writes a byte for each comparison under a selector. Assumes nothing.
use Rattle.std.proofs.Common.{◌≡◌, refl, sym, ap, ◌∙◌, List, [], ◌∷◌, ◌++◌, ℕ, ℤ}
use Rattle.definitions.specs.Board.{Board}
use Rattle.definitions.specs.Reading.{Context}
use Rattle.definitions.specs.Encoding.{selections}
use Rattle.definitions.specs.Meaning.{Assignment, compares}
use Rattle.laws.specs.Pieces as laws
use Rattle.laws.specs.Pieces.{pieces_from}
use Rattle.laws.specs.Reread.{comparison_at}
use Rattle.rules.specs.declared.Cursor.{Cursor}
use Rattle.rules.specs.declared.Piece.{Piece}
use Rattle.rules.specs.Cursors.{coming_at, Meets}
use Rattle.image.specs.Parts.{bit, selector_bytes, led_in, led-selected}

-- the byte that is put is the next
pub the_next : {u v : ℕ} {todo todo' : List ℕ} → todo ≡ u ∷ todo' → v ≡ u → todo ≡ v ∷ todo'
the_next {todo' = todo'} e f = e ∙ ap (λ b. b ∷ todo') (sym f)

module _ (a : Assignment) where
  abbrev pub bytes_in : List laws.Piece → List ℕ
  bytes_in ps = selector_bytes a (led_in ps)

  pub bytes_end : bytes_in [] ≡ []
  unfolding led_in
  bytes_end = refl

  -- the bytes of all pieces are those of the board's selectors
  pub all_bytes : (B : Board) → bytes_in (pieces_from 0 B.clauses) ≡ selector_bytes a (selections B)
  unfolding selections
  all_bytes B = ap (selector_bytes a) (led-selected 0 B.clauses)

  module _ (t : List ℕ) where
    -- the bytes of a piece
    abbrev pub bytes_of : Piece → List ℕ
    bytes_of (Piece.Line place n j) = []
    bytes_of (Piece.Lone place constant) = []
    bytes_of (Piece.Led j place constant) = bit (compares a (comparison_at t place constant)) ∷ []

    pub bytes_met : {ctx : Context} {c c' : Cursor} (p : Piece) → Meets ctx t c p c' → bytes_in (coming_at t c) ≡ bytes_of p ++ bytes_in (coming_at t c')
    unfolding led_in
    bytes_met (Piece.Line place n j) m = ap bytes_in m.comes
    bytes_met (Piece.Lone place constant) m = ap bytes_in m.comes
    bytes_met (Piece.Led j place constant) m = ap bytes_in m.comes

    -- only a comparison under its selector has one
    pub bytes_none : (p : Piece) → ((j place : ℕ) (constant : ℤ) → p ≡ Piece.Led j place constant → ⊥) → bytes_of p ≡ []
    bytes_none (Piece.Line place n j) h = refl
    bytes_none (Piece.Lone place constant) h = refl
    bytes_none (Piece.Led j place constant) h = absurd (h j place constant refl)
