-- The text of a whole board, in the parts that the writer adds, and from the answer of `measure` to that of `write_text`. Assumes nothing.
use mathlib.Core.Path.{◌≡◌, refl, ap, ◌∙◌}
use mathlib.Core.List.{List, ◌++◌}
use Prim.Native.Nat.{ℕ, ◌≤◌, ◌<◌}
use native.Mathlib.Omega.{arith}
use lib.ListN.{length, take, length-append}
use lib.Seq.{take_all}
use borrow.Author.Tests.{lt-leb, le-leb}
use Rattle.definitions.specs.Board.{Board}
use Rattle.definitions.specs.Encoding.{N, M, K, clause_list}
use Rattle.definitions.specs.Result.{done, refused}
use Rattle.definitions.specs.Operations.{accepted, sizes_of}
use Rattle.definitions.specs.Dimacs.{ascii, shown}
use Rattle.laws.specs.Boards.{board_of}
use Rattle.laws.specs.Reread.{accepted-parts}
use Rattle.laws.specs.Sizes.{K_is}
use Rattle.laws.specs.Written.{written}
use Rattle.opening.specs.Said.{map_done}
use Rattle.measure.specs.declared.Measured.{Measured}
use Rattle.measure.specs.Said.{measured_of}
use Rattle.measure.specs.Told.{Measures, measured, not_measured}
use Rattle.text.specs.Lines.{line, lined, line-length}
use Rattle.text.specs.Entries.{entries, entries-length}
use Rattle.definitions.specs.TextOperations.{text_of, write_text_outcome}
use Rattle.writing.specs.Adds.{Counts}

-- ---- the parts
module _ (B : Board) where
  abbrev pub first_line : List ℕ
  first_line = line (ascii "p cnf ") (N B) (M B)

  pub text_list : text_of B ≡ first_line ++ entries (clause_list B)
  unfolding text_of shown sizes_of
  text_list =
      ap (λ l. l ++ entries (take (K B) (clause_list B))) (lined (ascii "p cnf ") (N B) (M B))
      ∙ ap (λ l. first_line ++ entries l) (take_all (K B) (clause_list B) (omega (arith, K_is B)))

  pub text_counts : K B ≤ 2000000000 → Counts 0 (text_of B)
  text_counts h =
      omega (arith, ap length text_list, length-append first_line (entries (clause_list B)), line-length (ascii "p cnf ") (N B) (M B), entries-length (clause_list B), K_is B)

-- ---- the answer
module _ (s lent : List ℕ) where
  abbrev text : List ℕ
  text = text_of (board_of s)

  module _ (m : Measured) (e : map_done measured_of (accepted s) ≡ done m) where
    measures : Measures s m
    measures = measured s e

    pub counted : Counts 0 text
    counted = text_counts (board_of s) ((accepted-parts s (board_of s)).0 measures.board).1

    pub too_short : (n : ℕ) → n ≡ length text → length lent < n → (refused 10 n ≡ (write_text_outcome s lent).answer) × (lent ≡ (write_text_outcome s lent).left)
    unfolding write_text_outcome
    too_short n en l =
        let k : length lent < length text = omega arith in
        rw (measures.board, lt-leb (length text) (length lent) k, en) (refl, refl)

    pub texted : length text ≤ length lent → (n : ℕ) (out : List ℕ) → n ≡ length text → out ≡ written text lent
        → (done n ≡ (write_text_outcome s lent).answer) × (out ≡ (write_text_outcome s lent).left)
    unfolding write_text_outcome written
    texted l n out en ey = rw (measures.board, le-leb (length text) (length lent) l, en) (refl, ey)

  pub unmeasured : (n d : ℕ) → map_done measured_of (accepted s) ≡ refused n d → (refused n d ≡ (write_text_outcome s lent).answer) × (lent ≡ (write_text_outcome s lent).left)
  unfolding write_text_outcome
  unmeasured n d e = rw (not_measured s e) (refl, refl)
