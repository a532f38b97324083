-- The passes over an accepted record's variables and over the pieces of its rules. Assumes nothing.
use mathlib.Core.Path.{◌≡◌, refl, sym, ap, ap₂, subst, ◌∙◌}
use mathlib.Core.List.{List, [], ◌∷◌, ◌++◌}
use Prim.Native.Nat.{ℕ, ◌+◌, ◌≤◌, ◌<◌}
use native.Mathlib.Omega.{arith}
use lib.ListN.{length}
use lib.IntN.{ℤ}
use Rattle.std.proofs.Common.{to_z, of_z, w32, pos, ◌-ℤ◌}
use Rattle.laws.specs.Signs.{minus_is}
use Rattle.laws.specs.Limits.{selectors_limit, numbers_limit}
use Rattle.definitions.specs.Tools.{neg}
use Rattle.definitions.specs.Board.{Board, Clause, bounds_of}
use Rattle.definitions.specs.Board as board
use Rattle.definitions.specs.Result.{done}
use Rattle.definitions.specs.Reading.{Context, times, read_literal}
use Rattle.definitions.specs.Encoding.{selector, minus, axioms_of, width, first, number, literal_number}
use Rattle.laws.specs.Admitted.{Admitted}
use Rattle.laws.specs.Axioms as laws
use Rattle.laws.specs.Axioms.{axioms-more}
use Rattle.laws.specs.Terms.{good_bounds}
use Rattle.laws.specs.Fits.{first-most}
use Rattle.laws.specs.Boards.{Opens, board_of, opens_admitted}
use Rattle.laws.specs.Reread.{context_of}
use Rattle.laws.specs.Written.{written}
use Rattle.laws.specs.Pieces.{line, under, piece_clauses}
use Rattle.laws.specs.Again.{literals_at}
use Rattle.rules.specs.declared.Cursor.{Cursor}
use Rattle.rules.specs.declared.Piece as code
use Rattle.rules.specs.Cursors.{said_piece, selectors_to, Held, coming_at, Meets}
use Rattle.slots.specs.declared.Bounds.{Bounds}
use Rattle.slots.specs.Variables.{bounds_read, BoundsOf, bounds_same}
use Rattle.walk.specs.declared.Comparison.{Comparison}
use Rattle.std.specs.Prelude.{Some, None}
use Rattle.walk.specs.Comparisons.{Shows}
use Rattle.writing.specs.Numbers.{numbers_of, numbers-append, under_lead, under_is}
use Rattle.writing.specs.Axioms.{axiom_numbers, axioms_are}
use Rattle.writing.specs.Lines.{line_numbers, line_is, LineRead}
use Rattle.compile.specs.Lists.{axioms_from, piece_numbers, pieces_numbers, pieces_more}

-- the same numbers, written
pub renamed : (old : List ℤ) {f g : List ℤ} → f ≡ g → {n : ℕ} {out : List ℤ} → (n ≡ length f) × (out ≡ written f old) → (n ≡ length g) × (out ≡ written g old)
renamed old e w = (w.0 ∙ ap length e, w.1 ∙ ap (λ l. written l old) e)

-- ---- variables
pub axioms_next : (B : Board) → Admitted B → (x : ℕ) → x < length B.bounds → (b : Bounds) (i w : ℕ) → BoundsOf B x b → i ≡ first B x → w ≡ width (bounds_read b)
    → axioms_from B x ≡ axiom_numbers i w ++ axioms_from B (x + 1)
unfolding axioms_from
axioms_next B g x h b i w o ei ew =
    let e = axioms_are B x (good_bounds B g.bounds x h).ordered ∙ ap₂ axiom_numbers (sym ei) (ap width (sym (bounds_same B x b o)) ∙ sym ew) in
    ap (numbers_of B) (axioms-more B x h)
    ∙ numbers-append B (axioms_of (bounds_of B) x) (laws.axioms_from B (x + 1))
    ∙ ap (λ l. l ++ axioms_from B (x + 1)) e

-- ---- the numbers of a piece
module _ (B : Board) (n : ℕ) (e : n ≡ first B (length B.bounds)) where
  pub line-numbers : (j : ℕ) (C : Clause) → line_numbers (n + j) C ≡ piece_numbers B (line j C)
  unfolding piece_numbers piece_clauses
  line-numbers j C = ap (λ k. line_numbers (k + j) C) e ∙ line_is B j C

  pub led-numbers : (j : ℕ) (q : board.Comparison) (c : Comparison) → Shows B q c → under_lead (Some (neg (n + j))) c ≡ piece_numbers B (under (minus (selector j) ∷ []) q)
  unfolding piece_numbers piece_clauses literal_number number first
  led-numbers j q c h = under_is B q c (Some (neg (n + j))) (minus (selector j) ∷ []) h (ap (λ k. neg (k + j) ∷ []) (sym e))

  -- the negated selector is a word
  pub led-words : (j : ℕ) (q : board.Comparison) (c : Comparison) → Shows B q c → n + (j + 1) < numbers_limit
      → under_lead (Some (to_z w32 (of_z w32 (pos 0 -ℤ to_z w32 (n + j))))) c ≡ piece_numbers B (under (minus (selector j) ∷ []) q)
  led-words j q c h f = ap (λ k. under_lead (Some k) c) (minus_is (n + j) (omega arith)) ∙ led-numbers j q c h

pub lone-numbers : (B : Board) (q : board.Comparison) (c : Comparison) → Shows B q c → under_lead None c ≡ piece_numbers B (under [] q)
unfolding piece_numbers piece_clauses
lone-numbers B q c h = under_is B q c None [] h refl

-- ---- what is known of the record
module _ (s : List ℕ) (o : Opens s) where
  pub line_read : {rules : List ℕ} {n place : ℕ} → times n (read_literal (context_of (board_of s))) rules place ≡ done (literals_at rules n place) → LineRead rules n place
  line_read e = record { ctx = context_of (board_of s); bools = omega (arith, (opens_admitted s o).bools); literals = e }

  pub few_selectors : {n j : ℕ} → n ≡ first (board_of s) (length (board_of s).bounds) → j ≤ selectors_limit → n + j < numbers_limit
  few_selectors e h = omega (arith, first-most (board_of s) (opens_admitted s o) (length (board_of s).bounds))

-- of a piece that a match has found
pub held_at : (ctx : Context) (t : List ℕ) {p p' : code.Piece} → p ≡ p' → Held ctx t p → Held ctx t p'
held_at ctx t e h = subst (Held ctx t) e h

pub few_at : (s : List ℕ) {n : ℕ} {p p' : code.Piece} → p ≡ p' → Opens s → n ≡ first (board_of s) (length (board_of s).bounds) → selectors_to p ≤ selectors_limit
    → n + selectors_to p' < numbers_limit
few_at s e o f h = few_selectors s o f (subst (λ p. selectors_to p ≤ selectors_limit) e h)

-- ---- a step of a pass
module _ (B : Board) {ctx : Context} {t : List ℕ} {c : Cursor} where
  pub numbers_met : {p : code.Piece} {c' : Cursor} → Meets ctx t c p c' → pieces_numbers B (coming_at t c) ≡ piece_numbers B (said_piece t p) ++ pieces_numbers B (coming_at t c')
  numbers_met m = ap (pieces_numbers B) m.comes ∙ pieces_more B _ _
