-- The variables of an accepted record: where their bounds stand, and their numbers one after another. Assumes nothing.
use Rattle.std.specs.Prelude.{◌≡◌, List, ℕ, ◌+◌, ◌*◌, ◌≤◌, ◌<◌, length, get_or, set, ℤ}
use Rattle.std.proofs.Common.{◌∙◌, add-one, arith, get_or-set_same, get_or-set_other, SFits}
use Rattle.std.proofs.Math.Decide.{dec_le}
use Rattle.std.specs.Int.{w32}
use Rattle.definitions.specs.Board.{Board, bounds_of}
use Rattle.definitions.specs.Board as board
use Rattle.definitions.specs.Reading.{big, twos}
use Rattle.definitions.specs.Encoding.{width, first}
use Rattle.laws.specs.Whole.{whole, sfits}
use Rattle.laws.specs.Admitted.{GoodBounds}
use Rattle.laws.specs.Terms.{good_bounds}
use Rattle.laws.specs.Layout.{first_next}
use Rattle.laws.specs.Reread.{table_start}
use Rattle.laws.specs.Boards.{Opens, board_of, opens_board, opens_admitted}
use Rattle.slots.specs.declared.Bounds.{Bounds}

-- bounds as the definitions have them
abbrev pub bounds_read : Bounds → board.Bounds
bounds_read b = record { lo = b.lower; hi = b.upper }

-- they are those of the variable x
pub record BoundsOf (B : Board) (x : ℕ) (b : Bounds) : Type 0 where
  pub lower : b.lower ≡ (bounds_of B x).lo
  pub upper : b.upper ≡ (bounds_of B x).hi
  pub good : GoodBounds (bounds_read b)

pub bounds_same : (B : Board) (x : ℕ) (b : Bounds) → BoundsOf B x b → bounds_read b ≡ bounds_of B x
bounds_same B x b h = rw (h.lower, h.upper)

module _ (b : Bounds) (g : GoodBounds (bounds_read b)) where
  pub lower_fits : SFits w32 b.lower
  lower_fits = sfits (omega (whole, g.lowest, g.ordered, g.highest))

  pub upper_fits : SFits w32 b.upper
  upper_fits = sfits (omega (whole, g.lowest, g.ordered, g.highest))

module _ (s : List ℕ) (o : Opens s) (x : ℕ) (h : x < length (board_of s).bounds) where
  pub bounds_room : table_start + 4 * x + 4 ≤ length s
  bounds_room = omega (arith, (opens_board s o).room)

  pub bounds_there : (l u : ℤ) → l ≡ twos 2 (big s (table_start + 4 * x) 2) → u ≡ twos 2 (big s (table_start + 4 * x + 2) 2)
      → BoundsOf (board_of s) x (record { lower = l; upper = u })
  bounds_there l u el eu =
      let e = (opens_board s o).bounds x h in
      let lower : l ≡ (bounds_of (board_of s) x).lo = rw e el in
      let upper : u ≡ (bounds_of (board_of s) x).hi = rw e eu in
      record { lower = lower; upper = upper; good = rw (lower, upper) (good_bounds (board_of s) (opens_admitted s o).bounds x h) }

-- ---- the first number of each variable
pub first_none : (B : Board) → first B 0 ≡ B.bools + 1
unfolding first
first_none B = omega arith

pub first_more : (B : Board) (x : ℕ) (b : Bounds) → x < length B.bounds → BoundsOf B x b → first B x + width (bounds_read b) ≡ first B (x + 1)
first_more B x b h e = rw (add-one, first_next B x h, bounds_same B x b e)

-- the number that a table of first numbers gives a variable: 0 where it has none
abbrev pub numbered : List ℕ → ℕ → ℕ
numbered firsts x = get_or firsts x 0

-- the first n numbers of a table are a board's
abbrev pub FirstsTo : Board → ℕ → List ℕ → Type 0
FirstsTo B n firsts = (x : ℕ) → x < n → numbered firsts x ≡ first B x

-- the table has the first numbers of all variables, and behind them the first selector's
abbrev pub FirstsOf : Board → List ℕ → Type 0
FirstsOf B = FirstsTo B (length B.bounds + 1)

pub firsts_more : (B : Board) (i n : ℕ) (firsts : List ℕ) → n ≡ first B i → i < length firsts → FirstsTo B i firsts → FirstsTo B (i + 1) (set firsts i n)
firsts_more B i n firsts e h t x l = elim (dec_le (x + 1) i) [
  | yes k ↦ get_or-set_other firsts i x n 0 (omega arith) ∙ t x (omega arith)
  | no k ↦ let z : x ≡ i = omega arith in rw z (get_or-set_same firsts i n 0 h ∙ e)
]
