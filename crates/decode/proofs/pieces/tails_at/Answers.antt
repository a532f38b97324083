-- `decode::pieces::tails_at` meets its contract.
use Rattle.std.proofs.Common.{◌≡◌, ◌∙◌, w32, SFits, to_z-of_z}
use Rattle.definitions.specs.Board.{bounds_of}
use Rattle.definitions.specs.Board as board
use Rattle.definitions.specs.Encoding.{least}
use Rattle.laws.specs.Whole.{whole, back}
use Rattle.laws.specs.Boards.{board_of}
use Rattle.laws.specs.Reread.{comparison_at}
use Rattle.slots.specs.Ready.{ReadyFor}
use Rattle.walk.specs.Comparisons.{shows_least}
use Rattle.decode.specs.Tails.{below_tails, above_tails}
use Rattle.decode.proofs.pieces.tails_at.Goals as goal
use Rattle.decode.proofs.pieces.tails_at.Goals.{After-least}

-- the comparison was made ready and its least sum found
module _ (c : After-least) where
  abbrev q : board.Comparison
  q = comparison_at c.args.rules.now c.args.place c.args.constant

  made-ready : ReadyFor (board_of c.args.numbered.now) q c.ready-c.result
  made-ready = rw (to_z-of_z c.ranges.constant) at c.ready-c.ensures.ready

  least-is : c.least.result ≡ least (bounds_of (board_of c.args.numbered.now)) q.terms
  least-is = c.least.ensures ∙ shows_least (board_of c.args.numbered.now) q _ made-ready.shows

  least_fits : SFits w32 c.least.result
  least_fits = record { sfits = c.least.type_inv }

pub ready-c-requires : goal.ready-c-requires
ready-c-requires c = rw (to_z-of_z c.ranges.constant) c.requires

pub least-requires : goal.least-requires
least-requires c = c.ready-c.ensures.ready.fair

pub returns-then-constant-least : goal.returns-then-constant-least
returns-then-constant-least c =
    let l = (goal.at.returns-then-constant-least c).After-least in
    λ lead. below_tails (board_of c.args.numbered.now) lead (q l) _ (omega (whole, least-is l, back c.ranges.constant, back (least_fits l))) c.single.ensures

pub returns : goal.returns
returns c =
    let l = (goal.at.returns c).After-least in
    λ lead. above_tails (board_of c.args.numbered.now) lead (q l) _ (omega (whole, least-is l, back c.ranges.constant, back (least_fits l))) (made-ready l)
