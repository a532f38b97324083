-- `decode::pieces::tails_of` meets its contract.
use Rattle.std.proofs.Common.{[], ◌∷◌, length, to_z-of_z}
use Rattle.definitions.specs.Encoding.{minus, selector}
use Rattle.laws.specs.Boards.{board_of}
use Rattle.laws.specs.Fits.{good-constant}
use Rattle.laws.specs.Reread.{Stands}
use Rattle.decode.specs.Tails.{line_tails}
use Rattle.decode.proofs.pieces.tails_of.Goals as goal
use Rattle.decode.proofs.pieces.tails_of.Goals.{In-Lone, In-Led}

-- the comparison of the piece: alone, and under a selector
lone : (c : In-Lone) → Stands (length (board_of c.args.numbered.now).bounds) c.args.rules.now c.in-Lone.place c.in-Lone.constant
lone c = rw c.in-Lone.is at c.requires

led : (c : In-Led) → Stands (length (board_of c.args.numbered.now).bounds) c.args.rules.now c.in-Led.place c.in-Led.constant
led c = rw c.in-Led.is at c.requires

pub tails_at-requires : goal.tails_at-requires
tails_at-requires c =
    let h = lone c in
    let f = good-constant h.good in
    simp to_z-of_z h

pub tails_at-requires-in-Led : goal.tails_at-requires-in-Led
tails_at-requires-in-Led c =
    let h = led c in
    let f = good-constant h.good in
    simp to_z-of_z h

pub returns-in-Line : goal.returns-in-Line
returns-in-Line c = rw c.in-Line.is (line_tails (board_of c.args.numbered.now) _ _ _ c.single.ensures)

pub returns-in-Lone : goal.returns-in-Lone
returns-in-Lone c =
    let f = good-constant (lone (goal.at.returns-in-Lone c).In-Lone).good in
    rw c.in-Lone.is (simp to_z-of_z at (c.tails_at.ensures []))

pub returns-in-Led : goal.returns-in-Led
returns-in-Led c =
    let f = good-constant (led (goal.at.returns-in-Led c).In-Led).good in
    rw c.in-Led.is (simp to_z-of_z at (c.tails_at-in-Led.ensures (minus (selector c.in-Led.selector) ∷ [])))
