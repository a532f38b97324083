-- `decode::pieces::piece_holds` meets its contract.
use Rattle.std.proofs.Common.{◌≡◌, false, length, sym, ◌∙◌, subst, to_z-of_z}
use Rattle.laws.specs.Boards.{board_of}
use Rattle.laws.specs.Fits.{good-constant}
use Rattle.laws.specs.Reread.{context_of, Stands}
use Rattle.rules.specs.declared.Piece.{Piece}
use Rattle.rules.specs.Cursors.{Held, said_piece}
use Rattle.decode.specs.Truth.{true_clause}
use Rattle.decode.specs.Tails.{lead_of}
use Rattle.decode.specs.Sums.{shown_lead, shown-line, shown-sum, stands_among}
use Rattle.decode.proofs.pieces.piece_holds.Goals as goal
use Rattle.decode.proofs.pieces.piece_holds.Goals.{Else-lead_holds, In-Lone, In-Led}

-- the lead does not hold; which piece it is tells of the others
module _ (c : Else-lead_holds) (p : Piece) (e : c.args.piece ≡ p) where
  false-lead : true_clause (board_of c.args.numbered.now) c.args.model.now (lead_of (said_piece c.args.rules.now p)) ≡ false
  false-lead =
      subst (λ z. true_clause (board_of c.args.numbered.now) c.args.model.now (lead_of (said_piece c.args.rules.now z)) ≡ false) e (sym c.lead_holds.ensures ∙ c.if-lead_holds.false)

-- its comparison: alone, and under a selector
lone : (c : In-Lone) → Stands (length (board_of c.args.numbered.now).bounds) c.args.rules.now c.in-Lone.place c.in-Lone.constant
lone c = subst (Held (context_of (board_of c.args.numbered.now)) c.args.rules.now) c.in-Lone.is c.requires.3

led : (c : In-Led) → Stands (length (board_of c.args.numbered.now).bounds) c.args.rules.now c.in-Led.place c.in-Led.constant
led c = subst (Held (context_of (board_of c.args.numbered.now)) c.args.rules.now) c.in-Led.is c.requires.3

pub lead_holds-requires : goal.lead_holds-requires
lead_holds-requires c = (c.requires.0, c.requires.3, c.requires.4)

pub returns-then-lead_holds : goal.returns-then-lead_holds
returns-then-lead_holds c = shown_lead _ _ _ (sym c.lead_holds.ensures ∙ c.if-lead_holds.true)

pub compares-requires : goal.compares-requires
compares-requires c =
    let h = lone c in
    let f = good-constant h.good in
    simp to_z-of_z (c.requires.2.near, stands_among c.requires.2.long h)

pub compares-requires-in-Led : goal.compares-requires-in-Led
compares-requires-in-Led c =
    let h = led c in
    let f = good-constant h.good in
    simp to_z-of_z (c.requires.2.near, stands_among c.requires.2.long h)

pub returns-in-Line : goal.returns-in-Line
returns-in-Line c =
    let e = false-lead (goal.at.returns-in-Line c).Else-lead_holds _ c.in-Line.is in
    rw c.in-Line.is (shown-line _ _ _ _ e)

pub returns-in-Lone : goal.returns-in-Lone
returns-in-Lone c =
    let h = lone (goal.at.returns-in-Lone c).In-Lone in
    let f = good-constant h.good in
    let e = false-lead (goal.at.returns-in-Lone c).Else-lead_holds _ c.in-Lone.is in
    rw c.in-Lone.is (shown-sum _ _ c.requires.1 _ c.requires.2 _ _ h.good e _ (simp to_z-of_z at c.compares.ensures))

pub returns-in-Led : goal.returns-in-Led
returns-in-Led c =
    let h = led (goal.at.returns-in-Led c).In-Led in
    let f = good-constant h.good in
    let e = false-lead (goal.at.returns-in-Led c).Else-lead_holds _ c.in-Led.is in
    rw c.in-Led.is (shown-sum _ _ c.requires.1 _ c.requires.2 _ _ h.good e _ (simp to_z-of_z at c.compares-in-Led.ensures))
