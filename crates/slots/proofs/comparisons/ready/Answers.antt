-- The slots are those of the comparison's terms, as many as it counts.
use Rattle.std.proofs.Common.{◌≡◌, ◌∙◌, sym, ap, ℕ, ◌+◌, ◌*◌, ◌<◌, List, map, length, get_or, pos, arith, to_z-of_z}
use Rattle.std.proofs.Math.ListN.{length-map, get_or-map}
use Rattle.definitions.specs.Board.{Board}
use Rattle.definitions.specs.Board as board
use Rattle.laws.specs.Boards.{board_of, opens_admitted}
use Rattle.laws.specs.Reread.{term_at, terms_at}
use Rattle.walk.specs.declared.Slot.{Slot}
use Rattle.walk.specs.Slots.{slot_of}
use Rattle.slots.specs.Terms.{terms_count, terms_at_lem}
use Rattle.slots.specs.Variables.{numbered}
use Rattle.slots.specs.Ready.{shows_ready}
use Rattle.slots.proofs.Arrays.{first_three}
use Rattle.slots.proofs.comparisons.ready.Goals as goal

-- any term: it stands for those that are not there
abbrev d : board.Term
d = record { coef = pos 0; var = 0 }

module _ (B : Board) (f : ℕ → ℕ) (s : List ℕ) (place n : ℕ) (e : n ≡ length (terms_at s place)) where
  entry : (i : ℕ) (r : Slot) → (i < n → r ≡ slot_of B f (term_at s (place + 1 + 3 * i))) → i < n → r ≡ get_or (map (slot_of B f) (terms_at s place)) i (slot_of B f d)
  entry i r h k =
      h k ∙ ap (slot_of B f) (sym (terms_at_lem s place i d (omega (arith, e, terms_count s place)))) ∙ sym (get_or-map (slot_of B f) (terms_at s place) i d)

pub slot_at-a-requires : goal.slot_at-a-requires
slot_at-a-requires c = (c.requires.1.terms, c.requires.1.good.terms, c.unchecked-n.ensures ∙ sym (terms_count _ _))

pub slot_at-b-requires : goal.slot_at-b-requires
slot_at-b-requires c = (c.requires.1.terms, c.requires.1.good.terms, c.unchecked-n.ensures ∙ sym (terms_count _ _))

pub slot_at-c-requires : goal.slot_at-c-requires
slot_at-c-requires c = (c.requires.1.terms, c.requires.1.good.terms, c.unchecked-n.ensures ∙ sym (terms_count _ _))

pub returns-clause-ready : goal.returns-clause-ready
returns-clause-ready c =
    let B = board_of c.args.opened.now in
    let f = numbered c.args.firsts.now in
    let r = c.args.rules.now in
    let p = c.args.place in
    let n = c.unchecked-n.result in
    let counted = c.unchecked-n.ensures ∙ sym (terms_count r p) in
    shows_ready B (opens_admitted _ c.ints-ints.ensures.opens) f c.requires.0 _ _ c.requires.1.good (record {
      counted = counted;
      terms =
          first_three (map (slot_of B f) (terms_at r p)) n (counted ∙ sym (length-map (terms_at r p) (slot_of B f))) (omega (arith, counted, c.requires.1.good.few)) (slot_of B f d) _ _ _
          (entry B f r p n counted 0 _ c.slot_at-a.ensures)
          (entry B f r p n counted 1 _ c.slot_at-b.ensures)
          (entry B f r p n counted 2 _ c.slot_at-c.ensures);
      constant = to_z-of_z c.ranges.constant;
    })
