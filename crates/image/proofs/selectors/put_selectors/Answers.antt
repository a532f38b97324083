-- Each comparison's byte goes behind those that are in the model.
use Rattle.std.proofs.Common.{◌≡◌, length, [], ◌∷◌, ◌++◌, ap, ◌∙◌, arith, rules, w32, SFits, to_z-of_z}
use lib.ListN.{length-map}
use Rattle.definitions.specs.Encoding.{selections}
use Rattle.definitions.specs.Meaning.{assigned, compares}
use Rattle.laws.specs.Boards.{board_of}
use Rattle.laws.specs.Filling.{begin, room, next, one, ended}
use Rattle.laws.specs.Reread.{context_of, comparison_at}
use Rattle.opening.specs.Headers.{tail_of}
use Rattle.rules.specs.Cursors.{Meets}
use Rattle.rules.specs.Passes as passes
use Rattle.rules.specs.Passes.{coming, begun, all_coming, callable, met, further}
use Rattle.image.specs.Parts.{bit}
use Rattle.image.proofs.Entries.{byte_is}
use Rattle.image.proofs.Selections.{the_next, bytes_in, bytes_end, all_bytes, bytes_of, bytes_met, bytes_none}
use Rattle.image.proofs.selectors.put_selectors.Goals as goal
use Rattle.image.proofs.selectors.put_selectors.Goals.{In-Some, In-Led}

module _ (p : In-Some) where
  meets : Meets (context_of (board_of p.args.opened.now)) (tail_of p.args.opened.now) p.loop-piece.piece-iterator.cursor p.in-Some.piece p.next.new.self.cursor
  meets = met _ p.loop-piece.piece-iterator p.loop-piece.invariant.passing p.next.new.self _ p.next.ensures.steps _ p.in-Some.is

-- a comparison under its selector
module _ (p : In-Led) where
  byte : let a = assigned p.args.values.now [] in
      bytes_in a (coming p.args.opened.now p.loop-piece.piece-iterator)
      ≡ bit (compares a (comparison_at (tail_of p.args.opened.now) p.in-Led.place p.in-Led.constant)) ∷ bytes_in a (coming p.args.opened.now p.next.new.self)
  byte =
      let a = assigned p.args.values.now [] in
      bytes_met a _ _ (met _ p.loop-piece.piece-iterator p.loop-piece.invariant.passing p.next.new.self _ p.next.ensures.steps _ p.in-Some.is)
      ∙ ap (λ q. bytes_of a (tail_of p.args.opened.now) q ++ bytes_in a (coming p.args.opened.now p.next.new.self)) p.in-Led.is

pub loop-piece-init : goal.loop-piece-init
loop-piece-init c =
    let s = c.pieces-piece-items.ensures in
    let p = c.pieces-piece-items.result in
    let a = assigned c.args.values.now [] in
    let B = board_of c.args.opened.now in
    rw c.into_iter-piece-iterator.ensures.into_iter_gives (record {
      passing = begun _ p s.opens s.rules s.start;
      filling = begin _ _ _ (ap (bytes_in a) (all_coming _ p s.opens s.rules s.start) ∙ all_bytes a B) (omega (arith, c.requires.2, length-map (selections B) (λ q. bit (compares a q))));
    })

pub bounds-model-at : goal.bounds-model-at
bounds-model-at c = omega (arith, room c.loop-piece.invariant.filling, ap length (byte (goal.at.bounds-model-at c).In-Led))

pub loop-piece-preserved-in-Led : goal.loop-piece-preserved-in-Led
loop-piece-preserved-in-Led c =
    let d = (goal.at.loop-piece-preserved-in-Led c).In-Led in
    let f : SFits w32 d.in-Led.constant = search rules in
    record {
      passing = further _ d.loop-piece.piece-iterator d.loop-piece.invariant.passing d.next.new.self _ d.next.ensures.steps _ d.in-Some.is;
      filling = one c.loop-piece.invariant.filling _ _ (the_next (byte d) (c.from.ensures ∙ byte_is _ ∙ ap bit (rw (c.rules-rules.ensures.rules, to_z-of_z f) at c.compares.ensures)));
    }

pub loop-piece-preserved : goal.loop-piece-preserved
loop-piece-preserved c =
    let p = (goal.at.loop-piece-preserved c).In-Some in
    let a = assigned c.args.values.now [] in
    let t = tail_of c.args.opened.now in
    record {
      passing = further _ p.loop-piece.piece-iterator p.loop-piece.invariant.passing p.next.new.self _ p.next.ensures.steps _ p.in-Some.is;
      filling = next c.loop-piece.invariant.filling (bytes_met a t _ (meets p) ∙ ap (λ b. b ++ bytes_in a (coming c.args.opened.now p.next.new.self)) (bytes_none a t _ c.in_default.not-Led));
    }

pub returns : goal.returns
returns c =
    let l = c.loop-piece in
    let a = assigned c.args.values.now [] in
    let e = ended l.invariant.filling (ap (bytes_in a) (passes.ended _ l.piece-iterator l.invariant.passing c.next.new.self _ c.next.ensures.steps c.in-None.is) ∙ bytes_end a) in
    (e.0 ∙ length-map (selections (board_of c.args.opened.now)) (λ q. bit (compares a q)), e.1)
