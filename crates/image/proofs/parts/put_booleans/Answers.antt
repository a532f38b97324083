-- `image::parts::put_booleans` meets its contract.
use Rattle.std.proofs.Common.{refl, sym, ◌∙◌, arith}
use Rattle.laws.specs.Written.{written_none}
use Rattle.image.specs.Parts.{boolean_bytes, boolean-at, booleans_length}
use Rattle.image.proofs.Entries.{put, all_put, byte_is}
use Rattle.image.proofs.parts.put_booleans.Goals as goal

pub loop-i-init : goal.loop-i-init
loop-i-init c = written_none _

pub loop-i-preserved : goal.loop-i-preserved
loop-i-preserved c =
    let b = c.args.booleans.now in
    put (boolean_bytes b) _ _ _ c.loop-i.invariant _ (c.from.ensures ∙ byte_is _ ∙ sym (boolean-at b c.loop-i.i c.loop-i-test.true)) (omega (arith, booleans_length b)) (omega (arith, c.requires))

pub returns : goal.returns
returns c =
    let b = c.args.booleans.now in
    (refl, all_put (boolean_bytes b) _ _ c.loop-i.i c.loop-i.invariant (omega (arith, booleans_length b)))
