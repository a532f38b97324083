-- The bytes are put where they have room.
use Rattle.std.proofs.Common.{take, arith}
use Rattle.std.proofs.Math.Seq.{length-take-le}
use Rattle.writing.specs.Adds.{put}
use Rattle.write_text.proofs.head.add_bytes.Goals as goal

pub returns : goal.returns
returns c = put (take c.args.n c.args.bytes.now) c.args.at c.args.out.now _ _ (omega (arith, length-take-le c.args.n c.args.bytes.now c.requires.0)) c.put_word.ensures.0 c.put_word.ensures.1
