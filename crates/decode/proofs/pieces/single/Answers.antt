-- `decode::pieces::single` meets its contract.
use Rattle.std.proofs.Common.{refl}
use Rattle.decode.specs.Tails.{single_is}
use Rattle.decode.proofs.pieces.single.Goals as goal

pub returns : goal.returns
returns c = single_is _ refl refl
