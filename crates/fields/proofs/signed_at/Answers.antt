-- The unsigned field, read as two's complement; its range comes from the bytes.
use Rattle.std.proofs.Common.{ap}
use mir.Facts.{to_z-of_z}
use Rattle.laws.specs.Readings.{big-below}
use Rattle.definitions.specs.Reading.{signed}
use Rattle.fields.proofs.Laws.{told, unsigned_got}
use Rattle.fields.specs.Said.{said_field}
use Rattle.fields.proofs.signed_at.Goals as goal

pub returns-in_err-value : goal.returns-in_err-value
unfolding signed
returns-in_err-value c = rw c.from_residual.ensures (rw (told (said_field c.args.at) c.unsigned_at.ensures c.in_err-value.was))

pub twos_complement-requires : goal.twos_complement-requires
twos_complement-requires c =
    (c.requires, rw (ap (λ g. g.value) (unsigned_got _ _ _ (told (said_field c.args.at) c.unsigned_at.ensures c.in_ok-value.was)).0) (big-below _ (λ i. (c.type_inv.bytes i).fits) _ _))

pub returns : goal.returns
unfolding signed
returns c =
    rw (told (said_field c.args.at) c.unsigned_at.ensures c.in_ok-value.was, to_z-of_z (record { sfits = c.twos_complement.type_inv }), c.twos_complement.ensures)
