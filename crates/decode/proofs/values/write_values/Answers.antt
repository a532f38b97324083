-- `decode::values::write_values` meets its contract.
use Rattle.std.proofs.Common.{◌≡◌, ◌+◌, ◌≤◌, ◌<◌, length, get_or, take, set, pos, w32, SFits, sym, ap, ◌∙◌, arith, to_z-of_z, take_all}
use Rattle.definitions.specs.Encoding.{width}
use Rattle.definitions.specs.Meaning.{values_of}
use Rattle.laws.specs.Boards.{board_of}
use Rattle.laws.specs.Written.{written, written_none, written-take}
use Rattle.slots.specs.Variables.{bounds_read, bounds_same, first_none, first_more}
use Rattle.decode.specs.Given.{counts_small, short, ordered, within}
use Rattle.decode.specs.Values.{value_is, values_length, values_at}
use Rattle.decode.proofs.values.write_values.Goals as goal
use Rattle.decode.proofs.values.write_values.Goals.{After-bounds_of-bounds}

-- the bounds of variable x were read
module _ (c : After-bounds_of-bounds) where
  there : c.loop-x.x < length (board_of c.args.opened.now).bounds
  there = omega (arith, c.ints-x-end.ensures.ints)

  room : (1 ≤ c.loop-x.first) × (c.loop-x.first + width (bounds_read c.bounds_of-bounds.result) ≤ length c.args.model.now + 1) × (length c.args.model.now < 2147483648)
  room =
      let w = within c.requires.0 c.loop-x.x there c.bounds_of-bounds.ensures in
      rw c.loop-x.invariant.0 (w.0, w.1, short c.requires.0)

pub overflow_add-first : goal.overflow_add-first
overflow_add-first c = omega (arith, counts_small c.requires.0, c.bools-first.ensures.bools)

pub loop-x-init : goal.loop-x-init
loop-x-init c = (rw c.bools-first.ensures.bools (sym (first_none (board_of c.args.opened.now))), written_none _)

pub value_of-requires : goal.value_of-requires
value_of-requires c = let r = room (goal.at.value_of-requires c).After-bounds_of-bounds in (c.bounds_of-bounds.ensures.good, r.0, r.1, r.2)

pub overflow_add-first-in-loop-x : goal.overflow_add-first-in-loop-x
overflow_add-first-in-loop-x c = omega (arith, room (goal.at.overflow_add-first-in-loop-x c).After-bounds_of-bounds, c.width_of.ensures)

pub loop-x-preserved : goal.loop-x-preserved
loop-x-preserved c =
    let B = board_of c.args.opened.now in
    let m = c.args.model.now in
    let x = c.loop-x.x in
    let all = values_of B m in
    let t = there (goal.at.loop-x-preserved c).After-bounds_of-bounds in
    let r : SFits w32 c.value_of.result = record { sfits = c.value_of.type_inv } in
    let e = rw (c.loop-x.invariant.0, bounds_same B x _ c.bounds_of-bounds.ensures) at c.value_of.ensures in (
      omega (arith, first_more B x _ t c.bounds_of-bounds.ensures, c.width_of.ensures, c.loop-x.invariant.0),
      ap (set c.loop-x.values x) (to_z-of_z r ∙ e ∙ value_is B m x (ordered c.requires.0 x t c.bounds_of-bounds.ensures) ∙ sym (values_at B m x (pos 0) t))
          ∙ ap (λ z. set z x (get_or all x (pos 0))) c.loop-x.invariant.1
          ∙ written-take (pos 0) all c.args.values.now x (omega (arith, values_length B m, t)) (omega (arith, c.requires.1)),
    )

pub returns : goal.returns
returns c =
    let all = values_of (board_of c.args.opened.now) c.args.model.now in
    let e : take c.loop-x.x all ≡ all = take_all c.loop-x.x all (omega (arith, values_length (board_of c.args.opened.now) c.args.model.now, c.ints-x-end.ensures.ints)) in
    c.loop-x.invariant.1 ∙ ap (λ z. written z c.args.values.now) e
