use Rattle.std.proofs.Common.{arith, [], ◌∷◌, ◌+◌, ◌-◌, ◌<◌, ◌≡◌, ◌∙◌, pos, refl, to_z-of_z, w32}
use Rattle.writing.specs.Lines.{takes_few}
use Rattle.writing.specs.Parts.{first_room, on, ended, room_at, adds_at}
use Rattle.writing.proofs.Literals.{there, small, rest_of, line_on, line-last}
use Rattle.writing.proofs.lines.put_line.Goals as goal

pub literal_again-got-requires : goal.literal_again-got-requires
literal_again-got-requires g c = there (omega arith) c.loop-before.invariant.1

pub number_of-requires : goal.number_of-requires
number_of-requires g c =
    let l = c.loop-before in
    small (omega arith) l.invariant.1 c.literal_again-got.ensures l.number (omega (arith, l.invariant.2))

pub add-to-requires : goal.add-to-requires
add-to-requires g c =
    let l = c.loop-before in
    let v = to_z-of_z {w = w32} (record { sfits = c.number_of.type_inv }) ∙ c.number_of.ensures in
    let L = g.met.P.Part.is in
    room_at L (omega arith) (first_room L l.invariant.0 _ _ (line_on (omega arith) l.invariant.1 c.literal_again-got.ensures (c.args.n - (l._before + 1)) (omega arith) l.number _ _ v refl))

pub loop-before-preserved : goal.loop-before-preserved
loop-before-preserved g c =
    let l = c.loop-before in
    let a = c.literal_again-got.ensures in
    let m = c.args.n - (l._before + 1) in
    let e : c.args.n - l._before ≡ m + 1 = omega arith in
    let h : 0 < c.args.n - l._before = omega arith in
    let v = to_z-of_z {w = w32} (record { sfits = c.number_of.type_inv }) ∙ c.number_of.ensures in
    let L = g.met.P.Part.is in (
      on L l.invariant.0 _ _ (line_on h l.invariant.1 a m e l.number _ c.selectors_of-number.result v c.selectors_of-number.ensures) (adds_at L (omega arith) c.add-to.ensures),
      rest_of h l.invariant.1 a m e,
      omega (arith, l.invariant.2, c.selectors_of-number.ensures, takes_few c.literal_again-got.result.value),
    )

pub add-requires : goal.add-requires
add-requires g c =
    let l = c.loop-before in
    let L = g.met.P.Part.is in
    room_at L (omega arith) (first_room L l.invariant.0 (pos 0 ∷ []) [] (line-last c.args.rules.now _ l.next_place l.number (omega arith)))

pub returns : goal.returns
returns g c =
    let l = c.loop-before in
    let L = g.met.P.Part.is in
    ended L (on L l.invariant.0 (pos 0 ∷ []) [] (line-last c.args.rules.now _ l.next_place l.number (omega arith)) (adds_at L (omega arith) c.add.ensures)) refl
