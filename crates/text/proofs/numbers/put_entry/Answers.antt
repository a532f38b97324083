-- By its sign: digits and a space, a minus before them, or 0 and a line's end.
use Rattle.std.proofs.Common.{◌≡◌, refl, sym, ap, true, false, List, [], ◌∷◌, ℕ, ◌+◌, ◌≤◌, length, arith, rules, ℤ, pos, nat_abs, FitsSigned, w32, to_z, of_z, to_z-of_z}
use Rattle.std.proofs.Math.ListN.{set}
use Rattle.std.specs.Int.Signed.{lt_z}
use Rattle.definitions.specs.Dimacs.{entry}
use Rattle.laws.specs.Whole.{whole, back}
use Rattle.laws.specs.Written.{rest-length, written_one}
use Rattle.laws.specs.Filling.{Filling, begun, room_before, room, last}
use Rattle.text.specs.Puts.{retold}
use Rattle.text.specs.Lines.{with_end}
use Rattle.text.specs.Entries.{entry-above, entry-below, entry_zero}
use Rattle.text.proofs.numbers.put_entry.Goals as goal

-- the text by the code's tests of the number; m is the number without its sign
module _ (z : ℤ) (f : FitsSigned w32 z) where
  none : lt_z (pos 0) (to_z w32 (of_z w32 z)) ≡ false → lt_z (to_z w32 (of_z w32 z)) (pos 0) ≡ false → with_end 0 10 ≡ entry z
  none g l = sym (entry_zero z (omega (whole, back f)) (omega (whole, back f)))

  module _ (m : ℕ) (e : m ≡ nat_abs (to_z w32 (of_z w32 z))) where
    above : lt_z (pos 0) (to_z w32 (of_z w32 z)) ≡ true → with_end m 32 ≡ entry z
    above g = sym (entry-above z m (simp to_z-of_z at e) (omega (whole, back f)))

    module _ (l : lt_z (to_z w32 (of_z w32 z)) (pos 0) ≡ true) where
      below : 45 ∷ with_end m 32 ≡ entry z
      below = sym (entry-below z m (simp to_z-of_z at e) (omega (whole, back f)))

      -- the minus is written
      minus : (out : List ℕ) → length (entry z) ≤ length out → Filling (45 ∷ with_end m 32) (with_end m 32) out (set out 0 45) 1
      minus out h = begun (45 ∷ []) _ _ _ _ (omega (arith, ap length below)) refl (written_one out 45 (omega (arith, ap length below)))

pub put_ended-requires : goal.put_ended-requires
put_ended-requires c =
    omega (arith, ap length (above c.args.number c.ranges.number c.unsigned_abs.result c.unsigned_abs.ensures.value c.if-number-gt0.true))

pub returns-then-number-gt0 : goal.returns-then-number-gt0
returns-then-number-gt0 c =
    retold _ _ _ _ _ (above c.args.number c.ranges.number c.unsigned_abs.result c.unsigned_abs.ensures.value c.if-number-gt0.true) c.put_ended.ensures

pub bounds-out-0 : goal.bounds-out-0
bounds-out-0 c = omega (arith, ap length (below c.args.number c.ranges.number _ refl c.if-number-lt0.true))

pub slice_bounds-put_ended-count : goal.slice_bounds-put_ended-count
slice_bounds-put_ended-count c =
    let m = c.unsigned_abs-then-number-lt0 in
    omega (arith, room (minus c.args.number c.ranges.number m.result m.ensures.value c.if-number-lt0.true c.args.out.now c.requires))

pub slice_bounds-put_ended-start : goal.slice_bounds-put_ended-start
slice_bounds-put_ended-start c =
    let m = c.unsigned_abs-then-number-lt0 in
    omega (arith, room (minus c.args.number c.ranges.number m.result m.ensures.value c.if-number-lt0.true c.args.out.now c.requires))

pub put_ended-requires-then-number-lt0 : goal.put_ended-requires-then-number-lt0
put_ended-requires-then-number-lt0 c =
    let m = c.unsigned_abs-then-number-lt0 in
    omega (
      arith,
      room (minus c.args.number c.ranges.number m.result m.ensures.value c.if-number-lt0.true c.args.out.now c.requires),
      rest-length (set c.args.out.now 0 45) 1,
    )

pub overflow_add-result : goal.overflow_add-result
overflow_add-result c =
    let m = c.unsigned_abs-then-number-lt0 in
    let n = c.put_ended-then-number-lt0 in
    let k : 1 + n.result ≤ length c.args.out.now =
    omega (arith, n.ensures.0, room_before (minus c.args.number c.ranges.number m.result m.ensures.value c.if-number-lt0.true c.args.out.now c.requires)) in
    search rules

pub returns-then-number-lt0 : goal.returns-then-number-lt0
returns-then-number-lt0 c =
    let m = c.unsigned_abs-then-number-lt0 in
    let n = c.put_ended-then-number-lt0 in
    let r = last (minus c.args.number c.ranges.number m.result m.ensures.value c.if-number-lt0.true c.args.out.now c.requires) _ _ n.ensures.0 n.ensures.1 in
    retold _ _ _ _ _ (below c.args.number c.ranges.number m.result m.ensures.value c.if-number-lt0.true) (r.0, r.1)

pub put_ended-requires-2 : goal.put_ended-requires-2
put_ended-requires-2 c = omega (arith, ap length (none c.args.number c.ranges.number c.if-number-gt0.false c.if-number-lt0.false))

pub returns : goal.returns
returns c = retold _ _ _ _ _ (none c.args.number c.ranges.number c.if-number-gt0.false c.if-number-lt0.false) c.put_ended-2.ensures
