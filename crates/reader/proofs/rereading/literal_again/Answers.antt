-- The kind tells what follows: a Boolean, its negation, a comparison.
use Rattle.std.proofs.Common.{◌≡◌, ℕ, ◌+◌, ◌*◌, ◌≤◌, List, length, sym, ap, ◌∙◌, arith}
use mir.Facts.{to_z-of_z}
use Rattle.definitions.specs.Board.{is_true, is_false}
use Rattle.definitions.specs.Reading.{big}
use Rattle.laws.specs.Again.{There, said_by, literal_said}
use Rattle.reader.proofs.rereading.literal_again.Goals as goal
use Rattle.reader.proofs.rereading.literal_again.Goals.{In_default}

-- where the kind is k, what is said stays within the bytes
end_inside : (t : List ℕ) (at : ℕ) {k : ℕ} → There t at → big t at 1 ≡ k → (said_by t at k).next ≤ length t
end_inside t at h e = omega (arith, h.room, ap (λ g. g.next) (literal_said t at e))

-- neither 0 nor 1: a comparison
module _ (c : In_default) where
  compared : big c.args.rules.now c.args.at 1 ≡ 2
  compared = omega (arith, c.unchecked.ensures, c.requires.known)

  room : c.args.at + 6 + 3 * big c.args.rules.now (c.args.at + 1) 1 ≤ length c.args.rules.now
  room = end_inside c.args.rules.now c.args.at c.requires compared

pub unchecked-requires-in-0 : goal.unchecked-requires-in-0
unchecked-requires-in-0 c =
    (omega arith, omega (arith, end_inside c.args.rules.now c.args.at c.requires (sym c.unchecked.ensures ∙ c.in-0.is)))

pub returns-in-0 : goal.returns-in-0
returns-in-0 c =
    let e = literal_said c.args.rules.now c.args.at (sym c.unchecked.ensures ∙ c.in-0.is) in
    record { literal = ap is_true c.unchecked-in-0.ensures ∙ sym (ap (λ g. g.value) e); next = sym (ap (λ g. g.next) e); terms = tt }

pub unchecked-requires-in-1 : goal.unchecked-requires-in-1
unchecked-requires-in-1 c =
    (omega arith, omega (arith, end_inside c.args.rules.now c.args.at c.requires (sym c.unchecked.ensures ∙ c.in-1.is)))

pub returns-in-1 : goal.returns-in-1
returns-in-1 c =
    let e = literal_said c.args.rules.now c.args.at (sym c.unchecked.ensures ∙ c.in-1.is) in
    record { literal = ap is_false c.unchecked-in-1.ensures ∙ sym (ap (λ g. g.value) e); next = sym (ap (λ g. g.next) e); terms = tt }

pub unchecked-requires-in_default : goal.unchecked-requires-in_default
unchecked-requires-in_default c = (omega arith, omega (arith, room c))

pub unchecked_signed-constant-requires : goal.unchecked_signed-constant-requires
unchecked_signed-constant-requires c =
    let p = (goal.at.unchecked_signed-constant-requires c).In_default in
    (omega arith, omega (arith, c.unchecked-in_default.ensures, room p))

pub returns-in_default : goal.returns-in_default
returns-in_default c =
    let p = (goal.at.returns-in_default c).In_default in
    let n = c.unchecked-in_default.ensures in
    let h = literal_said c.args.rules.now c.args.at (compared p) in
    record {
      literal = rw (to_z-of_z (record { sfits = c.unchecked_signed-constant.type_inv }), c.unchecked_signed-constant.ensures, n) (sym (ap (λ g. g.value) h));
      next = omega (arith, n, ap (λ g. g.next) h);
      terms = record { few = c.requires.few (compared p); room = omega (arith, room p) };
    }
