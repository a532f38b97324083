-- Steps from cursor to cursor up to the next piece. Assumes nothing.
use Rattle.std.proofs.Common.{◌≡◌, refl, ◌∙◌, List, ℕ, ◌≤◌, ◌<◌, arith, Some, None}
use Rattle.definitions.specs.Reading.{Context}
use Rattle.rules.specs.declared.Cursor.{Cursor}
use Rattle.rules.specs.declared.Piece.{Piece}
use Rattle.rules.specs.declared.Stepped.{Stepped}
use Rattle.rules.specs.Cursors.{coming_at, Sound, Meets, Passes, Went, Came, todo}

-- between the cursors c and c' there is no piece
pub record Onto (ctx : Context) (t : List ℕ) (c c' : Cursor) : Type 0 where
  pub sound : Sound ctx t c'
  pub same : coming_at t c ≡ coming_at t c'
  pub most : todo c' ≤ todo c

pub onto_start : {ctx : Context} {t : List ℕ} {c : Cursor} → Sound ctx t c → Onto ctx t c c
onto_start s = record { sound = s; same = refl; most = omega arith }

-- what a step from c' tells
module _ {ctx : Context} {t : List ℕ} {c c' : Cursor} (h : Onto ctx t c c') {r : Stepped} (w : Went ctx t c' r) where
  pub onto_met : {p : Piece} {d : Cursor} → r ≡ Stepped.Met p d → Came ctx t c (Some (p, d))
  unfolding Went Came
  onto_met {p} {d} e =
      let k : Meets ctx t c' p d = rw e at w in
      record { comes = h.same ∙ k.comes; held = k.held; onward = record { sound = k.onward.sound; less = omega (arith, k.onward.less, h.most) }; few = k.few }

  pub onto_passed : {d : Cursor} → r ≡ Stepped.Passed d → Onto ctx t c d × (todo d < todo c')
  unfolding Went
  onto_passed {d} e =
      let k : Passes ctx t c' d = rw e at w in
      (record { sound = k.onward.sound; same = h.same ∙ k.same; most = omega (arith, k.onward.less, h.most) }, k.onward.less)

  pub onto_end : r ≡ Stepped.End → Came ctx t c None
  unfolding Went Came
  onto_end e = h.same ∙ (rw e at w)
