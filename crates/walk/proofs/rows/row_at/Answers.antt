-- One clause, or a run from the literals of the last two terms.
use Rattle.std.proofs.Common.{◌∙◌, sym, ap, ap₂, ◌∷◌, [], ◌≤◌, arith}
use Rattle.std.proofs.Math.Seq.{take_all}
use Rattle.laws.specs.Limits.{numbers_limit}
use Rattle.walk.specs.Comparisons.{present, present-length, walking_fine}
use Rattle.walk.specs.Rows.{row_length, in_run, row_from}
use Rattle.walk.proofs.Runs.{placed_b, placed_c, row-single, row-literals, spot_ready}
use Rattle.walk.proofs.rows.row_at.Goals as goal

pub returns-then-n-lt2 : goal.returns-then-n-lt2
returns-then-n-lt2 c =
    let a = c.args in (
      tt,
      ap (λ l. l ∷ []) (c.front_at.ensures ∙ take_all a.c.n (present a.c a.w) (omega (arith, present-length a.c a.w c.requires.0)))
          ∙ sym (row-single a.c c.requires.0 a.w c.requires.1 c.if-n-lt2.true),
    )

pub spot_at-requires : goal.spot_at-requires
spot_at-requires c = placed_b c.args.c c.requires.0 (omega arith) c.args.w c.requires.1

pub spot_at-requires-2 : goal.spot_at-requires-2
spot_at-requires-2 c = placed_c c.args.c c.requires.0 (omega arith) c.args.w c.requires.1

pub row_length-requires : goal.row_length-requires
row_length-requires c = walking_fine c.args.c c.args.w c.requires.1

pub returns : goal.returns
unfolding in_run
returns c =
    let a = c.args in
    let y = c.spot_at in
    let z = c.spot_at-2 in
    let two : 2 ≤ a.c.n = omega arith in
    let fine = walking_fine a.c a.w c.requires.1 in
    let few : row_length a.w ≤ numbers_limit = omega (arith, fine.1.0.narrow) in (
      rw c.row_length.ensures (record {
        rising = spot_ready _ _ (placed_b a.c c.requires.0 two a.w c.requires.1) y.result y.ensures _ few;
        falling = spot_ready _ _ (placed_c a.c c.requires.0 two a.w c.requires.1) z.result z.ensures _ few;
      }),
      ap₂ (λ f k. row_from f y.result z.result k) c.front_at-2.ensures c.row_length.ensures
          ∙ sym (row-literals a.c c.requires.0 two a.w c.requires.1 y.result z.result y.ensures z.ensures),
    )
