-- The first literal alone.
use Rattle.std.proofs.Common.{◌∙◌, sym, ap, ◌∷◌, [], arith, rules, to_z-of_z}
use Rattle.std.specs.Int.{w32}
use Rattle.walk.specs.Comparisons.{present, present-length}
use Rattle.walk.proofs.Runs.{first_taken}
use Rattle.walk.proofs.rows.front_at.Goals as goal

pub returns : goal.returns
returns c =
    ap (λ l. l ∷ []) (to_z-of_z {w = w32} (search rules) ∙ c.tuple_literal.ensures)
    ∙ sym (first_taken (present c.args.c c.args.w) c.args.some (omega arith) (omega (arith, present-length c.args.c c.args.w c.requires.0)))
