-- The variables of a comparison's first n terms, which begin at a place: the last of them in front, as `read_terms` has them.
use Rattle.std.specs.Prelude.{◌+◌, ◌*◌, ◌∷◌}
use Rattle.definitions.specs.Tools.{ℕ, zero, suc, List, []}
use Rattle.laws.specs.Reread.{term_at}

unfoldable pub seen_at : List ℕ → ℕ → ℕ → List ℕ
seen_at s first zero = []
seen_at s first (suc n) = (term_at s (first + 3 * n)).var ∷ seen_at s first n
