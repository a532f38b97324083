-- Literals by their kind. Assumes nothing.
use mathlib.Core.Path.{◌≡◌, refl}
use mathlib.Core.Bool.{◌&&◌}
use mathlib.Core.List.{List}
use Prim.Native.Nat.{ℕ, zero, suc, ◌≤◌}
use native.Mathlib.Omega.{arith}
use lib.Dec.{leb, eqb, leb-zero}
use Rattle.std.specs.Prelude.{if◌then◌else◌}
use Rattle.definitions.specs.Board.{is_true, is_false, at_most}
use Rattle.definitions.specs.Result.{Result, done, refused}
use Rattle.definitions.specs.Result as result
use Rattle.definitions.specs.Reading.{Got, Context, mapped, unsigned, boolean, read_comparison, of_kind, read_literal}
use Rattle.reader.specs.declared.Why.{Why}
use Rattle.reader.specs.Parts.{number_from}

module _ (ctx : Context) (s : List ℕ) (at : ℕ) where
  pub literal_is : read_literal ctx s at ≡ result.◌>>=◌ (number_from Why.Literal 0 2 1 s at) (λ g. of_kind ctx g.value s g.next)
  unfolding read_literal number_from
  literal_is = go (unsigned 1 s at)
    where
      go : (m : Result (Got ℕ)) → result.◌>>=◌ (result.◌>>=◌ m λ g. if leb g.value 2 then done g else refused 6 at) (λ g. of_kind ctx g.value s g.next)
          ≡ result.◌>>=◌ (result.◌>>=◌ m λ g. if leb 0 g.value && leb g.value 2 then done g else refused 6 at) (λ g. of_kind ctx g.value s g.next)
      go (done g) = rw leb-zero
      go (refused n d) = refl

  pub kind_boolean : (k : ℕ) → k ≤ 1 → of_kind ctx k s at ≡ mapped (λ b. if eqb k 0 then is_true b else is_false b) (boolean ctx) s at
  unfolding of_kind
  kind_boolean zero h = refl
  kind_boolean (suc zero) h = refl
  kind_boolean (suc (suc k)) h = absurd (omega arith)

  pub kind_comparison : (k : ℕ) → 2 ≤ k → of_kind ctx k s at ≡ mapped at_most (read_comparison ctx) s at
  unfolding of_kind
  kind_comparison zero h = absurd (omega arith)
  kind_comparison (suc zero) h = absurd (omega arith)
  kind_comparison (suc (suc k)) h = refl
