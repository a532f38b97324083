-- From the answer of `measure` to that of `compile`. Assumes nothing.
use mathlib.Core.Path.{◌≡◌, refl, sym, ap, ◌∙◌}
use mathlib.Core.List.{List, ◌++◌}
use Prim.Native.Nat.{ℕ, ◌≤◌, ◌<◌}
use native.Mathlib.Omega.{arith}
use lib.ListN.{length, drop}
use lib.IntN.{ℤ}
use borrow.Author.Tests.{lt-leb, le-leb}
use Rattle.definitions.specs.Encoding.{clause_list, K}
use Rattle.definitions.specs.Result.{done, refused}
use Rattle.definitions.specs.Operations.{accepted, sizes_of, compile_outcome}
use Rattle.laws.specs.Boards.{board_of}
use Rattle.laws.specs.Sizes.{K_is}
use Rattle.laws.specs.Written.{written}
use Rattle.opening.specs.Said.{map_done}
use Rattle.definitions.specs.declared.Sizes.{Sizes}
use Rattle.measure.specs.declared.Measured.{Measured}
use Rattle.measure.specs.Said.{measured_of}
use Rattle.measure.specs.Told.{Measures, measured, not_measured}

module _ (s : List ℕ) (list : List ℤ) where
  module _ (m : Measured) (e : map_done measured_of (accepted s) ≡ done m) where
    abbrev t : Sizes
    t = m.sizes

    measures : Measures s m
    measures = measured s e

    pub too_short : length list < t.k → (refused 10 t.k ≡ (compile_outcome s list).answer) × (list ≡ (compile_outcome s list).left)
    unfolding compile_outcome
    too_short l =
        let k : length list < K (board_of s) = omega (arith, ap (λ z. z.k) measures.totals) in
        rw (measures.board, lt-leb (K (board_of s)) (length list) k, measures.totals) (refl, refl)

    pub compiled : t.k ≤ length list → (n : ℕ) (out : List ℤ) → n ≡ length (clause_list (board_of s)) → out ≡ written (clause_list (board_of s)) list
        → (done (record { n = t.n; m = t.m; k = n }) ≡ (compile_outcome s list).answer) × (out ≡ (compile_outcome s list).left)
    unfolding compile_outcome sizes_of written
    compiled l n out en ey =
        let k : K (board_of s) ≤ length list = omega (arith, ap (λ z. z.k) measures.totals) in
        rw (measures.board, le-leb (K (board_of s)) (length list) k, measures.totals, en, ← K_is (board_of s)) (refl, ey ∙ ap (λ n. clause_list (board_of s) ++ drop n list) (sym (K_is (board_of s))))

  pub unmeasured : (n d : ℕ) → map_done measured_of (accepted s) ≡ refused n d → (refused n d ≡ (compile_outcome s list).answer) × (list ≡ (compile_outcome s list).left)
  unfolding compile_outcome
  unmeasured n d e = rw (not_measured s e) (refl, refl)
