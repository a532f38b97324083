-- From the answer of `measure` to the answer of `size`. Assumes nothing.
use mathlib.Core.Path.{◌≡◌}
use mathlib.Core.List.{List}
use Prim.Native.Nat.{ℕ}
use Rattle.definitions.specs.Result.{done, refused}
use Rattle.definitions.specs.Answers.{sizes_said}
use Rattle.definitions.specs.Operations.{accepted, sizes_of, size_outcome}
use Rattle.opening.specs.Said.{map_done}
use Rattle.measure.specs.declared.Measured.{Measured}
use Rattle.measure.specs.Said.{measured_of}
use Rattle.measure.specs.Told.{measured, not_measured}

module _ (s : List ℕ) where
  pub sized : (m : Measured) → map_done measured_of (accepted s) ≡ done m → done (sizes_said m.sizes) ≡ size_outcome s
  unfolding size_outcome sizes_of
  sized m e = let q = measured s e in rw (q.board, q.totals)

  pub unsized : (n d : ℕ) → map_done measured_of (accepted s) ≡ refused n d → refused n d ≡ size_outcome s
  unfolding size_outcome
  unsized n d e = rw (not_measured s e)
