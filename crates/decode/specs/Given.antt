-- What the passes are given: an accepted record, and a model of the right length. Assumes nothing.
use Rattle.std.specs.Prelude.{◌≡◌, List, ℕ, ◌+◌, ◌≤◌, ◌<◌, length, ◌≤ℤ◌}
use Rattle.std.proofs.Common.{ap, arith}
use Rattle.definitions.specs.Board.{bounds_of}
use Rattle.definitions.specs.Encoding.{N, first, width}
use Rattle.laws.specs.Terms.{good_bounds}
use Rattle.laws.specs.Boards.{Opens, board_of, opens_admitted}
use Rattle.laws.specs.Fits.{N_fits, width-least}
use Rattle.laws.specs.Layout.{orders-range}
use Rattle.laws.specs.Admitted.{Admitted}
use Rattle.slots.specs.declared.Bounds.{Bounds}
use Rattle.slots.specs.Variables.{BoundsOf, bounds_read, bounds_same}

pub record Given (s model : List ℕ) : Type 0 where
  pub opens : Opens s
  pub long : length model ≡ N (board_of s)

module _ {s model : List ℕ} (g : Given s model) where
  pub admitted : Admitted (board_of s)
  admitted = opens_admitted s g.opens

  pub counts_small : (length (board_of s).bounds ≤ 1024) × ((board_of s).bools ≤ 4096)
  counts_small = omega (arith, admitted.ints, admitted.bools)

  pub short : length model < 2147483648
  short = omega (arith, g.long, N_fits (board_of s) admitted)

  pub bools_within : (board_of s).bools ≤ length model
  unfolding N
  bools_within = omega (arith, g.long)

  -- the variable x, whose bounds were read: its order variables are within the model
  module _ (x : ℕ) (l : x < length (board_of s).bounds) {b : Bounds} (e : BoundsOf (board_of s) x b) where
    pub ordered : (bounds_of (board_of s) x).lo ≤ℤ (bounds_of (board_of s) x).hi
    ordered = (good_bounds (board_of s) admitted.bounds x l).ordered

    pub within : (1 ≤ first (board_of s) x) × (first (board_of s) x + width (bounds_read b) ≤ length model + 1) × (2 ≤ width (bounds_read b))
    within =
        let r = orders-range (board_of s) x l in
        let w = ap width (bounds_same (board_of s) x b e) in
        (r.0, omega (arith, r.1, w, g.long), width-least (bounds_read b) e.good)
