-- From the answer of the opening and the totals to the answer of `measure`. Assumes nothing.
use mathlib.Core.Path.{◌≡◌, sym, ap, ap₂, ◌∙◌}
use mathlib.Core.List.{List}
use Prim.Native.Nat.{ℕ, ◌≤◌, ◌<◌}
use native.Mathlib.Omega.{arith}
use borrow.Author.Tests.{lt-leb}
use Rattle.definitions.specs.Encoding.{K}
use Rattle.definitions.specs.Result.{Result, done, refused}
use Rattle.definitions.specs.Operations.{read_board, accepted}
use Rattle.laws.specs.Reread.{accepted-parts}
use Rattle.laws.specs.Boards.{board_of, opens_is}
use Rattle.opening.specs.declared.Header.{Header}
use Rattle.opening.specs.Said.{map_done, header_of}
use Rattle.opening.specs.Told.{mapped_refused, opened}
use Rattle.definitions.specs.declared.Sizes.{Sizes}
use Rattle.measure.specs.declared.Measured.{Measured}
use Rattle.measure.specs.Said.{totals_of, measured_of}

module _ (s : List ℕ) where
  module _ (h : Header) (e : map_done header_of (read_board s) ≡ done h) (t : Sizes) (q : t ≡ totals_of (board_of s)) where
    pub measured : t.k ≤ 2000000000 → done (record { header = h; sizes = t }) ≡ map_done measured_of (accepted s)
    measured l =
        let f : K (board_of s) ≤ 2000000000 = omega (arith, ap (λ z. z.k) q) in
        ap₂ {C = Result Measured} (λ a b. done (record { header = a; sizes = b })) (opened s e).header q
        ∙ ap (map_done measured_of) (sym ((accepted-parts s (board_of s)).1 (opens_is s (opened s e).opens, f)))

    pub too_long : 2000000000 < t.k → refused 9 0 ≡ map_done measured_of (accepted s)
    unfolding accepted
    too_long l = rw (opens_is s (opened s e).opens, lt-leb (K (board_of s)) 2000000000 (omega (arith, ap (λ z. z.k) q)))

  pub unopened : (n d : ℕ) → map_done header_of (read_board s) ≡ refused n d → refused n d ≡ map_done measured_of (accepted s)
  unfolding accepted
  unopened n d e = rw (mapped_refused header_of (read_board s) e)
