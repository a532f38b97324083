-- What is read back, by the numbers of the order variables. Assumes nothing.
use Rattle.std.specs.Prelude.{◌≡◌, Bool, true, false, List, map, ℕ, ◌+◌, ◌-◌, ◌≤◌, ◌<◌, length, get_or, ℤ, ◌+ℤ◌, ◌-ℤ◌, ◌≤ℤ◌, if◌then◌else◌}
use Rattle.std.proofs.Common.{sym, ◌∙◌, zero-add, arith}
use Rattle.std.proofs.Math.Path.{ap}
use Rattle.std.proofs.Math.ListN.{length-map}
use Rattle.std.proofs.Math.IntN.{pos, suc_ℤ}
use Rattle.definitions.specs.Tools.{count_up, size}
use Rattle.definitions.specs.Board.{Board, Bounds, bounds_of, variables}
use Rattle.definitions.specs.Encoding.{width, first, number}
use Rattle.definitions.specs.Meaning.{on, in_model, least_true, value_of, values_of}
use Rattle.laws.specs.Whole.{whole, add_law, sub_law, part_law}
use Rattle.laws.specs.Layout.{width-range}
use Rattle.laws.specs.Ranges.{range-shift}
use Rattle.laws.specs.Lists.{length-count_up, count_up-first, count_up_none, counted-at}
use Rattle.laws.specs.Admitted.{GoodBounds}

-- the value at the first of the n offsets from k on whose order variable is true
unfoldable pub value_after : List ℕ → ℕ → Bounds → ℕ → ℤ
value_after model first b k = least_true (λ c. on model (first + size (c -ℤ b.lo +ℤ pos 1))) b.hi (map (λ i. b.lo +ℤ pos i) (count_up k (width b - 1 - k)))

abbrev pub value_from : List ℕ → ℕ → Bounds → ℤ
value_from model first b = value_after model first b 0

module _ (model : List ℕ) (f : ℕ) (b : Bounds) where
  abbrev test : ℤ → Bool
  test c = on model (f + size (c -ℤ b.lo +ℤ pos 1))

  tested : (k : ℕ) → test (b.lo +ℤ pos k) ≡ on model (f + 1 + k)
  tested k =
      let c = b.lo +ℤ pos k in
      let e : size (c -ℤ b.lo +ℤ pos 1) ≡ k + 1 = omega (whole, add_law (c -ℤ b.lo) (pos 1), sub_law c b.lo, add_law b.lo (pos k), part_law (c -ℤ b.lo +ℤ pos 1)) in
      let e' : f + (k + 1) ≡ f + 1 + k = omega arith in
      ap (λ n. on model (f + n)) e ∙ ap (on model) e'

  next : (k : ℕ) → k + 2 ≤ width b
      → value_after model f b k ≡ (if on model (f + 1 + k) then b.lo +ℤ pos k else value_after model f b (k + 1))
  unfolding value_after least_true
  next k h =
      ap (λ l. least_true test b.hi (map (λ i. b.lo +ℤ pos i) l)) (count_up-first k (width b - 1) (omega arith))
      ∙ ap (λ t. if t then b.lo +ℤ pos k else value_after model f b (k + 1)) (tested k)

  pub value_hit : (k : ℕ) → k + 2 ≤ width b → on model (f + 1 + k) ≡ true → value_after model f b k ≡ b.lo +ℤ pos k
  value_hit k h e = rw e at (next k h)

  pub value_miss : (k : ℕ) → k + 2 ≤ width b → on model (f + 1 + k) ≡ false → value_after model f b k ≡ value_after model f b (k + 1)
  value_miss k h e = rw e at (next k h)

  pub value-last : (k : ℕ) → GoodBounds b → k + 2 ≡ width b → value_after model f b k ≡ b.hi
  unfolding value_after least_true width
  value-last k g h = next k (omega arith) ∙ go (on model (f + 1 + k))
    where
      top : b.lo +ℤ pos k ≡ b.hi
      top = omega (whole, g.ordered, add_law b.lo (pos k), add_law (b.hi -ℤ b.lo) (pos 2), sub_law b.hi b.lo, part_law (b.hi -ℤ b.lo +ℤ pos 2))

      none : value_after model f b (k + 1) ≡ b.hi
      none = ap (λ l. least_true test b.hi (map (λ i. b.lo +ℤ pos i) l)) (count_up_none (k + 1) (width b - 1) (omega arith))

      go : (t : Bool) → (if t then b.lo +ℤ pos k else value_after model f b (k + 1)) ≡ b.hi
      go true = top
      go false = none

-- ---- of the board
module _ (B : Board) (model : List ℕ) where
  pub value_is : (x : ℕ) → (bounds_of B x).lo ≤ℤ (bounds_of B x).hi → value_from model (first B x) (bounds_of B x) ≡ value_of B model x
  unfolding value_after value_of in_model number
  value_is x h =
      let l = (bounds_of B x).lo in
      let u = (bounds_of B x).hi in
      let e : width (bounds_of B x) - 1 - 0 ≡ size (suc_ℤ u -ℤ l) = omega (arith, width-range (bounds_of B x) h) in
      ap (λ n. least_true (λ c. on model (first B x + size (c -ℤ l +ℤ pos 1))) u (map (λ i. l +ℤ pos i) (count_up 0 n))) e
      ∙ ap (least_true (λ c. on model (first B x + size (c -ℤ l +ℤ pos 1))) u) (sym (range-shift l u))

  pub values_length : length (values_of B model) ≡ length B.bounds
  unfolding values_of variables
  values_length = length-map (count_up 0 (length B.bounds)) (value_of B model) ∙ length-count_up 0 (length B.bounds)

  pub values_at : (x : ℕ) (d : ℤ) → x < length B.bounds → get_or (values_of B model) x d ≡ value_of B model x
  unfolding values_of variables
  values_at x d h = counted-at (value_of B model) d 0 (length B.bounds) x h ∙ ap (value_of B model) (zero-add x)
