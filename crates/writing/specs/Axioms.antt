-- The numbers of a variable's axioms: its order variables are numbered one after another. Assumes nothing.
use Rattle.std.specs.Prelude.{◌≡◌, length, ℤ, ◌+ℤ◌, ◌-ℤ◌, ◌≤ℤ◌}
use Rattle.std.proofs.Math.Path.{refl, ap, ap₂}
use Rattle.std.proofs.Common.{◌∙◌, add-zero}
use mathlib.Core.List.{List, [], ◌∷◌, map, flatten}
use Prim.Native.Nat.{ℕ, zero, suc, ◌+◌, ◌-◌, ◌*◌, ◌<◌}
use Rattle.std.proofs.Math.Numerals.{add-one}
use native.Mathlib.Omega.{arith}
use Rattle.std.proofs.Math.IntN.{pos, suc_ℤ}
use Rattle.definitions.specs.Tools.{neg, size, up_from, range}
use Rattle.definitions.specs.Board.{Board, bounds_of}
use Rattle.definitions.specs.Encoding.{SatClause, order, plus, minus, axioms_of, width, first, number, literal_number}
use Rattle.laws.specs.Whole.{whole, add_law, suc_law}
use Rattle.laws.specs.Layout.{width-range}
use Rattle.laws.specs.Axioms.{before-value, at_value, lowest-number, highest_number}
use Rattle.writing.specs.Numbers.{numbers_of}

-- n steps, from the order variable numbered i on: not this one, or the next
unfoldable pub steps_from : ℕ → ℕ → List ℤ
steps_from i zero = []
steps_from i (suc n) = neg i ∷ pos (suc i) ∷ pos 0 ∷ steps_from (suc i) n

-- not the first, the last, and the steps between them
unfoldable pub axiom_numbers : ℕ → ℕ → List ℤ
axiom_numbers i w = neg i ∷ pos 0 ∷ pos (i + (w - 1)) ∷ pos 0 ∷ steps_from i (w - 1)

pub steps_length : (i n : ℕ) → length (steps_from i n) ≡ 3 * n
unfolding steps_from
steps_length i zero = refl
steps_length i (suc n) = omega (arith, steps_length (suc i) n)

pub steps_more : (i n : ℕ) → 0 < n → steps_from i n ≡ neg i ∷ pos (i + 1) ∷ pos 0 ∷ steps_from (i + 1) (n - 1)
unfolding steps_from
steps_more i n h = let e : n ≡ suc (n - 1) = omega arith in rw add-one (ap (steps_from i) e)

pub steps_none : (i n : ℕ) → n ≡ 0 → steps_from i n ≡ []
unfolding steps_from
steps_none i n e = ap (steps_from i) e

pub axioms-length : (i w : ℕ) → length (axiom_numbers i w) ≡ 4 + 3 * (w - 1)
unfolding axiom_numbers
axioms-length i w = omega (arith, steps_length i (w - 1))

-- ---- they are the definition's
module _ (B : Board) (x : ℕ) where
  abbrev lo : ℤ
  lo = (bounds_of B x).lo

  step : ℤ → SatClause
  step c = minus (order x (c -ℤ pos 1)) ∷ plus (order x c) ∷ []

  steps_are : (n i : ℕ) (c : ℤ) → c ≡ lo +ℤ pos i → numbers_of B (map step (up_from c n)) ≡ steps_from (first B x + i) n
  unfolding numbers_of steps_from flatten literal_number step
  steps_are zero i c e = refl
  steps_are (suc n) i c e =
      let e' : suc_ℤ c ≡ lo +ℤ pos (suc i) = omega (whole, suc_law c, add_law lo (pos i), add_law lo (pos (suc i))) in
      let f : first B x + suc i ≡ suc (first B x + i) = omega arith in
      rw (before-value B x c i e, at_value B x c i e, add-one, steps_are n (suc i) (suc_ℤ c) e', f)

  pub axioms_are : lo ≤ℤ (bounds_of B x).hi → numbers_of B (axioms_of (bounds_of B) x) ≡ axiom_numbers (first B x) (width (bounds_of B x))
  unfolding numbers_of axioms_of axiom_numbers flatten literal_number step
  axioms_are h =
      let hi = (bounds_of B x).hi in
      let w = width (bounds_of B x) in
      let n : size (suc_ℤ hi -ℤ lo) ≡ w - 1 = omega (arith, width-range (bounds_of B x) h) in
      let b : lo ≡ lo +ℤ pos 0 = omega (whole, add_law lo (pos 0)) in
      let top : number B (order x hi) ≡ first B x + (w - 1) = omega (arith, highest_number B x h, width-range (bounds_of B x) h) in
      ap₂ (λ i j. neg i ∷ pos 0 ∷ pos j ∷ pos 0 ∷ numbers_of B (map step (range lo hi))) (lowest-number B x) top
      ∙ ap (λ z. neg (first B x) ∷ pos 0 ∷ pos (first B x + (w - 1)) ∷ pos 0 ∷ z)
      (ap (λ k. numbers_of B (map step (up_from lo k))) n ∙ steps_are (w - 1) 0 lo b ∙ ap (λ k. steps_from k (w - 1)) (add-zero (first B x)))
