-- The axioms by the numbers of their order variables, which rise one by one. Assumes nothing.
use Rattle.std.specs.Prelude.{◌≡◌, refl, Bool, true, false, ◌||◌, length, ℤ, ◌+ℤ◌, ◌-ℤ◌, ◌≤ℤ◌, Err}
use Rattle.std.proofs.Math.Path.{sym, ap, ap₂}
use Rattle.std.proofs.Common.{◌∙◌}
use Rattle.std.proofs.Math.Bool.{not, or-false}
use mathlib.Core.List.{List, [], ◌∷◌, ◌++◌, map, flatten, map-map, map-append}
use Prim.Native.Nat.{ℕ, zero, suc, ◌+◌, ◌-◌, ◌^◌, ◌≤◌, ◌<◌}
use native.Mathlib.Omega.{arith}
use Rattle.std.proofs.Math.ListN.{length-map}
use Rattle.std.proofs.Math.IntN.{pos, suc_ℤ}
use Rattle.definitions.specs.Tools.{count_up, size, range}
use Rattle.definitions.specs.Board.{Board, bounds_of}
use Rattle.definitions.specs.Encoding.{SatClause, order, plus, minus, axioms_of, axioms, width, first, number, M}
use Rattle.definitions.specs.Meaning.{on, satisfies, in_model}
use Rattle.laws.specs.Lists.{map_same, all_every, count_up-shift, count_up-first, count_up_none, length-flatten}
use Rattle.laws.specs.Reread.{Recorded}
use Rattle.laws.specs.Fits.{M_fits}
use Rattle.laws.specs.Axioms.{axioms_from, axioms-more, before-value, at_value, lowest-number, highest_number}
use Rattle.laws.specs.Layout.{width-range}
use Rattle.laws.specs.Ranges.{range-shift}
use Rattle.decode.specs.Truth.{true_clause, tests}
use Rattle.decode.specs.Goes.{Sought, Goes, goes_one, goes_stop}

module _ (model : List ℕ) where
  -- the order variable v is not true, or the next one is
  unfoldable pub rises : ℕ → Bool
  rises v = not (on model v) || on model (v + 1)

  pub rises-on : (v : ℕ) → on model v ≡ true → rises v ≡ on model (v + 1)
  unfolding rises
  rises-on v h = rw h

  pub rises_off : (v : ℕ) → on model v ≡ false → rises v ≡ true
  unfolding rises
  rises_off v h = rw h

  -- ---- of a variable with so many order variables from `first` on
  module _ (first width : ℕ) where
    -- its axiom k, from 0: the first is not true; the last is; the others rise
    unfoldable pub axiom_test : ℕ → Bool
    axiom_test zero = not (on model first)
    axiom_test (suc zero) = on model (first + width - 1)
    axiom_test (suc (suc k)) = rises (first + k)

    pub axiom_rises : (k : ℕ) → 2 ≤ k → axiom_test k ≡ rises (first + k - 2)
    unfolding axiom_test
    axiom_rises zero h = absurd (omega arith)
    axiom_rises (suc zero) h = absurd (omega arith)
    axiom_rises (suc (suc k)) h = ap rises (omega arith)

    -- those from k on
    unfoldable pub axiom_tests : ℕ → List Bool
    axiom_tests k = map axiom_test (count_up k (width + 1 - k))

    -- a search through them, and then through others
    module _ {all : List Bool} {n : ℕ} (k : ℕ) (others : List Bool) (g : Goes 0 all n (axiom_tests k ++ others)) where
      axiom_first : k ≤ width → axiom_tests k ++ others ≡ axiom_test k ∷ axiom_tests (k + 1) ++ others
      unfolding axiom_tests
      axiom_first l = ap (λ ks. map axiom_test ks ++ others) (count_up-first k (width + 1) (omega arith))

      pub axiom_holds : k ≤ width → axiom_test k ≡ true → Goes 0 all (n + 1) (axiom_tests (k + 1) ++ others)
      axiom_holds l = goes_one g (axiom_test k) _ (axiom_first l)

      pub axiom_fails : k ≤ width → axiom_test k ≡ false → Sought 0 all (Err n)
      axiom_fails l = goes_stop g (axiom_test k) _ (axiom_first l)

      -- one of them is left, so its number is one of all
      pub axiom_room : k ≤ width → n < length all
      axiom_room l = omega (arith, g.count, ap length (axiom_first l))

      pub axioms-over : width < k → Goes 0 all n others
      unfolding axiom_tests
      axioms-over l = rw (ap (map axiom_test) (count_up_none k (width + 1) (omega arith))) at g

module _ (B : Board) (model : List ℕ) (x : ℕ) (h : (bounds_of B x).lo ≤ℤ (bounds_of B x).hi) where
  abbrev lo : ℤ
  lo = (bounds_of B x).lo

  abbrev hi : ℤ
  hi = (bounds_of B x).hi

  abbrev step : ℤ → SatClause
  step c = minus (order x (c -ℤ pos 1)) ∷ plus (order x c) ∷ []

  step-test : (k : ℕ) → true_clause B model (step (lo +ℤ pos k)) ≡ rises model (first B x + k)
  unfolding satisfies in_model rises
  step-test k = ap₂ (λ v w. not (on model v) || (on model w || false)) (before-value B x (lo +ℤ pos k) k refl) (at_value B x (lo +ℤ pos k) k refl) ∙ ap (λ b. not (on model (first B x + k)) || b) (or-false _)

  axioms-tests : tests B model (axioms_of (bounds_of B) x) ≡ axiom_tests model (first B x) (width (bounds_of B x)) 0
  unfolding axioms_of axiom_tests axiom_test satisfies in_model
  axioms-tests =
      let n = size (suc_ℤ hi -ℤ lo) in
      let f = first B x in
      let w = width (bounds_of B x) in
      let highest : number B (order x hi) ≡ f + w - 1 = omega (arith, highest_number B x h) in
      let many : suc (suc n) ≡ w + 1 - 0 = omega (arith, width-range (bounds_of B x) h) in
      let later : (k : ℕ) → axiom_test model f w (2 + k) ≡ rises model (f + k) = λ k. (let e : 2 + k ≡ suc (suc k) = omega arith in ap (axiom_test model f w) e) in
      ap₂ ◌∷◌ (or-false _ ∙ ap (λ v. not (on model v)) (lowest-number B x))
      (ap₂ ◌∷◌ (or-false _ ∙ ap (on model) highest)
      (map-map (true_clause B model) step (range lo hi)
      ∙ ap (map (λ c. true_clause B model (step c))) (range-shift lo hi)
      ∙ map-map (λ c. true_clause B model (step c)) (λ k. lo +ℤ pos k) (count_up 0 n)
      ∙ map_same (λ k. true_clause B model (step (lo +ℤ pos k))) (λ k. rises model (f + k)) (count_up 0 n) (all_every _ step-test (count_up 0 n))
      ∙ sym (map_same (λ k. axiom_test model f w (2 + k)) (λ k. rises model (f + k)) (count_up 0 n) (all_every _ later (count_up 0 n)))
      ∙ sym (map-map (axiom_test model f w) (λ k. 2 + k) (count_up 0 n))
      ∙ ap (map (axiom_test model f w)) (count_up-shift 2 0 n)))
      ∙ ap (λ m. map (axiom_test model f w) (count_up 0 m)) many

-- ---- variable by variable
module _ (B : Board) (model : List ℕ) where
  pub axioms-first : (x : ℕ) → x < length B.bounds → (bounds_of B x).lo ≤ℤ (bounds_of B x).hi
      → tests B model (axioms_from B x) ≡ axiom_tests model (first B x) (width (bounds_of B x)) 0 ++ tests B model (axioms_from B (x + 1))
  axioms-first x h o =
      ap (tests B model) (axioms-more B x h)
      ∙ map-append (true_clause B model) (axioms_of (bounds_of B) x) (axioms_from B (x + 1))
      ∙ ap (λ l. l ++ tests B model (axioms_from B (x + 1))) (axioms-tests B model x o)

  pub axioms_fit : Recorded B → length (tests B model (flatten (axioms B))) < 2 ^ 63
  unfolding M
  axioms_fit g = omega (arith, length-map (flatten (axioms B)) (true_clause B model), length-flatten (axioms B), M_fits B g)
