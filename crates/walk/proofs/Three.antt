-- The steps of a walk over three places, with widths u, v, w and offsets i, j, k. Assumes nothing.
use mathlib.Core.Path.{◌≡◌, refl, ap, ◌∙◌, subst}
use mathlib.Core.List.{List, [], ◌∷◌}
use Prim.Native.Nat.{ℕ, suc, min, ◌+◌, ◌-◌, ◌≤◌, ◌<◌}
use native.Mathlib.Omega.{arith}
use Rattle.laws.specs.Offsets.{offsets, later, lowest, offsets_none, start, deeper, up, stop}

-- the last two places hold r
abbrev pair : ℕ → ℕ → List ℕ
pair w r = (r - w) ∷ (r - (r - w)) ∷ []

lowest-pair : (v w r : ℕ) → lowest (v ∷ w ∷ []) r ≡ pair w r
unfolding lowest
lowest-pair v w r =
    let e : r - (w + 0) ≡ r - w = omega arith in
    let f : min r (w + 0) - 0 ≡ r - (r - w) = omega arith in
    cc

module _ (u v w t : ℕ) where
  pub start_none : u + (v + w) < t → offsets (u ∷ v ∷ w ∷ []) t ≡ []
  start_none h = offsets_none (u ∷ v ∷ w ∷ []) t (omega arith)

  pub start-three : t ≤ u + (v + w)
      → offsets (u ∷ v ∷ w ∷ []) t ≡ ((t - (v + w)) ∷ pair w (t - (t - (v + w)))) ∷ later (u ∷ v ∷ w ∷ []) ((t - (v + w)) ∷ pair w (t - (t - (v + w))))
  unfolding lowest
  start-three h =
      let e : t - (v + (w + 0)) ≡ t - (v + w) = omega arith in
      let f : min t (v + (w + 0)) ≡ t - (t - (v + w)) = omega arith in
      subst (λ (x : List ℕ). offsets (u ∷ v ∷ w ∷ []) t ≡ x ∷ later (u ∷ v ∷ w ∷ []) x)
      (ap (λ n. n ∷ lowest (v ∷ w ∷ []) (min t (v + (w + 0)))) e ∙ ap (λ n. (t - (v + w)) ∷ n) (ap (lowest (v ∷ w ∷ [])) f ∙ lowest-pair v w (t - (t - (v + w)))))
      (start (u ∷ v ∷ w ∷ []) t (omega arith))

module _ (u v w i j k : ℕ) where
  abbrev Steps : List ℕ → Type 0
  Steps x = later (u ∷ v ∷ w ∷ []) (i ∷ j ∷ k ∷ []) ≡ x ∷ later (u ∷ v ∷ w ∷ []) x

  last-stops : later (w ∷ []) (k ∷ []) ≡ []
  unfolding later
  last-stops = stop w k [] [] refl (omega arith)

  pair-stops : min (v - j) k ≡ 0 → later (v ∷ w ∷ []) (j ∷ k ∷ []) ≡ []
  pair-stops h = stop v j (w ∷ []) (k ∷ []) last-stops (omega arith)

  pub step_second : 0 < min (v - j) k → k ≤ w → Steps (i ∷ (j + 1) ∷ (k - 1) ∷ [])
  unfolding lowest
  step_second h l =
      let e : suc j ≡ j + 1 = omega arith in
      let f : (k + 0 - 1) - 0 ≡ k - 1 = omega arith in
      let q : suc j ∷ ((k + 0 - 1) - 0) ∷ [] ≡ (j + 1) ∷ (k - 1) ∷ [] = cc in
      deeper u i (v ∷ w ∷ []) (j ∷ k ∷ []) ((j + 1) ∷ (k - 1) ∷ [])
      (subst (λ (x : List ℕ). later (v ∷ w ∷ []) (j ∷ k ∷ []) ≡ x ∷ later (v ∷ w ∷ []) x) q (up v j (w ∷ []) (k ∷ []) last-stops (omega arith) (omega arith))) (omega arith)

  raised : min (v - j) k ≡ 0 → 0 < min (u - i) (j + k) → j ≤ v → k ≤ w → Steps (suc i ∷ lowest (v ∷ w ∷ []) (j + (k + 0) - 1))
  raised n h l m = up u i (v ∷ w ∷ []) (j ∷ k ∷ []) (pair-stops n) (omega (arith, h)) (omega (arith, l, m))

  pub step-first : min (v - j) k ≡ 0 → 0 < min (u - i) (j + k) → j ≤ v → k ≤ w → Steps ((i + 1) ∷ pair w (j + k - 1))
  step-first n h l m =
      let e : suc i ≡ i + 1 = omega arith in
      let f : j + (k + 0) - 1 ≡ j + k - 1 = omega arith in
      subst Steps (ap (λ z. z ∷ lowest (v ∷ w ∷ []) (j + (k + 0) - 1)) e ∙ ap (λ z. (i + 1) ∷ z) (ap (lowest (v ∷ w ∷ [])) f ∙ lowest-pair v w (j + k - 1))) (raised n h l m)

  pub step_none : min (v - j) k ≡ 0 → min (u - i) (j + k) ≡ 0 → later (u ∷ v ∷ w ∷ []) (i ∷ j ∷ k ∷ []) ≡ []
  step_none n h = stop u i (v ∷ w ∷ []) (j ∷ k ∷ []) (pair-stops n) (omega arith)
