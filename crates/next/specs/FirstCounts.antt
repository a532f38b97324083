-- How many tuples are the first of their classes, place by place, and how many are of the greatest offsets alone. Over any number of places. Assumes nothing.
use Rattle.std.specs.Prelude.{◌≡◌, Bool, if◌then◌else◌}
use Rattle.std.proofs.Math.Path.{refl, ap}
use Rattle.std.proofs.Common.{sym, ◌∙◌}
use Rattle.std.proofs.Math.Bool.{true, false}
use mathlib.Core.List.{List, [], ◌∷◌, map}
use Prim.Native.Nat.{ℕ, zero, suc, min, ◌+◌, ◌-◌, ◌≤◌}
use native.Mathlib.Omega.{arith}
use Rattle.std.proofs.Math.ListN.{length, length-map}
use Rattle.definitions.specs.Tools.{count_up, sum}
use Rattle.laws.specs.Offsets.{offsets}
use Rattle.next.specs.Once.{keep}
use Rattle.next.specs.RunSums.{total, length_over, total-same, total-cut, total-plus, sum_kept}
use Rattle.next.specs.Classes.{Place, is_low, is_high, pick}

-- ---- choices of one value from each list with a sum below t
unfoldable pub below : List (List ℕ) → ℕ → ℕ
below [] t = min t 1
below (vs ∷ vss) t = sum (map (λ v. below vss (t - v)) vs)

pub below_none : (vss : List (List ℕ)) → below vss 0 ≡ 0
unfolding below
below_none [] = refl
below_none (vs ∷ vss) = go vs (below_none vss)
  where
    go : (vs : List ℕ) → below vss 0 ≡ 0 → sum (map (λ v. below vss (0 - v)) vs) ≡ 0
    go [] z = refl
    go (v ∷ vs) z = let e : 0 - v ≡ 0 = omega arith in omega (arith, ap (below vss) e, z, go vs z)

-- the greatest of each class
abbrev pub highs_of : {L : Type 0} → Place L → List ℕ
highs_of p = keep (is_high p) (count_up 0 (suc p.width))

unless_none : (b : Bool) (n : ℕ) → n ≡ 0 → (if b then n else 0) ≡ 0
unless_none true n e = e
unless_none false n e = refl

module _ {L : Type 0} where
  abbrev pub highs_below : List (Place L) → ℕ → ℕ
  highs_below ps t = below (map highs_of ps) t

  abbrev pub first_count : List (Place L) → ℕ → ℕ
  first_count ps t = length (pick true ps t)

  abbrev pub full_count : List (Place L) → ℕ → ℕ
  full_count ps t = length (pick false ps t)

  -- ---- place by place
  pub first_more : (p : Place L) (ps : List (Place L)) (t : ℕ) → first_count (p ∷ ps) t ≡ total (λ k. if is_low p k then first_count ps (t - k) else full_count ps (t - k)) 0 (suc (min p.width t))
  unfolding pick
  first_more p ps t =
      length_over (λ k. map (λ ks. k ∷ ks) (pick (is_low p k) ps (t - k))) 0 (suc (min p.width t))
      ∙ total-same _ _ 0 (suc (min p.width t)) (λ k l u. length-map (pick (is_low p k) ps (t - k)) (λ ks. k ∷ ks) ∙ go (is_low p k) ps (t - k))
    where
      go : (b : Bool) (ps : List (Place L)) (s : ℕ) → length (pick b ps s) ≡ (if b then first_count ps s else full_count ps s)
      go true ps s = refl
      go false ps s = refl

  pub full_more : (p : Place L) (ps : List (Place L)) (t : ℕ) → full_count (p ∷ ps) t ≡ total (λ k. if is_high p k then full_count ps (t - k) else 0) 0 (suc (min p.width t))
  unfolding pick
  full_more p ps t =
      length_over (λ k. if is_high p k then map (λ ks. k ∷ ks) (pick false ps (t - k)) else []) 0 (suc (min p.width t))
      ∙ total-same _ _ 0 (suc (min p.width t)) (λ k l u. go (is_high p k) k)
    where
      go : (b : Bool) (k : ℕ) → length (if b then map (λ ks. k ∷ ks) (pick false ps (t - k)) else []) ≡ (if b then full_count ps (t - k) else 0)
      go true k = length-map (pick false ps (t - k)) (λ ks. k ∷ ks)
      go false k = refl

  pub highs_more : (p : Place L) (ps : List (Place L)) (t : ℕ) → highs_below (p ∷ ps) t ≡ total (λ k. if is_high p k then highs_below ps (t - k) else 0) 0 (suc p.width)
  unfolding below
  highs_more p ps t = sum_kept (λ v. highs_below ps (t - v)) (is_high p) 0 (suc p.width)

  -- the window up to t is enough
  highs_window : (p : Place L) (ps : List (Place L)) (t u : ℕ) → t ≤ suc u → highs_below (p ∷ ps) t ≡ total (λ k. if is_high p k then highs_below ps (t - k) else 0) 0 (suc (min p.width u))
  highs_window p ps t u h =
      highs_more p ps t ∙ total-cut _ 0 (suc (min p.width u)) (suc p.width) (omega arith) (λ k l v.
      let e : t - k ≡ 0 = omega arith in unless_none (is_high p k) _ (ap (highs_below ps) e ∙ below_none (map highs_of ps)))

  -- ---- tuples of greatest ones: those with a sum up to t, less those with a sum below t
  pub full_count_lem : (ps : List (Place L)) (t : ℕ) → full_count ps t + highs_below ps t ≡ highs_below ps (suc t)
  unfolding pick below offsets
  full_count_lem [] zero = refl
  full_count_lem [] (suc t) = omega arith
  full_count_lem (p ∷ ps) t =
      let n = suc (min p.width t) in
      omega (
        arith,
        full_more p ps t,
        highs_window p ps t t (omega arith),
        highs_window p ps (suc t) t (omega arith),
        total-plus (λ k. if is_high p k then full_count ps (t - k) else 0) (λ k. if is_high p k then highs_below ps (t - k) else 0) 0 n,
        total-same (λ k. (if is_high p k then full_count ps (t - k) else 0) + (if is_high p k then highs_below ps (t - k) else 0)) (λ k. if is_high p k then highs_below ps (suc t - k) else 0) 0 n
            (λ k l u. go (is_high p k) k (omega arith) (full_count_lem ps (t - k))),
      )
    where
      go : (b : Bool) (k : ℕ) → k ≤ t → full_count ps (t - k) + highs_below ps (t - k) ≡ highs_below ps (suc (t - k))
          → (if b then full_count ps (t - k) else 0) + (if b then highs_below ps (t - k) else 0) ≡ (if b then highs_below ps (suc t - k) else 0)
      go true k l e = let q : suc t - k ≡ suc (t - k) = omega arith in e ∙ ap (highs_below ps) (sym q)
      go false k l e = refl
