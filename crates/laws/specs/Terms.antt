-- Terms within their variables' bounds: the ranges of b₁ .. bₙ (000, Proposition 1), and how great all that can be.
use Rattle.std.specs.Prelude.{◌≡◌, refl, Bool, true, false, List, [], ◌∷◌, map, ℕ, suc, ◌≤◌, ◌<◌, length, ℤ, pos, nat_abs, ◌+ℤ◌, ◌-ℤ◌, ◌*ℤ◌, ◌≤ℤ◌, ◌<ℤ◌, if◌then◌else◌}
use Rattle.std.proofs.Common.{arith}
use Rattle.std.specs.Int.Signed.{lt_z}
use Rattle.definitions.specs.Tools.{All, sum_z, eq_z}
use Rattle.definitions.specs.Board.{Board, Bounds, Term, bounds_of}
use Rattle.definitions.specs.Encoding.{term_bounds, least, tuples}
use Rattle.laws.specs.Lists.{all-at, all_map, all_impl}
use Rattle.laws.specs.Ranges.{all-over}
use Rattle.laws.specs.Whole.{whole, add_law, sub_law, abs_le, abs_mul_le, mul_rises, mul_falls}
use Rattle.laws.specs.Admitted.{GoodBounds, GoodTerm}
use Rattle.laws.specs.Tuples.{Ordered, lows}

pub good_bounds : (B : Board) → All GoodBounds B.bounds → (x : ℕ) → x < length B.bounds → GoodBounds (bounds_of B x)
unfolding bounds_of
good_bounds B g x h = all-at GoodBounds _ B.bounds g x h

-- the ranges of b₁ .. bₙ
abbrev pub ranges : (ℕ → Bounds) → List Term → List Bounds
ranges of ts = map (λ t. record { lo = (term_bounds of t).lo -ℤ pos 1; hi = (term_bounds of t).hi }) ts

-- by the sign of the coefficient
by_sign : (of : ℕ → Bounds) (t : Term) (P : Bounds → Type 0)
    → (pos 0 <ℤ t.coef → P (record { lo = t.coef *ℤ (of t.var).lo; hi = t.coef *ℤ (of t.var).hi }))
    → (t.coef ≤ℤ pos 0 → P (record { lo = t.coef *ℤ (of t.var).hi; hi = t.coef *ℤ (of t.var).lo })) → P (term_bounds of t)
unfolding term_bounds
by_sign of t P up down = go (lt_z (pos 0) t.coef) refl
  where
    b : Bounds
    b = of t.var

    go : (s : Bool) → lt_z (pos 0) t.coef ≡ s
        → P (if s then record { lo = t.coef *ℤ b.lo; hi = t.coef *ℤ b.hi } else record { lo = t.coef *ℤ b.hi; hi = t.coef *ℤ b.lo })
    go true e = up (omega whole)
    go false e = down (omega whole)

pub term_ordered : (of : ℕ → Bounds) (t : Term) → (of t.var).lo ≤ℤ (of t.var).hi → (term_bounds of t).lo ≤ℤ (term_bounds of t).hi
term_ordered of t h = by_sign of t (λ r. r.lo ≤ℤ r.hi) (λ p. mul_rises t.coef _ _ p h) (λ p. mul_falls t.coef _ _ p h)

pub ranges_ordered : (of : ℕ → Bounds) (ts : List Term) → All (λ t. (of t.var).lo ≤ℤ (of t.var).hi) ts → All Ordered (ranges of ts)
ranges_ordered of [] h = tt
ranges_ordered of (t ∷ ts) h = let o = term_ordered of t h.0 in (omega (whole, sub_law (term_bounds of t).lo (pos 1)), ranges_ordered of ts h.1)

pub ranges-least : (of : ℕ → Bounds) (ts : List Term) → sum_z (lows (ranges of ts)) ≡ least of ts -ℤ pos (length ts)
unfolding least
ranges-least of [] = refl
ranges-least of (t ∷ ts) =
    let l = (term_bounds of t).lo in
    let r = ranges-least of ts in
    let k = least of ts in
    let n = length ts in
    omega (whole, add_law (l -ℤ pos 1) (sum_z (lows (ranges of ts))), sub_law l (pos 1), sub_law k (pos n), add_law l k, sub_law (l +ℤ k) (pos (suc n)))

-- ---- the tuples lie within their ranges
-- one entry for each range, within it
abbrev pub Within : List Bounds → List ℤ → Type 0
Within [] [] = Unit {0}
Within [] (b ∷ bs) = ⊥
Within (r ∷ rs) [] = ⊥
Within (r ∷ rs) (b ∷ bs) = (r.lo ≤ℤ b) × (b ≤ℤ r.hi) × Within rs bs

pub tuples-within : (rs : List Bounds) (s : ℤ) → All (Within rs) (tuples rs s)
unfolding tuples
tuples-within [] s = go (eq_z s (pos 0))
  where
    go : (b : Bool) → All (Within []) (if b then [] ∷ [] else [])
    go true = (tt, tt)
    go false = tt
tuples-within (r ∷ rs) s =
    (all-over (Within (r ∷ rs)) (λ b. map (λ bs. b ∷ bs) (tuples rs (s -ℤ b))) r.lo r.hi).1 (λ b l u.
    all_map (Within (r ∷ rs)) (λ bs. b ∷ bs) (tuples rs (s -ℤ b))
    (all_impl (Within rs) (λ bs. Within (r ∷ rs) (b ∷ bs)) (λ bs w. (l, u, w)) (tuples rs (s -ℤ b)) (tuples-within rs (s -ℤ b))))

-- ---- sizes
pub term-size : (of : ℕ → Bounds) (n : ℕ) (t : Term) → GoodTerm n t → GoodBounds (of t.var)
    → (nat_abs (term_bounds of t).lo ≤ 262144) × (nat_abs (term_bounds of t).hi ≤ 262144)
term-size of n t g h = by_sign of t (λ r. (nat_abs r.lo ≤ 262144) × (nat_abs r.hi ≤ 262144)) (λ p. (low, high)) (λ p. (high, low))
  where
    times : (z : ℤ) → nat_abs z ≤ 4096 → nat_abs (t.coef *ℤ z) ≤ 262144
    times z k = omega (arith, abs_mul_le t.coef z 64 4096 (abs_le t.coef (omega (whole, g.least, g.most))) k)

    low : nat_abs (t.coef *ℤ (of t.var).lo) ≤ 262144
    low = times (of t.var).lo (abs_le (of t.var).lo (omega (whole, h.lowest, h.ordered, h.highest)))

    high : nat_abs (t.coef *ℤ (of t.var).hi) ≤ 262144
    high = times (of t.var).hi (abs_le (of t.var).hi (omega (whole, h.lowest, h.ordered, h.highest)))
