-- A range halved (003, section 6): where its middle lies, what it tells, and what each reply leaves of it. Assumes nothing.
use Rattle.std.specs.Prelude.{◌≡◌, refl, ◌≢◌, List, [], ◌∷◌, ℕ, ◌+◌, ◌*◌, ◌≤◌, ◌<◌, ℤ, pos, ◌+ℤ◌, ◌*ℤ◌, ◌≤ℤ◌, ◌<ℤ◌}
use Rattle.std.proofs.Common.{inl, inr, eq-eqb, ne_eqb}
use Rattle.definitions.specs.Tools.{floor}
use Rattle.definitions.specs.Board.{Bounds}
use Rattle.definitions.specs.Result.{done}
use Rattle.definitions.specs.Closing.{Earliest, found, none, unfinished, halfway, narrowed, tells, after}
use Rattle.laws.specs.Whole.{pp, nn, whole, add_law, mul_law, le_or_lt, lt_test, ge_test}
use Rattle.laws.specs.Division.{below_floor}

-- 2 h ≤ low + high < 2 h + 2
pub half_law : (r : Bounds) → (2 * pp (halfway r) + (nn r.lo + nn r.hi) ≤ pp r.lo + pp r.hi + 2 * nn (halfway r))
    × (pp r.lo + pp r.hi + 2 * nn (halfway r) < 2 * pp (halfway r) + 2 + (nn r.lo + nn r.hi))
unfolding halfway
half_law r =
    let s = r.lo +ℤ r.hi in
    let h = floor s (pos 2) in
    let low = (below_floor (pos 2) s h (omega whole)).1 (omega whole) in
    let high : s <ℤ (pos 2 *ℤ (h +ℤ pos 1)) = elim (le_or_lt (pos 2 *ℤ (h +ℤ pos 1)) s) [
      | inl k ↦ absurd (let n = (below_floor (pos 2) s (h +ℤ pos 1) (omega whole)).0 k in omega (whole, add_law h (pos 1)))
      | inr k ↦ k
    ] in
    (omega (whole, low, mul_law (pos 2) h, add_law r.lo r.hi), omega (whole, high, mul_law (pos 2) (h +ℤ pos 1), add_law h (pos 1), add_law r.lo r.hi))

-- ---- what a range tells
-- low is below high, above it, or is it
pub data Stands (r : Bounds) : Type 0 where
  is_open : r.lo <ℤ r.hi → Stands r
  is_empty : r.hi <ℤ r.lo → Stands r
  is_one : r.lo ≡ r.hi → Stands r

pub stands : (r : Bounds) → Stands r
stands r = elim (le_or_lt r.hi r.lo) [
  | inl k ↦ elim (le_or_lt r.lo r.hi) [
    | inl l ↦ is_one (omega whole)
    | inr l ↦ is_empty l
  ]
  | inr k ↦ is_open k
]

module _ (r : Bounds) where
  pub tells_open : r.lo <ℤ r.hi → tells r ≡ unfinished r (halfway r)
  unfolding tells
  tells_open h = rw (lt_test r.lo r.hi h)

  pub tells_none : r.hi <ℤ r.lo → tells r ≡ none
  unfolding tells
  tells_none h =
      let k : r.hi ≤ℤ r.lo = omega whole in
      rw (ge_test r.lo r.hi k, lt_test r.hi r.lo h)

  pub tells_found : r.lo ≡ r.hi → tells r ≡ found r.lo
  unfolding tells
  tells_found h =
      let k : r.hi ≤ℤ r.lo = omega whole in
      let l : r.lo ≤ℤ r.hi = omega whole in
      rw (ge_test r.lo r.hi k, ge_test r.hi r.lo l)

-- ---- what a reply leaves
module _ (r : Bounds) (h : ℤ) (reply : ℕ) where
  pub narrowed_yes : reply ≡ 1 → narrowed r h reply ≡ record { lo = r.lo; hi = h }
  unfolding narrowed
  narrowed_yes e = rw (eq-eqb reply 1 e)

  pub narrowed_no : reply ≢ 1 → narrowed r h reply ≡ record { lo = h +ℤ pos 1; hi = r.hi }
  unfolding narrowed
  narrowed_no n = rw (ne_eqb reply 1 n)

-- ---- one reply after another
pub after-end : (e : Earliest) → after e [] ≡ done e
unfolding after
after-end e = refl

pub after_one : (r : Bounds) (h : ℤ) (b : ℕ) (bs : List ℕ) → after (unfinished r h) (b ∷ bs) ≡ after (tells (narrowed r h b)) bs
unfolding after
after_one r h b bs = refl
