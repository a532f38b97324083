-- The sum of a comparison's terms at values, from the first term to the last: nothing overflows. Assumes nothing.
use Rattle.std.proofs.Common.{◌≡◌, ap, ◌∙◌, List, map, ℕ, ◌+◌, ◌*◌, ◌≤◌, ◌<◌, arith, length, get_or, drop, drop_of_length-le, drop-cons, ℤ, pos, nat_abs, ◌+ℤ◌, w32, SFits, add-one}
use Rattle.std.proofs.Math.IntN.{+ℤ_idl}
use Rattle.definitions.specs.Tools.{All, sum_z}
use Rattle.definitions.specs.Board.{Term}
use Rattle.laws.specs.Whole.{whole, eq_in, eq_out, add_law, abs_add, abs_le, abs_mul_le, abs_fits}
use Rattle.laws.specs.Lists.{all-at, all_read}
use Rattle.laws.specs.Admitted.{GoodTerm}
use Rattle.judge.specs.Suited.{Near, product}

-- over the terms from i on
abbrev pub sum_from : List ℤ → List Term → ℕ → ℤ
sum_from values ts i = sum_z (map (product values) (drop i ts))

-- the sum of the first i terms
pub record Summed (values : List ℤ) (ts : List Term) (i : ℕ) (sum : ℤ) : Type 0 where
  pub all : sum +ℤ sum_from values ts i ≡ sum_from values ts 0
  pub small : nat_abs sum ≤ i * 262144

pub sum_start : (values : List ℤ) (ts : List Term) → Summed values ts 0 (pos 0)
sum_start values ts = record { all = +ℤ_idl _; small = omega arith }

pub sum_end : (values : List ℤ) (ts : List Term) (i : ℕ) (sum : ℤ) → i ≡ length ts → Summed values ts i sum → sum ≡ sum_from values ts 0
sum_end values ts i sum e s =
    let z : sum_from values ts i ≡ pos 0 = ap (λ l. sum_z (map (product values) l)) (drop_of_length-le ts {i = i} (omega arith)) in
    eq_out _ _ (omega (arith, eq_in _ _ s.all, eq_in _ _ z, add_law sum (sum_from values ts i)))

module _ (values : List ℤ) (near : Near values) where
  value_near : (x : ℕ) → nat_abs (get_or values x (pos 0)) ≤ 4096
  value_near x = all_read (λ v. nat_abs v ≤ 4096) (pos 0) (omega arith) values near x

  pub value_fits : (x : ℕ) → SFits w32 (get_or values x (pos 0))
  value_fits x = abs_fits (omega (arith, value_near x))

  product_near : (t : Term) → GoodTerm (length values) t → nat_abs (product values t) ≤ 262144
  product_near t g = omega (arith, abs_mul_le t.coef (get_or values t.var (pos 0)) 64 4096 (abs_le t.coef (omega (whole, g.least, g.most))) (value_near t.var))

  pub product_fits : (t : Term) → GoodTerm (length values) t → SFits w32 (product values t)
  product_fits t g = abs_fits (omega (arith, product_near t g))

  -- a turn: v is the value of term i
  module _ (ts : List Term) (few : length ts ≤ 3) (good : All (GoodTerm (length values)) ts) (i : ℕ) (sum : ℤ) (d : Term) (h : i < length ts) (s : Summed values ts i sum) (v : ℤ) (p : v ≡ product values (get_or ts i d)) where
    more : nat_abs (sum +ℤ v) ≤ (i + 1) * 262144
    more =
        let n : nat_abs v ≤ 262144 = rw p (product_near (get_or ts i d) (all-at (GoodTerm (length values)) d ts good i h)) in
        omega (arith, abs_add sum v, n, s.small)

    pub total_fits : SFits w32 (sum +ℤ v)
    total_fits = abs_fits (omega (arith, more))

    pub sum_more : Summed values ts (i + 1) (sum +ℤ v)
    sum_more =
        let r = sum_from values ts (i + 1) in
        let front : sum_from values ts i ≡ v +ℤ r = ap (λ l. sum_z (map (product values) l)) (drop-cons ts i d h) ∙ rw (add-one, p) in
        record { all = eq_out _ _ (omega (arith, eq_in _ _ s.all, eq_in _ _ front, add_law sum (sum_from values ts i), add_law v r, add_law sum v, add_law (sum +ℤ v) r)); small = more }
