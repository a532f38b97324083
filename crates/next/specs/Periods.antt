-- Every two steps have a period and starts of its pairs, each found by a search; so the count is defined for all comparisons. Assumes nothing.
use Rattle.std.specs.Prelude.{◌≡◌, refl, Bool, true, false, ◌&&◌, ℕ, zero, suc, ◌+◌, ◌*◌, ◌%◌, ◌≤◌, ◌<◌, T, eqb, if◌then◌else◌}
use Rattle.std.proofs.Common.{sym, ap, ◌∙◌, subst, mul-le-mul, arith}
use Rattle.std.proofs.Math.Nat.{mul-mod_right, mul-mod_left}
use Rattle.std.proofs.Math.Decide.{dec_le}
use Rattle.laws.specs.Decide.{Decides, both, equals}
use Rattle.next.specs.Remainders.{Least}
use Rattle.next.specs.Windows.{Starts}

-- the first of the n numbers from k that passes a test; the number after them where none does
unfoldable pub sought : (ℕ → Bool) → ℕ → ℕ → ℕ
sought f k zero = k
sought f k (suc n) = if f k then k else sought f (suc k) n

pub record Sought (f : ℕ → Bool) (k n j : ℕ) : Type 0 where
  pub from : k ≤ j
  pub to : j ≤ k + n
  pub hit : j < k + n → f j ≡ true
  pub gap : (i : ℕ) → k ≤ i → i < j → f i ≡ false

pub sought_is : (f : ℕ → Bool) (k n : ℕ) → Sought f k n (sought f k n)
unfolding sought
sought_is f k zero = record { from = omega arith; to = omega arith; hit = λ l. absurd (omega arith); gap = λ i p q. absurd (omega arith) }
sought_is f k (suc n) = go (f k) refl (sought_is f (suc k) n)
  where
    go : (b : Bool) → f k ≡ b → Sought f (suc k) n (sought f (suc k) n) → Sought f k (suc n) (if b then k else sought f (suc k) n)
    go true e r = record { from = omega arith; to = omega arith; hit = λ l. e; gap = λ i p q. absurd (omega arith) }
    go false e r = record {
      from = (let x = r.from in omega arith);
      to = (let x = r.to in omega arith);
      hit = λ l. r.hit (omega arith);
      gap = λ i p q. elim (dec_le (suc k) i) [ yes y ↦ r.gap i y q | no z ↦ (let w : i ≡ k = omega arith in ap f w ∙ e) ];
    }

-- a multiple of a that leaves the remainder r by b
abbrev meets : ℕ → ℕ → ℕ → ℕ → Bool
meets a b r k = eqb (k % a) 0 && eqb (k % b) r

meets_decides : (a b r k : ℕ) → Decides (meets a b r k) ((k % a ≡ 0) × (k % b ≡ r))
meets_decides a b r k = both _ _ (equals (k % a) 0) (equals (k % b) r)

missed : (a b r k : ℕ) → meets a b r k ≡ false → k % a ≡ 0 → k % b ≡ r → ⊥
missed a b r k e p q = subst T e ((meets_decides a b r k).full (p, q))

unfoldable pub period_of : ℕ → ℕ → ℕ
period_of a b = sought (meets a b 0) 1 (a * b)

pub period_is : (a b : ℕ) → 0 < a → 0 < b → Least a b (period_of a b)
unfolding period_of
period_is a b ha hb = record { some = (let x = r.from in omega arith); one = found.0; two = found.1; none = λ i p q. missed a b 0 i (r.gap i (omega arith) q) }
  where
    P : ℕ
    P = sought (meets a b 0) 1 (a * b)

    r : Sought (meets a b 0) 1 (a * b) P
    r = sought_is (meets a b 0) 1 (a * b)

    -- the product is one, so the search does not run past it
    inside : P < 1 + a * b
    inside = elim (dec_le (suc P) (1 + a * b)) [
      | yes y ↦ y
      | no n ↦ (let m = mul-le-mul ha hb in absurd (missed a b 0 (a * b) (r.gap (a * b) (omega arith) (omega arith)) (mul-mod_right a b) (mul-mod_left a b)))
    ]

    found : (P % a ≡ 0) × (P % b ≡ 0)
    found = (meets_decides a b 0 P).sound (subst T (sym (r.hit inside)) tt)

unfoldable pub start_of : ℕ → ℕ → ℕ → ℕ
start_of a b r = sought (meets a b r) 0 (period_of a b)

pub starts_are : (a b : ℕ) → Starts a b (period_of a b) (start_of a b)
unfolding start_of
starts_are a b = record {
  met = λ r l u. (meets_decides a b r _).sound (subst T (sym ((sought_is (meets a b r) 0 (period_of a b)).hit (omega arith))) tt);
  none = λ r l u k p. missed a b r k ((sought_is (meets a b r) 0 (period_of a b)).gap k (omega arith) (omega arith));
}
