-- Sums over the numbers of a run that pass a test, taken by going from one straight to the next. Assumes nothing.
use Rattle.std.specs.Prelude.{◌≡◌, refl, Bool, not, ◌||◌, T, eqb, ltb, if◌then◌else◌}
use Rattle.std.proofs.Math.Path.{sym, ap}
use Rattle.std.proofs.Common.{◌∙◌, mod-lt, arith, ltb→lt, nltb→le}
use Rattle.std.proofs.Math.Bool.{true, false, or-true}
use Prim.Native.Nat.{ℕ, zero, suc, min, ◌+◌, ◌*◌, ◌-◌, ◌/◌, ◌%◌, ◌≤◌, ◌<◌}
use Rattle.std.proofs.Math.Nat.{div-add-mod, mul-mod_right}
use Rattle.std.proofs.Math.Decide.{dec_le}
use Rattle.next.specs.Bools.{eqb_yes}
use Rattle.next.specs.RunSums.{total, total_skip, turn_end, unless}
use Rattle.next.specs.Classes.{is_low, is_high}
use Rattle.next.specs.Shapes.{step}
use Rattle.next.specs.ClassEnds.{next_low, next_low_lem, next_low_above, low_gap, high_skip}

-- g k + g (next k) + .. , those below the end, n at most
unfoldable pub hops : (ℕ → ℕ) → (ℕ → ℕ) → ℕ → ℕ → ℕ → ℕ
hops next g end zero k = 0
hops next g end (suc n) k = if ltb k end then g k + hops next g end n (next k) else 0

-- `next` goes from one number below the end that passes f to the next one
pub record Hops (f : ℕ → Bool) (next : ℕ → ℕ) (end : ℕ) : Type 0 where
  pub above : (k : ℕ) → k < end → k < next k
  pub gap : (k i : ℕ) → k < end → k < i → i < next k → f i ≡ false
  pub lands : (k : ℕ) → k < end → next k < end → f (next k) ≡ true

module _ (f : ℕ → Bool) (next : ℕ → ℕ) (end : ℕ) (h : Hops f next end) (g : ℕ → ℕ) where
  abbrev passing : ℕ → ℕ
  passing i = if f i then g i else 0

  -- one hop
  pub hop : (k : ℕ) → k < end → f k ≡ true → total passing k (end - k) ≡ g k + total passing (next k) (end - next k)
  hop k l t =
      total_skip passing k (next k) end (h.above k l) l (λ i p q. unless (f i) (g i) (h.gap k i l p q))
      ∙ ap (λ x. x + total passing (next k) (end - next k)) (ap (λ b. if b then g k else 0) t)

  -- all of them
  pub hops-total : (n k : ℕ) → end ≤ k + n → (k < end → f k ≡ true) → hops next g end n k ≡ total passing k (end - k)
  unfolding hops
  hops-total zero k e t = sym (turn_end passing k end (omega arith))
  hops-total (suc n) k e t = go (ltb k end) (ltb→lt k end) (nltb→le k end) (λ l. hops-total n (next k) (let a = h.above k l in omega arith) (λ u. h.lands k l u))
    where
      go : (b : Bool) → (T b → k < end) → (T (not b) → end ≤ k) → (k < end → hops next g end n (next k) ≡ total passing (next k) (end - next k))
          → (if b then g k + hops next g end n (next k) else 0) ≡ total passing k (end - k)
      go true y z r = let l = y tt in ap (λ x. g k + x) (r l) ∙ sym (hop k l (t l))
      go false y z r = sym (turn_end passing k end (z tt))

-- ---- the least ones of classes of a, and the greatest
pub low_hops : (a w end : ℕ) → 0 < a → Hops (is_low (step a w)) (next_low a) end
low_hops a w end h = record {
  above = λ k l. next_low_above a (step a w) (λ i. refl) h k;
  gap = λ k i l p q. low_gap a (step a w) (λ j. refl) h k i p q;
  lands = λ k l u. next_low_lem a (step a w) (λ i. refl) h k;
}

abbrev pub onward : ℕ → ℕ → ℕ → ℕ
onward a v k = if ltb k v then min v (a * suc (k / a)) else suc k

pub high-hops : (a v end : ℕ) → 0 < a → end ≤ suc v → Hops (is_high (step a v)) (onward a v) end
high-hops a v end h e = record {
  above = λ k l. above k (ltb k v) (ltb→lt k v);
  gap = λ k i l p q. gap k i p (ltb k v) q;
  lands = λ k l u. lands k (ltb k v) (nltb→le k v) u;
}
  where
    to : Bool → ℕ → ℕ
    to b k = if b then min v (a * suc (k / a)) else suc k

    above : (k : ℕ) (b : Bool) → (T b → k < v) → k < to b k
    above k true y = let l = y tt in let d = div-add-mod k a in let m = mod-lt k h in omega arith
    above k false y = omega arith

    gap : (k i : ℕ) → k < i → (b : Bool) → i < to b k → is_high (step a v) i ≡ false
    gap k i p true q = high_skip a (step a v) (λ j. refl) h k i p q
    gap k i p false q = absurd (omega arith)

    at_width : (j : ℕ) → j ≡ v → is_high (step a v) j ≡ true
    at_width j q = ap (λ b. eqb (j % a) 0 || b) (eqb_yes j v q) ∙ or-true (eqb (j % a) 0)

    at_multiple : (j m : ℕ) → j ≡ a * m → is_high (step a v) j ≡ true
    at_multiple j m q = ap (λ b. b || eqb j v) (eqb_yes (j % a) 0 (ap (λ x. x % a) q ∙ mul-mod_right a m))

    lands : (k : ℕ) (b : Bool) → (T (not b) → v ≤ k) → to b k < end → is_high (step a v) (to b k) ≡ true
    lands k true z u = elim (dec_le v (a * suc (k / a))) [
      | yes y ↦ at_width (min v (a * suc (k / a))) (omega arith)
      | no n ↦ at_multiple (min v (a * suc (k / a))) (suc (k / a)) (omega arith)
    ]
    lands k false z u = let l = z tt in absurd (omega arith)
