-- Numbers by their remainders: how many in a window have one, and two remainders at once as one. Assumes nothing.
use Rattle.std.specs.Prelude.{◌≡◌, ◌↔◌, ◌≢◌, Bool, true, false, ◌&&◌, ℕ, zero, suc, ◌+◌, ◌*◌, ◌-◌, ◌/◌, ◌%◌, ◌≤◌, ◌<◌, T, eqb, if◌then◌else◌}
use Rattle.std.proofs.Common.{sym, ap, ◌∙◌, mod-lt, mod-eq_of_lt, mul_assoc, arith, eqb→eq}
use Rattle.std.proofs.Math.Nat.{div-add-mod, div-eq_of_lt-le, mul-add-mod_self_left, zero-mod, mul-mod_right, div-eq_of_lt}
use Rattle.std.proofs.Math.Decide.{dec_le}
use Rattle.laws.specs.Decide.{Decides, both, equals}
use Rattle.next.specs.RunSums.{total, total-append, total_none, unless, hits, hits-same}
use Rattle.next.specs.Bools.{alike, fails}

-- a number is its quotient and remainder in one way
pub remainder : (P n q r : ℕ) → r < P → n ≡ P * q + r → n % P ≡ r
remainder P n q r h e = ap (λ z. z % P) e ∙ mul-add-mod_self_left P q r ∙ mod-eq_of_lt h

quotient : (P n q r : ℕ) → r < P → n ≡ P * q + r → n / P ≡ q
quotient P n q r h e = div-eq_of_lt-le P {m = n} (omega (arith, e)) (omega (arith, e, h))

-- ---- how many below n leave the remainder r
step_hit : (P r n : ℕ) → r < P → n % P ≡ r → (suc n + (P - suc r)) / P ≡ suc ((n + (P - suc r)) / P)
step_hit P r n h e =
    let d = div-add-mod n P in
    let q = n / P in
    let a : (n + (P - suc r)) / P ≡ q = quotient P (n + (P - suc r)) q (P - 1) (omega arith) (omega (arith, d)) in
    let b : (suc n + (P - suc r)) / P ≡ suc q = quotient P (suc n + (P - suc r)) (suc q) 0 (omega arith) (omega (arith, d)) in
    b ∙ ap suc (sym a)

step_miss : (P r n : ℕ) → r < P → n % P ≢ r → (suc n + (P - suc r)) / P ≡ (n + (P - suc r)) / P
step_miss P r n h ne =
    let x = n + (P - suc r) in
    let d = div-add-mod x P in
    let l = mod-lt x {m = P} (omega arith) in
    let q = x / P in
    elim (dec_le (suc (suc (x % P))) P) [
      | yes y ↦ quotient P (suc n + (P - suc r)) q (suc (x % P)) y (omega (arith, d))
      | no z ↦ absurd (ne (remainder P n q r h (full P r n q (x % P) h l z (sym d))))
    ]
  where
    full : (P r n q m : ℕ) → r < P → m < P → ¬ (suc (suc m) ≤ P) → n + (P - suc r) ≡ P * q + m → n ≡ P * q + r
    full P r n q m h l z e = omega arith

remainder_below : (P r n : ℕ) → r < P → hits (λ k. eqb (k % P) r) 0 n ≡ (n + (P - suc r)) / P
unfolding total
remainder_below P r zero h = sym (div-eq_of_lt {n = 0 + (P - suc r)} (omega arith))
remainder_below P r (suc n) h =
    let e : suc n ≡ n + 1 = omega arith in
    let e' : 0 + n ≡ n = omega arith in
    let s = total-append (λ k. if eqb (k % P) r then 1 else 0) 0 n 1 in
    let i = remainder_below P r n h in
    ap (hits (λ k. eqb (k % P) r) 0) e ∙ s
    ∙ ap {B = ℕ} (λ z. hits (λ k. eqb (k % P) r) 0 n + ((if eqb (z % P) r then 1 else 0) + 0)) e'
    ∙ go (eqb (n % P) r) (λ t. step_hit P r n h (eqb→eq (n % P) r t)) (λ f. step_miss P r n h (λ q. f ((equals (n % P) r).full q))) i
  where
    go : (b : Bool) → (T b → (suc n + (P - suc r)) / P ≡ suc ((n + (P - suc r)) / P)) → (¬ T b → (suc n + (P - suc r)) / P ≡ (n + (P - suc r)) / P)
        → hits (λ k. eqb (k % P) r) 0 n ≡ (n + (P - suc r)) / P → hits (λ k. eqb (k % P) r) 0 n + ((if b then 1 else 0) + 0) ≡ (suc n + (P - suc r)) / P
    go true f g i = omega (arith, f tt, i)
    go false f g i = omega (arith, g (λ x. x), i)

-- in a window
pub remainder_within : (P r b n : ℕ) → r < P → hits (λ k. eqb (k % P) r) b n + (b + (P - suc r)) / P ≡ ((b + n) + (P - suc r)) / P
remainder_within P r b n h =
    let e : 0 + b ≡ b = omega arith in
    omega (arith, remainder_below P r b h, remainder_below P r (b + n) h, total-append (λ k. if eqb (k % P) r then 1 else 0) 0 b n, ap (λ z. hits (λ k. eqb (k % P) r) z n) e)

-- ---- two remainders at once: P is the least multiple of both
pub record Least (A B P : ℕ) : Type 0 where
  pub some : 0 < P
  pub one : P % A ≡ 0
  pub two : P % B ≡ 0
  pub none : (r : ℕ) → 0 < r → r < P → r % A ≡ 0 → r % B ≡ 0 → ⊥

-- the remainder of a difference of equal remainders
mod_differ : (A x y : ℕ) → y ≤ x → x % A ≡ y % A → (x - y) % A ≡ 0
mod_differ A x y l e =
    let d = div-add-mod x A in
    let f = div-add-mod y A in
    go (dec_le (y / A) (x / A)) d f
  where
    go : Dec (y / A ≤ x / A) → A * (x / A) + x % A ≡ x → A * (y / A) + y % A ≡ y → (x - y) % A ≡ 0
    go (yes k) d f = ap (λ z. z % A) (whole (x / A) (y / A) k d f) ∙ mul-mod_right A (x / A - y / A)
      where
        whole : (p q : ℕ) → q ≤ p → A * p + x % A ≡ x → A * q + y % A ≡ y → x - y ≡ A * (p - q)
        whole p q k d f = let m : p ≡ q + (p - q) = omega arith in let g : A * p ≡ A * q + A * (p - q) = omega (arith, ap (λ z. A * z) m) in omega arith
    go (no k) d f = ap (λ z. z % A) (none (x / A) (y / A) (omega arith) d f) ∙ zero-mod A
      where
        none : (p q : ℕ) → p < q → A * p + x % A ≡ x → A * q + y % A ≡ y → x - y ≡ 0
        none p q k d f = let m : q ≡ p + (q - p) = omega arith in let g : A * q ≡ A * p + A * (q - p) = omega (arith, ap (λ z. A * z) m) in omega arith

-- the multiples of P leave no remainder by its divisors
past_multiples : (A P k : ℕ) → P % A ≡ 0 → k % A ≡ k % P % A
past_multiples A P k e =
    let d = div-add-mod k P in
    let f = div-add-mod P A in
    let m : A * (P / A) ≡ P = omega (arith, f) in
    let g : A * ((P / A) * (k / P)) + k % P ≡ k = ap (λ z. z + k % P) (times A (P / A) (k / P)) ∙ ap (λ z. z * (k / P) + k % P) m ∙ d in
    sym (ap (λ z. z % A) g) ∙ mul-add-mod_self_left A ((P / A) * (k / P)) (k % P)
  where
    times : (a b c : ℕ) → a * (b * c) ≡ a * b * c
    times a b c = sym (mul_assoc a b c)

module _ (A B P : ℕ) (h : Least A B P) (k0 : ℕ) (l : k0 < P) (a : k0 % A ≡ 0) where
  together : (k : ℕ) → ((k % A ≡ 0) × (k % B ≡ k0 % B)) ↔ (k % P ≡ k0)
  together k = (to, from)
    where
      r : ℕ
      r = k % P

      small : k % P < P
      small = mod-lt k h.some

      to : (k % A ≡ 0) × (k % B ≡ k0 % B) → k % P ≡ k0
      to (x, y) =
          let rA : k % P % A ≡ 0 = sym (past_multiples A P k h.one) ∙ x in
          let rB : k % P % B ≡ k0 % B = sym (past_multiples B P k h.two) ∙ y in
          elim (dec_le k0 (k % P)) [
            | yes u ↦ meet (k % P) k0 u small rA rB a
            | no u ↦ sym (meet k0 (k % P) (omega arith) l a (sym rB) rA)
          ]
        where
          meet : (x y : ℕ) → y ≤ x → x < P → x % A ≡ 0 → x % B ≡ y % B → y % A ≡ 0 → x ≡ y
          meet x y u v p q w = elim (dec_le (suc y) x) [
            | yes z ↦ absurd (h.none (x - y) (omega arith) (omega arith) (mod_differ A x y u (p ∙ sym w)) (mod_differ B x y u q))
            | no z ↦ omega arith
          ]

      from : k % P ≡ k0 → (k % A ≡ 0) × (k % B ≡ k0 % B)
      from e = (past_multiples A P k h.one ∙ ap (λ z. z % A) e ∙ a, past_multiples B P k h.two ∙ ap (λ z. z % B) e)

-- what is left of s is a multiple of B exactly where k leaves the remainder of s
left_over : (B s k : ℕ) → k ≤ s → ((s - k) % B ≡ 0) ↔ (k % B ≡ s % B)
left_over B s k u = (
  λ e. (let d = div-add-mod (s - k) B in
      let f : B * ((s - k) / B) + k ≡ s = omega (arith, d, e) in
      sym (sym (ap (λ z. z % B) f) ∙ mul-add-mod_self_left B ((s - k) / B) k)),
  λ e. mod_differ B s k u (sym e),
)

-- ---- a pair of multiples with the sum s
abbrev pub both_multiples : ℕ → ℕ → ℕ → ℕ → Bool
both_multiples A B s k = eqb (k % A) 0 && eqb ((s - k) % B) 0

pair_decides : (A B s k : ℕ) → Decides (both_multiples A B s k) ((k % A ≡ 0) × ((s - k) % B ≡ 0))
pair_decides A B s k = both _ _ (equals (k % A) 0) (equals ((s - k) % B) 0)

-- by one remainder
pub pair-test : (A B P : ℕ) → Least A B P → (k0 : ℕ) → k0 < P → k0 % A ≡ 0 → (s : ℕ) → k0 % B ≡ s % B → (k : ℕ) → k ≤ s → both_multiples A B s k ≡ eqb (k % P) k0
pair-test A B P h k0 l a s e k v =
    let pair = pair_decides A B s k in
    let r = together A B P h k0 l a k in
    let left = left_over B s k v in
    alike _ _
    (λ t. (let p = pair.sound t in (equals (k % P) k0).full (r.0 (p.0, left.0 p.1 ∙ sym e))))
    (λ t. (let p = r.1 ((equals (k % P) k0).sound t) in pair.full (p.0, left.1 (p.1 ∙ e))))

-- the first one in a window: as many as have one remainder
pub pairs-within : (A B P : ℕ) → Least A B P → (k0 : ℕ) → k0 < P → k0 % A ≡ 0 → (s b n : ℕ) → k0 % B ≡ s % B → b + n ≤ suc s
    → hits (both_multiples A B s) b n + (b + (P - suc k0)) / P ≡ ((b + n) + (P - suc k0)) / P
pairs-within A B P h k0 l a s b n e u =
    ap (λ z. z + (b + (P - suc k0)) / P) (hits-same _ _ b n (λ k v w. pair-test A B P h k0 l a s e k (omega arith)))
    ∙ remainder_within P k0 b n l

-- none where no multiple of A below P has the remainder of s
pub pair_none : (A B P : ℕ) → Least A B P → (s : ℕ) → ((k : ℕ) → k < P → k % A ≡ 0 → k % B ≡ s % B → ⊥) → (k : ℕ) → k ≤ s → both_multiples A B s k ≡ false
pair_none A B P h s f k v = fails _ (λ t. (let p = (pair_decides A B s k).sound t in
    f (k % P) (mod-lt k h.some) (sym (past_multiples A P k h.one) ∙ p.0) (sym (past_multiples B P k h.two) ∙ (left_over B s k v).0 p.1)))

pub pairs_none : (A B P : ℕ) → Least A B P → (s b n : ℕ) → ((k : ℕ) → k < P → k % A ≡ 0 → k % B ≡ s % B → ⊥) → b + n ≤ suc s
    → hits (both_multiples A B s) b n ≡ 0
pairs_none A B P h s b n f u = total_none _ b n (λ k v w. unless (both_multiples A B s k) 1 (pair_none A B P h s f k (omega arith)))
