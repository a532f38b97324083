-- Sums over a run of numbers, and how many of them pass a test. Assumes nothing.
use Rattle.std.specs.Prelude.{◌≡◌, refl, Bool, true, false, ◌&&◌, ◌||◌, List, ◌∷◌, map, ℕ, zero, suc, ◌+◌, ◌-◌, ◌≤◌, ◌<◌, length, if◌then◌else◌}
use Rattle.std.proofs.Common.{ap, ◌∙◌, arith}
use Rattle.std.proofs.Math.Decide.{dec_le}
use Rattle.definitions.specs.Tools.{count_up, sum}
use Rattle.laws.specs.Lists.{sum-append, count_up-append, length-flat-map}
use Rattle.laws.specs.Runs.{over}
use Rattle.next.specs.Once.{keep}

-- f b + f (b + 1) + .. , n of them
unfoldable pub total : (ℕ → ℕ) → ℕ → ℕ → ℕ
total f b n = sum (map f (count_up b n))

pub length_over : {A : Type 0} (f : ℕ → List A) (b n : ℕ) → length (over f b n) ≡ total (λ k. length (f k)) b n
unfolding over total
length_over f b n = length-flat-map f (λ k. length (f k)) (λ k. refl) (count_up b n)

pub total-same : (f g : ℕ → ℕ) (b n : ℕ) → ((k : ℕ) → b ≤ k → k < b + n → f k ≡ g k) → total f b n ≡ total g b n
unfolding total
total-same f g b zero h = refl
total-same f g b (suc n) h = omega (arith, h b (omega arith) (omega arith), total-same f g (suc b) n (λ k l u. h k (omega arith) (omega arith)))

pub total-append : (f : ℕ → ℕ) (b m n : ℕ) → total f b (m + n) ≡ total f b m + total f (b + m) n
unfolding total
total-append f b m n = ap (λ l. sum (map f l)) (count_up-append b m n) ∙ sum-append f (count_up b m) (count_up (b + m) n)

pub total_none : (f : ℕ → ℕ) (b n : ℕ) → ((k : ℕ) → b ≤ k → k < b + n → f k ≡ 0) → total f b n ≡ 0
unfolding total
total_none f b zero h = refl
total_none f b (suc n) h = omega (arith, h b (omega arith) (omega arith), total_none f (suc b) n (λ k l u. h k (omega arith) (omega arith)))

-- what comes after the m-th gives nothing
pub total-cut : (f : ℕ → ℕ) (b m n : ℕ) → m ≤ n → ((k : ℕ) → b + m ≤ k → k < b + n → f k ≡ 0) → total f b n ≡ total f b m
total-cut f b m n h z =
    let e : n ≡ m + (n - m) = omega arith in
    omega (arith, ap (total f b) e, total-append f b m (n - m), total_none f (b + m) (n - m) (λ k l u. z k l (omega arith)))

pub total-plus : (f g : ℕ → ℕ) (b n : ℕ) → total (λ k. f k + g k) b n ≡ total f b n + total g b n
unfolding total
total-plus f g b zero = refl
total-plus f g b (suc n) = omega (arith, total-plus f g (suc b) n)

pub sum_kept : (f : ℕ → ℕ) (t : ℕ → Bool) (b n : ℕ) → sum (map f (keep t (count_up b n))) ≡ total (λ k. if t k then f k else 0) b n
unfolding total
sum_kept f t b zero = refl
sum_kept f t b (suc n) = go (t b) (sum_kept f t (suc b) n)
  where
    go : (c : Bool) → sum (map f (keep t (count_up (suc b) n))) ≡ total (λ k. if t k then f k else 0) (suc b) n
        → sum (map f (if c then b ∷ keep t (count_up (suc b) n) else keep t (count_up (suc b) n))) ≡ (if c then f b else 0) + total (λ k. if t k then f k else 0) (suc b) n
    go true e = omega (arith, e)
    go false e = omega (arith, e)

pub total-last : (f : ℕ → ℕ) (m : ℕ) → ((k : ℕ) → k < m → f k ≡ 0) → total f 0 (suc m) ≡ f m
unfolding total
total-last f m z =
    let e : suc m ≡ m + 1 = omega arith in
    let e' : 0 + m ≡ m = omega arith in
    omega (arith, ap (total f 0) e, total-append f 0 m 1, total_none f 0 m (λ k l u. z k (omega arith)), ap f e')

pub total_window : (f g : ℕ → ℕ) (m from : ℕ) → from ≤ m → ((k : ℕ) → k < from → f k ≡ 0) → ((k : ℕ) → from ≤ k → k < m → f k ≡ g k) → total f 0 m ≡ total g from (m - from)
total_window f g m from h z e =
    let q : m ≡ from + (m - from) = omega arith in
    let q' : 0 + from ≡ from = omega arith in
    omega (
      arith,
      ap (total f 0) q,
      total-append f 0 from (m - from),
      total_none f 0 from (λ k l u. z k (omega arith)),
      ap (λ b. total f b (m - from)) q',
      total-same f g from (m - from) (λ k l u. e k l (omega arith)),
    )

-- a loop goes from one number that counts to the next, and ends
pub total_skip : (f : ℕ → ℕ) (k j end : ℕ) → k < j → k < end → ((i : ℕ) → k < i → i < j → f i ≡ 0) → total f k (end - k) ≡ f k + total f j (end - j)
unfolding total
total_skip f k j end l u z = elim (dec_le j end) [ yes y ↦ inside y | no n ↦ outside (omega arith) ]
  where
    inside : j ≤ end → total f k (end - k) ≡ f k + total f j (end - j)
    inside y =
        let e : end - k ≡ suc ((j - suc k) + (end - j)) = omega arith in
        let e' : suc k + (j - suc k) ≡ j = omega arith in
        omega (arith, ap (total f k) e, total-append f (suc k) (j - suc k) (end - j), total_none f (suc k) (j - suc k) (λ i p q. z i p (omega arith)), ap (λ b. total f b (end - j)) e')

    outside : end < j → total f k (end - k) ≡ f k + total f j (end - j)
    outside y =
        let e : end - k ≡ suc (end - suc k) = omega arith in
        let e' : end - j ≡ 0 = omega arith in
        omega (arith, ap (total f k) e, total_none f (suc k) (end - suc k) (λ i p q. z i p (omega arith)), ap (total f j) e')

pub unless : (b : Bool) (n : ℕ) → b ≡ false → (if b then n else 0) ≡ 0
unless b n e = rw e refl

pub turn_end : (f : ℕ → ℕ) (k end : ℕ) → end ≤ k → total f k (end - k) ≡ 0
unfolding total
turn_end f k end h = let e : end - k ≡ 0 = omega arith in ap (total f k) e

-- ---- how many of the n numbers from b pass a test
abbrev pub hits : (ℕ → Bool) → ℕ → ℕ → ℕ
hits f b n = total (λ k. if f k then 1 else 0) b n

-- 1 where a test passes
abbrev pub mark : Bool → ℕ
mark b = if b then 1 else 0

-- tests alike in a window; one number more in front, and behind; one further on
pub hits-same : (f g : ℕ → Bool) (b n : ℕ) → ((k : ℕ) → b ≤ k → k < b + n → f k ≡ g k) → hits f b n ≡ hits g b n
hits-same f g b n h = total-same _ _ b n (λ k l u. ap mark (h k l u))

pub hits-first : (f : ℕ → Bool) (b n : ℕ) → hits f b (suc n) ≡ mark (f b) + hits f (suc b) n
unfolding total
hits-first f b n = refl

pub hits-last : (f : ℕ → Bool) (b n : ℕ) → hits f b (suc n) ≡ hits f b n + mark (f (b + n))
unfolding total
hits-last f b n = let e : suc n ≡ n + 1 = omega arith in omega (arith, ap (hits f b) e, total-append (λ k. mark (f k)) b n 1)

pub hits-moved : (f : ℕ → Bool) (b n : ℕ) → hits (λ k. f (k - 1)) (suc b) n ≡ hits f b n
unfolding total
hits-moved f b zero = refl
hits-moved f b (suc n) = let e : suc b - 1 ≡ b = omega arith in omega (arith, hits-moved f (suc b) n, ap {B = ℕ} (λ k. mark (f k)) e)

-- either test, by each and by both
pub hits_or : (f g : ℕ → Bool) (b n : ℕ) → hits (λ k. f k || g k) b n + hits (λ k. f k && g k) b n ≡ hits f b n + hits g b n
unfolding total
hits_or f g b zero = refl
hits_or f g b (suc n) = omega (arith, hits_or f g (suc b) n, go (f b) (g b))
  where
    go : (x y : Bool) → (if x || y then 1 else 0) + (if x && y then 1 else 0) ≡ (if x then 1 else 0) + (if y then 1 else 0)
    go true true = refl
    go true false = refl
    go false true = refl
    go false false = refl

-- counted from the other end
pub hits-turned : (f : ℕ → Bool) (s b n : ℕ) → b + n ≤ suc s → hits (λ k. f (s - k)) b n ≡ hits f (suc s - (b + n)) n
unfolding total
hits-turned f s b zero h = refl
hits-turned f s b (suc n) h =
    let e : suc n ≡ n + 1 = omega arith in
    let e1 : suc s - (suc b + n) ≡ suc s - (b + suc n) = omega arith in
    let e2 : (suc s - (b + suc n)) + n ≡ s - b = omega arith in
    omega (
      arith,
      hits-turned f s (suc b) n (omega arith),
      ap (λ z. hits f z n) e1,
      total-append (λ k. mark (f k)) (suc s - (b + suc n)) n 1,
      ap (hits f (suc s - (b + suc n))) e,
      ap {B = ℕ} (λ z. mark (f z)) e2,
    )
