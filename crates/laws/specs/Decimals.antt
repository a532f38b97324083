-- Decimal digits: the last one after the others, and how many there are. Assumes nothing.
use Rattle.std.specs.Prelude.{◌≡◌, Bool, true, false, [], ◌∷◌, ◌++◌, ℕ, zero, suc, ◌+◌, ◌/◌, ◌%◌, ◌^◌, ◌≤◌, ◌<◌, ltb, length, if◌then◌else◌}
use Rattle.std.proofs.Common.{sym, ap, ◌∙◌, lt-ltb, le-ltb, arith, length-append}
use Rattle.definitions.specs.Dimacs.{digits, decimal}

-- room for a digit more changes nothing where there is room for all
more_room : (f n : ℕ) → n < 10 ^ suc f → digits (suc f) n ≡ digits f n
unfolding digits
more_room zero n h =
    let e : n % 10 ≡ n = omega arith in
    rw (lt-ltb n 10 (omega arith), e)
more_room (suc f) n h = ap (λ z. if ltb n 10 then (48 + n) ∷ [] else z ++ ((48 + n % 10) ∷ [])) (more_room f (n / 10) (omega arith))

pub decimal-one : (n : ℕ) → n < 10 → decimal n ≡ (48 + n) ∷ []
unfolding digits
decimal-one n h = rw (lt-ltb n 10 h)

pub decimal-more : (n : ℕ) → n < 2 ^ 64 → 10 ≤ n → decimal n ≡ decimal (n / 10) ++ ((48 + n % 10) ∷ [])
unfolding digits
decimal-more n f h =
    ap (λ (t : Bool). if t then (48 + n) ∷ [] else digits 18 (n / 10) ++ ((48 + n % 10) ∷ [])) (le-ltb n 10 h)
    ∙ ap (λ z. z ++ ((48 + n % 10) ∷ [])) (sym (more_room 18 (n / 10) (omega arith)))

pub digits-length : (f n : ℕ) → length (digits f n) ≤ suc f
unfolding digits
digits-length zero n = omega arith
digits-length (suc f) n = go (ltb n 10) (digits-length f (n / 10))
  where
    go : (t : Bool) → length (digits f (n / 10)) ≤ suc f → length (if t then (48 + n) ∷ [] else digits f (n / 10) ++ ((48 + n % 10) ∷ [])) ≤ suc (suc f)
    go true h = omega arith
    go false h = omega (arith, length-append (digits f (n / 10)) ((48 + n % 10) ∷ []))

pub shorter : (n : ℕ) → n < 2 ^ 64 → 10 ≤ n → length (decimal n) ≡ length (decimal (n / 10)) + 1
shorter n f h = ap length (decimal-more n f h) ∙ length-append (decimal (n / 10)) ((48 + n % 10) ∷ [])

-- k digits behind the first
pub decimal-length : (k n : ℕ) → n < 2 ^ 64 → 10 ^ k ≤ n → n < 10 ^ suc k → length (decimal n) ≡ suc k
decimal-length zero n f l h = ap length (decimal-one n (omega arith))
decimal-length (suc k) n f l h = shorter n f (omega arith) ∙ ap (λ j. j + 1) (decimal-length k (n / 10) (omega arith) (omega arith) (omega arith)) ∙ omega arith
