-- Laws of reading byte by byte: one part after another, and a number's digits. Assumes nothing.
use Rattle.std.specs.Prelude.{◌≡◌, refl, ◌⊎◌, Bool, true, false, ◌&&◌, List, [], ◌∷◌, ◌++◌, ℕ, zero, suc, ◌+◌, ◌*◌, ◌-◌, ◌/◌, ◌%◌, ◌^◌, ◌≤◌, ◌<◌, ltb, leb, eqb, length, ℤ, pos, negsuc, nat_abs}
use Rattle.std.proofs.Common.{sym, ap, ◌∙◌, inl, inr, add-zero, arith, lt-ltb, le-leb, ne_eqb, eq-eqb, ltb-true, ltb-false, leb-false}
use Rattle.std.proofs.lemmas.Bool.{lt-leb}
use Rattle.definitions.specs.Result.{Result, ◌>>=◌, ◌>>◌, need, done, refused}
use Rattle.definitions.specs.Dimacs.{decimal}
use Rattle.laws.specs.Decimals.{decimal-one, decimal-more}
use Rattle.definitions.specs.Texts.{numeral, blank, zeros, most}
use Rattle.definitions.specs.TextReading.{digit, Number, begun, Count, Kind, text, reply, State, count, count_on, at_number, in_number, awaits, starts, beyond, step, fed}

pub cases : (b : Bool) → (b ≡ true) ⊎ (b ≡ false)
cases true = inl refl
cases false = inr refl

-- ---- one part after another
pub fed-append : (t u : List ℕ) (s : State) (at : ℕ) → fed s at (t ++ u) ≡ (fed s at t >>= λ s'. fed s' (at + length t) u)
fed-append [] u s at = ap (λ k. fed s k u) (sym (add-zero at))
fed-append (b ∷ t) u s at =
    let e : suc at + length t ≡ at + suc (length t) = omega arith in
    go (step s at b) (λ s'. fed-append t u s' (suc at) ∙ ap (λ k. fed s' (suc at) t >>= λ s'. fed s' k u) e)
  where
    go : (m : Result State) → ((s' : State) → fed s' (suc at) (t ++ u) ≡ (fed s' (suc at) t >>= λ s'. fed s' (at + suc (length t)) u))
        → (m >>= λ s'. fed s' (suc at) (t ++ u)) ≡ ((m >>= λ s'. fed s' (suc at) t) >>= λ s'. fed s' (at + suc (length t)) u)
    go (done s') k = k s'
    go (refused n d) k = refl

pub fed-on : (t u : List ℕ) (s : State) (at : ℕ) {s' : State} {r : Result State} → fed s at t ≡ done s' → fed s' (at + length t) u ≡ r → fed s at (t ++ u) ≡ r
fed-on t u s at e f = fed-append t u s at ∙ ap (λ m. m >>= λ s'. fed s' (at + length t) u) e ∙ f

pub fed-one : (s : State) (at b : ℕ) → fed s at (b ∷ []) ≡ step s at b
fed-one s at b = go (step s at b)
  where
    go : (m : Result State) → (m >>= λ s'. fed s' (suc at) []) ≡ m
    go (done s') = refl
    go (refused n d) = refl

-- the bytes that are awaited
pub fed-awaits : (w : List ℕ) (s : State) (at : ℕ) → fed (awaits w s) at w ≡ done s
fed-awaits [] s at = refl
fed-awaits (c ∷ cs) s at = rw (eq-eqb c c refl) (fed-awaits cs s (suc at))

-- ---- digits
module _ (d : ℕ) (h : d < 10) where
  pub is_digit : digit (48 + d) ≡ true
  is_digit = rw (le-leb 48 (48 + d) (omega arith), le-leb (48 + d) 57 (omega arith))

  pub not-blank : blank (48 + d) ≡ false
  not-blank = rw (ne_eqb (48 + d) 32 (λ e. omega arith), ne_eqb (48 + d) 10 (λ e. omega arith))

  pub not_minus : eqb (48 + d) 45 ≡ false
  not_minus = ne_eqb (48 + d) 45 (λ e. omega arith)

  pub digit_worth : (48 + d) - 48 ≡ d
  digit_worth = omega arith

-- ---- a count
pub count-fed : (c : Count) (at f v : ℕ) → v ≤ f → v ≤ most → fed (count c) at (decimal v) ≡ done (count_on c v)
count-fed c at zero v l m = let h : v < 10 = omega arith in rw (decimal-one v h, is_digit v h, digit_worth v h)
count-fed c at (suc f) v l m = elim (cases (ltb v 10)) [
  | inl e ↦ (let h = ltb-true v 10 e in rw (decimal-one v h, is_digit v h, digit_worth v h))
  | inr e ↦ (let h = ltb-false v 10 e in
      let q : 10 * (v / 10) + ((48 + v % 10) - 48) ≡ v = omega arith in
      ap (fed (count c) at) (decimal-more v (omega arith) h)
      ∙ fed-on (decimal (v / 10)) ((48 + v % 10) ∷ []) (count c) at (count-fed c at f (v / 10) (omega arith) (omega arith))
      (rw (lt-ltb 0 (v / 10) (omega arith), is_digit (v % 10) (omega arith), q, le-leb v most m)))
]

-- ---- a number
abbrev pub num : ℕ → Bool → ℕ → Number
num start minus size = record { start = start; minus = minus; size = size }

-- whether one more number may begin
abbrev pub free : Kind → List ℤ → Bool
free (text N M) ns = ltb (zeros ns) M
free (reply N) ns = true

module _ (k : Kind) (ns : List ℤ) (start : ℕ) (minus more : Bool) where
  -- the digits of v have been read, or are beyond N
  abbrev pub spelled : ℕ → Result State
  spelled v = need 18 start (more && leb v (beyond k)) >> done (in_number k ns (num start minus v))

  grows : (p : Number) (t : Bool) → (((need 18 start t >> done p) >>= λ q. done (in_number k ns q)) >>= λ s. done s) ≡ (need 18 start t >> done (in_number k ns p))
  grows p true = refl
  grows p false = refl

  digit-more : (v d at : ℕ) → 1 ≤ v → d < 10 → (spelled v >>= λ s. fed s at ((48 + d) ∷ [])) ≡ spelled (10 * v + d)
  digit-more v d at l h = go more (leb v (beyond k)) refl
    where
      go : (g t : Bool) → leb v (beyond k) ≡ t
          → ((need 18 start (g && t) >> done (in_number k ns (num start minus v))) >>= λ s. fed s at ((48 + d) ∷ []))
          ≡ (need 18 start (g && leb (10 * v + d) (beyond k)) >> done (in_number k ns (num start minus (10 * v + d))))
      go false t e = refl
      go true false e = rw (lt-leb (10 * v + d) (beyond k) (omega (arith, leb-false v (beyond k) e)))
      go true true e = rw (not-blank d h, is_digit d h, lt-ltb 0 v l, digit_worth d h) (grows (num start minus (10 * v + d)) (leb (10 * v + d) (beyond k)))

  digits-fed : (s : State) (at : ℕ) → ((d : ℕ) → 1 ≤ d → d < 10 → fed s at ((48 + d) ∷ []) ≡ spelled d)
      → (f v : ℕ) → v ≤ f → 1 ≤ v → v < 2 ^ 64 → fed s at (decimal v) ≡ spelled v
  digits-fed s at one zero v l p m = absurd (omega arith)
  digits-fed s at one (suc f) v l p m = elim (cases (ltb v 10)) [
    | inl e ↦ (let h = ltb-true v 10 e in rw (decimal-one v h) (one v p h))
    | inr e ↦ (let h = ltb-false v 10 e in
        let q : 10 * (v / 10) + v % 10 ≡ v = omega arith in
        let on : ℕ = at + length (decimal (v / 10)) in
        ap (fed s at) (decimal-more v m h)
        ∙ fed-append (decimal (v / 10)) ((48 + v % 10) ∷ []) s at
        ∙ ap (λ r. r >>= λ s'. fed s' on ((48 + v % 10) ∷ [])) (digits-fed s at one f (v / 10) (omega arith) (omega arith) (omega arith))
        ∙ digit-more (v / 10) (v % 10) on (omega arith) (omega arith)
        ∙ ap spelled q)
  ]

abbrev pub negative : ℤ → Bool
negative (pos v) = false
negative (negsuc v) = true

module _ (k : Kind) (ns : List ℤ) (at : ℕ) where
  begins : (b : ℕ) → blank b ≡ false → step (at_number k ns) at b ≡ (need 18 at (free k ns) >> (begun (beyond k) at b >>= λ p. done (in_number k ns p)))
  begins b e = go k
    where
      go : (k : Kind) → starts k ns at b ≡ (need 18 at (free k ns) >> (begun (beyond k) at b >>= λ p. done (in_number k ns p)))
      go (text N M) = rw e
      go (reply N) = refl

  both_needed : (g t : Bool) (p : Number) → (need 18 at g >> ((need 18 at t >> done p) >>= λ p. done (in_number k ns p))) ≡ (need 18 at (g && t) >> done (in_number k ns p))
  both_needed false t p = refl
  both_needed true false p = refl
  both_needed true true p = refl

  first-digit : (d : ℕ) → d < 10 → fed (at_number k ns) at ((48 + d) ∷ []) ≡ spelled k ns at false (free k ns) d
  first-digit d h =
      fed-one (at_number k ns) at (48 + d)
      ∙ begins (48 + d) (not-blank d h)
      ∙ rw (not_minus d h, is_digit d h, digit_worth d h) (both_needed (free k ns) (leb d (beyond k)) (num at false d))

  after_minus : (d : ℕ) → 1 ≤ d → d < 10 → fed (in_number k ns (num at true 0)) (suc at) ((48 + d) ∷ []) ≡ spelled k ns at true true d
  after_minus d l h =
      let e : 10 * 0 + ((48 + d) - 48) ≡ d = omega arith in
      rw (not-blank d h, is_digit d h, lt-ltb 48 (48 + d) (omega arith), e) (grows k ns at true true (num at true d) (leb d (beyond k)))

  -- a number where one may begin: read, or refused at its first byte
  pub numeral-fed : (x : ℤ) → nat_abs x < 2 ^ 64 → fed (at_number k ns) at (numeral x) ≡ spelled k ns at (negative x) (free k ns) (nat_abs x)
  numeral-fed (pos zero) m = rw (decimal-one 0 (omega arith)) (first-digit 0 (omega arith))
  numeral-fed (pos (suc v)) m = digits-fed k ns at false (free k ns) (at_number k ns) at (λ d l h. first-digit d h) (suc v) (suc v) (omega arith) (omega arith) m
  numeral-fed (negsuc v) m = ap (λ m. m >>= λ s'. fed s' (suc at) (decimal (suc v))) (begins 45 refl) ∙ go (free k ns) (leb 1 (beyond k)) refl
    where
      go : (g t : Bool) → leb 1 (beyond k) ≡ t
          → ((need 18 at g >> ((need 18 at t >> done (num at true 0)) >>= λ p. done (in_number k ns p))) >>= λ s'. fed s' (suc at) (decimal (suc v)))
          ≡ spelled k ns at true g (suc v)
      go false t e = refl
      go true false e = rw (lt-leb (suc v) (beyond k) (omega (arith, leb-false 1 (beyond k) e)))
      go true true e = digits-fed k ns at true true (in_number k ns (num at true 0)) (suc at) after_minus (suc v) (suc v) (omega arith) (omega arith) m
