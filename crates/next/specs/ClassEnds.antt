-- Classes of equally many offsets: the least and the greatest ones, from one to the next. Assumes nothing.
use Rattle.std.specs.Prelude.{◌≡◌, refl, ◌≢◌, true, false, ℕ, zero, suc, min, ◌+◌, ◌*◌, ◌-◌, ◌/◌, ◌%◌, ◌≤◌, ◌<◌, eqb}
use Rattle.std.proofs.Common.{◌∙◌, mod-lt, arith}
use Rattle.std.proofs.Math.Nat.{div-add-mod, mul-mod_right}
use Rattle.next.specs.Bools.{eqb_no, eqb_yes}
use Rattle.next.specs.Classes.{Place, is_low, is_high}
use Rattle.next.specs.Remainders.{remainder}

-- ---- classes of A offsets each: what lies between the ends of classes
abbrev pub Every : {L : Type 0} → ℕ → Place L → Type 0
Every A p = (k : ℕ) → p.cut k ≡ eqb (k % A) 0

-- a multiple of A that lies above A q lies at A (q + 1) or beyond
between : (A q j : ℕ) → A * q < j → j < A * suc q → j % A ≢ 0
between A q j l u e =
    let r = remainder A j q (j - A * q) (omega arith) (omega arith) in
    omega (arith, e, r)

multiple_yes : (A q : ℕ) → eqb (A * q % A) 0 ≡ true
multiple_yes A q = eqb_yes (A * q % A) 0 (mul-mod_right A q)

-- the next least one after k, and the greatest one before k (k above 0)
abbrev pub next_low : ℕ → ℕ → ℕ
next_low A k = suc (A * ((k + (A - 1)) / A))

abbrev pub last_high : ℕ → ℕ → ℕ
last_high B k = B * ((k - 1) / B)

module _ {L : Type 0} (A : ℕ) (p : Place L) (h : Every A p) (a : 0 < A) where
  pub next_low_lem : (k : ℕ) → is_low p (next_low A k) ≡ true
  next_low_lem k = h (A * ((k + (A - 1)) / A)) ∙ multiple_yes A ((k + (A - 1)) / A)

  pub next_low_above : (k : ℕ) → k < next_low A k
  next_low_above k = let d = div-add-mod (k + (A - 1)) A in let l = mod-lt (k + (A - 1)) a in omega arith

  -- none between
  pub low_gap : (k j : ℕ) → k < j → j < next_low A k → is_low p j ≡ false
  low_gap k zero l u = absurd (omega arith)
  low_gap k (suc i) l u = h i ∙ eqb_no (i % A) 0 (gap ((k + (A - 1)) / A) (div-add-mod (k + (A - 1)) A) (mod-lt (k + (A - 1)) a) u)
    where
      gap : (q : ℕ) → A * q + (k + (A - 1)) % A ≡ k + (A - 1) → (k + (A - 1)) % A < A → suc i < suc (A * q) → i % A ≢ 0
      gap zero d m u = absurd (omega arith)
      gap (suc q) d m u = between A q i (omega arith) (omega arith)

  pub last-high : (k : ℕ) → is_high p (last_high A k) ≡ true
  last-high k = rw (h (last_high A k), multiple_yes A ((k - 1) / A)) refl

  pub last-high-below : (k : ℕ) → 0 < k → last_high A k < k
  last-high-below k l = let d = div-add-mod (k - 1) A in omega arith

  pub high_gap : (k j : ℕ) → k ≤ p.width → last_high A k < j → j < k → is_high p j ≡ false
  high_gap k j w l u =
      let d = div-add-mod (k - 1) A in
      let m = mod-lt (k - 1) a in
      let e : eqb (j % A) 0 ≡ false = eqb_no (j % A) 0 (between A ((k - 1) / A) j l (omega arith)) in
      rw (h j, e) (eqb_no j p.width (λ e. omega arith))

  -- from one greatest one to the next
  pub high_skip : (k j : ℕ) → k < j → j < min p.width (A * suc (k / A)) → is_high p j ≡ false
  high_skip k j l u =
      let d = div-add-mod k A in
      let e : eqb (j % A) 0 ≡ false = eqb_no (j % A) 0 (between A (k / A) j (omega arith) (omega arith)) in
      rw (h j, e) (eqb_no j p.width (λ e. omega arith))
