-- Places whose offsets fall into classes of equal literals: which tuples are the first of their classes, and which clauses a sum gives. Assumes nothing.
use Rattle.std.proofs.Math.Path.{◌≡◌, refl, sym, ap}
use Rattle.std.proofs.Common.{◌∙◌, subst, inl, inr, eqb→eq}
use Rattle.std.specs.Prelude.{◌⊎◌, ◌≢◌, Bool, ◌||◌, T, eqb, if◌then◌else◌}
use Rattle.std.proofs.Math.Bool.{true, false}
use mathlib.Core.List.{List, [], ◌∷◌, ◌++◌, map, flatten}
use Prim.Native.Nat.{ℕ, zero, suc, min, ◌+◌, ◌-◌, ◌≤◌, ◌<◌}
use Rattle.std.proofs.Math.Decide.{dec_le}
use native.Mathlib.Omega.{arith}
use Rattle.definitions.specs.Tools.{Any}
use Rattle.laws.specs.Runs.{over, over-more, over-same, map-over}
use Rattle.laws.specs.Offsets.{offsets}
use Rattle.laws.specs.Some.{any_left, any_right}

-- offsets from 0 to the width; a class ends at k where `cut k`; the literal at an offset
pub record Place (L : Type 0) : Type 0 where
  pub width : ℕ
  pub cut : ℕ → Bool
  pub lit : ℕ → L

-- the least and the greatest of a class
abbrev pub is_low : {L : Type 0} → Place L → ℕ → Bool
is_low p zero = true
is_low p (suc k) = p.cut k

abbrev pub is_high : {L : Type 0} → Place L → ℕ → Bool
is_high p k = p.cut k || eqb k p.width

abbrev pub widths_of : {L : Type 0} → List (Place L) → List ℕ
widths_of ps = map (λ p. p.width) ps

-- the tuples with a given sum that are the first of their classes: all places before one are at the least of their class, all after
-- it at the greatest. `fresh` is said where all places so far were at the least
unfoldable pub pick : {L : Type 0} → Bool → List (Place L) → ℕ → List (List ℕ)
pick fresh [] t = offsets [] t
pick true (p ∷ ps) t = over (λ k. map (λ ks. k ∷ ks) (pick (is_low p k) ps (t - k))) 0 (suc (min p.width t))
pick false (p ∷ ps) t = over (λ k. if is_high p k then map (λ ks. k ∷ ks) (pick false ps (t - k)) else []) 0 (suc (min p.width t))

-- the literals at a tuple
abbrev pub literals_at : {L : Type 0} → List (Place L) → List ℕ → List L
literals_at [] ks = []
literals_at (p ∷ ps) [] = []
literals_at (p ∷ ps) (k ∷ ks) = p.lit k ∷ literals_at ps ks

-- the clauses of all tuples
abbrev pub all_clauses : {L : Type 0} → List (Place L) → ℕ → List (List L)
all_clauses ps t = map (literals_at ps) (offsets (widths_of ps) t)

-- literals are equal exactly within a class
pub record Parted {L : Type 0} (p : Place L) : Type 0 where
  pub flat : (k : ℕ) → k < p.width → p.cut k ≡ false → p.lit (suc k) ≡ p.lit k
  pub jump : (k j k' : ℕ) → k ≤ j → j < k' → k' ≤ p.width → p.cut j ≡ true → p.lit k ≢ p.lit k'

-- ---- how far an offset is above the least of its class
unfoldable pub over_low : {L : Type 0} → Place L → ℕ → ℕ
over_low p zero = 0
over_low p (suc k) = if p.cut k then 0 else suc (over_low p k)

module _ {L : Type 0} (p : Place L) (h : Parted p) where
  pub over_low-most : (k : ℕ) → over_low p k ≤ k
  unfolding over_low
  over_low-most zero = omega arith
  over_low-most (suc k) = go (p.cut k) (over_low-most k)
    where
      go : (b : Bool) → over_low p k ≤ k → (if b then 0 else suc (over_low p k)) ≤ suc k
      go true r = omega arith
      go false r = omega arith

  pub near : (k i : ℕ) → k ≤ p.width → i ≤ over_low p k → p.lit (k - i) ≡ p.lit k
  unfolding over_low
  near zero i w l = let e : 0 - i ≡ 0 = omega arith in ap p.lit e
  near (suc k) i w l = go (p.cut k) refl i l (near k)
    where
      go : (b : Bool) → p.cut k ≡ b → (i : ℕ) → i ≤ (if b then 0 else suc (over_low p k)) → ((j : ℕ) → k ≤ p.width → j ≤ over_low p k → p.lit (k - j) ≡ p.lit k)
          → p.lit (suc k - i) ≡ p.lit (suc k)
      go true e i l r = let q : suc k - i ≡ suc k = omega arith in ap p.lit q
      go false e zero l r = let q : suc k - 0 ≡ suc k = omega arith in ap p.lit q
      go false e (suc j) l r = let q : suc k - suc j ≡ k - j = omega arith in ap p.lit q ∙ (r j (omega arith) (omega arith) ∙ sym (h.flat k (omega arith) e))

  pub far : (k k' : ℕ) → k ≤ p.width → k' + over_low p k < k → p.lit k' ≢ p.lit k
  unfolding over_low
  far zero k' w l = absurd (omega arith)
  far (suc k) k' w l = go (p.cut k) refl l (far k k')
    where
      go : (b : Bool) → p.cut k ≡ b → k' + (if b then 0 else suc (over_low p k)) < suc k → (k ≤ p.width → k' + over_low p k < k → p.lit k' ≢ p.lit k) → p.lit k' ≢ p.lit (suc k)
      go true e l r = h.jump k' k (suc k) (omega arith) (omega arith) w e
      go false e l r = λ q. r (omega arith) (omega arith) (q ∙ h.flat k (omega arith) e)

  -- past the greatest of a class
  pub past : (k k' : ℕ) → is_high p k ≡ true → k < k' → k' ≤ p.width → p.lit k ≢ p.lit k'
  past k k' e l w = go (p.cut k) refl e
    where
      go : (b : Bool) → p.cut k ≡ b → (b || eqb k p.width) ≡ true → p.lit k ≢ p.lit k'
      go true q e = h.jump k k k' (omega arith) l w q
      go false q e = absurd (let z = eqb→eq k p.width (subst T (sym e) tt) in omega arith)

-- ---- clauses met by a sum
abbrev pub Meets : {L : Type 0} → List (Place L) → ℕ → List L → Type 0
Meets [] r [] = r ≡ 0
Meets [] r (l ∷ d) = ⊥
Meets (p ∷ ps) r [] = ⊥
Meets (p ∷ ps) r (l ∷ d) = (k : ℕ) × (r' : ℕ) × (k ≤ p.width) × (r ≡ k + r') × (l ≡ p.lit k) × Meets ps r' d

-- some entry of a run
any-over : {A : Type 0} (P : A → Type 0) (f : ℕ → List A) (b n k : ℕ) → b ≤ k → k < b + n → Any P (f k) → Any P (over f b n)
any-over P f b zero k l u a = absurd (omega arith)
any-over P f b (suc n) k l u a =
    rw (over-more f b n) (elim (dec_le (suc b) k) [
      | yes h ↦ any_right P (f b) (over f (suc b) n) (any-over P f (suc b) n k h (omega arith) a)
      | no h ↦ any_left P (f b) (over f (suc b) n) (subst (λ j. Any P (f j)) (same k b l h) a)
    ])
  where
    same : (k b : ℕ) → b ≤ k → ¬ (suc b ≤ k) → k ≡ b
    same k b l h = omega arith

append-any : {A : Type 0} (P : A → Type 0) (s t : List A) → Any P (s ++ t) → Any P s ⊎ Any P t
append-any P [] t a = inr a
append-any P (x ∷ s) t (inl h) = inl (inl h)
append-any P (x ∷ s) t (inr h) = elim (append-any P s t h) [ inl k ↦ inl (inr k) | inr k ↦ inr k ]

over_any : {A : Type 0} (P : A → Type 0) (f : ℕ → List A) (b n : ℕ) → Any P (over f b n) → (k : ℕ) × (b ≤ k) × (k < b + n) × Any P (f k)
unfolding over flatten
over_any P f b zero a = absurd a
over_any P f b (suc n) a =
    elim (append-any P (f b) (over f (suc b) n) a) [
      | inl h ↦ (b, omega arith, omega arith, h)
      | inr h ↦ (let r = over_any P f (suc b) n h in (r.0, omega arith, omega arith, r.3))
    ]

module _ {L : Type 0} where
  -- one place more
  abbrev pub led : L → List (List L) → List (List L)
  led l ds = map (λ d. l ∷ d) ds

  pub literals-led : (p : Place L) (ps : List (Place L)) (k : ℕ) (kss : List (List ℕ)) → map (literals_at (p ∷ ps)) (map (λ ks. k ∷ ks) kss) ≡ led (p.lit k) (map (literals_at ps) kss)
  literals-led p ps k [] = refl
  literals-led p ps k (ks ∷ kss) = ap (λ z. (p.lit k ∷ literals_at ps ks) ∷ z) (literals-led p ps k kss)

  pub all_more : (p : Place L) (ps : List (Place L)) (t : ℕ) → all_clauses (p ∷ ps) t ≡ over (λ k. led (p.lit k) (all_clauses ps (t - k))) 0 (suc (min p.width t))
  unfolding offsets
  all_more p ps t =
      map-over (literals_at (p ∷ ps)) (λ k. map (λ ks. k ∷ ks) (offsets (widths_of ps) (t - k))) 0 (suc (min p.width t))
      ∙ over-same _ _ 0 (suc (min p.width t)) (λ k l u. literals-led p ps k (offsets (widths_of ps) (t - k)))

  pub led_in_lem : (l : L) (d : List L) (ds : List (List L)) → Any (λ e. e ≡ d) ds → Any (λ e. e ≡ (l ∷ d)) (led l ds)
  led_in_lem l d [] a = elim a [ ]
  led_in_lem l d (x ∷ ds) (inl e) = inl (ap (λ z. l ∷ z) e)
  led_in_lem l d (x ∷ ds) (inr a) = inr (led_in_lem l d ds a)

  pub led_out : (l m : L) (d : List L) (ds : List (List L)) → Any (λ e. e ≡ (m ∷ d)) (led l ds) → (m ≡ l) × Any (λ e. e ≡ d) ds
  led_out l m d [] a = elim a [ ]
  led_out l m d (x ∷ ds) (inl e) = (cc, inl (cc))
  led_out l m d (x ∷ ds) (inr a) = let r = led_out l m d ds a in (r.0, inr r.1)

  pub led_none : (l : L) (ds : List (List L)) → Any (λ e. e ≡ []) (led l ds) → ⊥
  led_none l [] a = elim a [ ]
  led_none l (x ∷ ds) (inl e) = let z : ◌≡◌ {A = ℕ} 1 0 = bad e in omega arith
    where
      bad : (l ∷ x) ≡ [] → ◌≡◌ {A = ℕ} 1 0
      bad e = cc
  led_none l (x ∷ ds) (inr a) = led_none l ds a

  pub in_meets : (ps : List (Place L)) (r : ℕ) (d : List L) → Any (λ e. e ≡ d) (all_clauses ps r) → Meets ps r d
  unfolding offsets
  in_meets [] zero [] a = refl
  in_meets [] zero (l ∷ d) (inl e) = let z : ◌≡◌ {A = ℕ} 1 0 = cc in omega arith
  in_meets [] zero (l ∷ d) (inr a) = a
  in_meets [] (suc r) d a = absurd a
  in_meets (p ∷ ps) r d a = go d (over_any (λ e. e ≡ d) (λ k. led (p.lit k) (all_clauses ps (r - k))) 0 (suc (min p.width r)) (rw (all_more p ps r) at a)) (in_meets ps)
    where
      go : (d : List L) → (k : ℕ) × (0 ≤ k) × (k < 0 + suc (min p.width r)) × Any (λ e. e ≡ d) (led (p.lit k) (all_clauses ps (r - k)))
          → ((r' : ℕ) (d : List L) → Any (λ e. e ≡ d) (all_clauses ps r') → Meets ps r' d) → Meets (p ∷ ps) r d
      go [] f ih = led_none (p.lit f.0) (all_clauses ps (r - f.0)) f.3
      go (l ∷ d) f ih =
          let k = f.0 in
          let b = f.2 in
          let o = led_out (p.lit k) l d (all_clauses ps (r - k)) f.3 in
          (k, r - k, omega arith, omega arith, o.0, ih (r - k) d o.1)

  pub meets_in : (ps : List (Place L)) (r : ℕ) (d : List L) → Meets ps r d → Any (λ e. e ≡ d) (all_clauses ps r)
  unfolding offsets
  meets_in [] r [] m = rw m (inl refl)
  meets_in [] r (l ∷ d) m = absurd m
  meets_in (p ∷ ps) r [] m = absurd m
  meets_in (p ∷ ps) r (l ∷ d) m =
      let k = m.0 in
      let w = m.2 in
      let e = m.3 in
      let q : m.1 ≡ r - m.0 = omega arith in
      rw (all_more p ps r)
      (any-over (λ e. e ≡ (l ∷ d)) (λ k. led (p.lit k) (all_clauses ps (r - k))) 0 (suc (min p.width r)) k (omega arith) (omega arith)
      (rw m.4 (led_in_lem (p.lit k) d (all_clauses ps (r - k)) (subst (λ r'. Any (λ e. e ≡ d) (all_clauses ps r')) q (meets_in ps m.1 d m.5)))))
