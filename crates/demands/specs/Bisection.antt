-- Replies that are true find the least value (003, section 6), whatever the values stand for. Assumes nothing.
use Rattle.std.specs.Prelude.{◌≡◌, refl, ◌↔◌, ◌⊎◌, ◌≢◌, Bool, true, false, ℕ, zero, suc, ◌+◌, ◌≤◌, ◌<◌, ◌^◌, eqb, length, get_or, take, ℤ, pos, ◌+ℤ◌, ◌≤ℤ◌, ◌<ℤ◌}
use Rattle.std.proofs.Common.{sym, ap, ◌∙◌, inl, inr, pow-suc, arith, eqb-true}
use mathlib.Core.List.{List, [], ◌∷◌}
use Rattle.std.proofs.lemmas.Bool.{eqb-false}
use Rattle.definitions.specs.Board.{Bounds}
use Rattle.definitions.specs.Result.{Result, done}
use Rattle.definitions.specs.Closing.{Earliest, found, none, unfinished, halfway, narrowed, tells, after}
use Rattle.laws.specs.Whole.{pp, nn, whole, add_law, le_or_lt}
use Rattle.laws.specs.Readings.{same, never}
use Rattle.laws.specs.Halving.{half_law, is_open, is_empty, is_one, stands, tells_open, tells_none, tells_found, narrowed_yes, narrowed_no, after-end, after_one}

-- a reply is a yes or a no
pub yes_or_no : (b : ℕ) → (b ≡ 1) ⊎ (b ≢ 1)
yes_or_no b = go (eqb b 1) refl
  where
    go : (t : Bool) → eqb b 1 ≡ t → (b ≡ 1) ⊎ (b ≢ 1)
    go true e = inl (eqb-true b 1 e)
    go false e = inr (eqb-false b 1 e)

-- ---- which replies are wanted: those to a question that the replies before them leave
pub record Asks (answer : Result Earliest) : Type 0 where
  pub range : Bounds
  pub question : ℤ
  pub is : answer ≡ done (unfinished range question)

abbrev pub Wanted : (List ℕ → Result Earliest) → List ℕ → Type 0
Wanted answer replies = (i : ℕ) → i < length replies → Asks (answer (take i replies))

pub answered-wanted : (e : Earliest) (replies : List ℕ) {a : Earliest} → after e replies ≡ done a → Wanted (after e) replies
unfolding after
answered-wanted e [] d = λ i l. absurd (omega arith)
answered-wanted (found v) (b ∷ bs) d = never d
answered-wanted none (b ∷ bs) d = never d
answered-wanted (unfinished r h) (b ∷ bs) d = go (answered-wanted (tells (narrowed r h b)) bs d)
  where
    go : Wanted (after (tells (narrowed r h b))) bs → Wanted (after (unfinished r h)) (b ∷ bs)
    go w zero l = record { range = r; question = h; is = refl }
    go w (suc i) l = w i (omega arith)

pub wanted-answered : (e : Earliest) (replies : List ℕ) → Wanted (after e) replies → (a : Earliest) × (after e replies ≡ done a)
unfolding after
wanted-answered e [] w = (e, refl)
wanted-answered (found v) (b ∷ bs) w = absurd (let q = (w 0 (omega arith)).is in let z : ◌≡◌ {A = ℕ} 0 1 = cc in omega arith)
wanted-answered none (b ∷ bs) w = absurd (let q = (w 0 (omega arith)).is in let z : ◌≡◌ {A = ℕ} 0 1 = cc in omega arith)
wanted-answered (unfinished r h) (b ∷ bs) w = wanted-answered (tells (narrowed r h b)) bs (λ i l. w (suc i) (omega arith))

-- ---- how many replies end a search
abbrev pub Finished : Earliest → Type 0
Finished (found v) = Unit {0}
Finished none = Unit {0}
Finished (unfinished r h) = ⊥

-- the same of what each reply leads to
abbrev pub Each : (Earliest → Type 0) → Earliest → Type 0
Each P (found v) = Unit {0}
Each P none = Unit {0}
Each P (unfinished r h) = (b : ℕ) → P (tells (narrowed r h b))

-- n replies end it, whatever they are
abbrev pub Ends : ℕ → Earliest → Type 0
Ends zero e = Finished e
Ends (suc n) e = Each (Ends n) e

-- high is less than 2 ^ n above low
abbrev pub Narrow : ℕ → Bounds → Type 0
Narrow n r = pp r.hi + nn r.lo < pp r.lo + nn r.hi + 2 ^ n

-- a reply halves the range
halves : (n : ℕ) (r : Bounds) (b : ℕ) → r.lo <ℤ r.hi → Narrow (suc n) r → Narrow n (narrowed r (halfway r) b)
halves n r b k w = elim (yes_or_no b) [
  | inl e ↦ rw (narrowed_yes r (halfway r) b e) (omega (whole, half_law r, pow-suc 2 n))
  | inr e ↦ rw (narrowed_no r (halfway r) b e) (omega (whole, half_law r, pow-suc 2 n, add_law (halfway r) (pos 1)))
]

tells_ends : (n : ℕ) (r : Bounds) → Narrow n r → Ends n (tells r)
tells_ends zero r w = elim (stands r) [
  | is_open k ↦ absurd (omega whole)
  | is_empty k ↦ rw (tells_none r k) tt
  | is_one k ↦ rw (tells_found r k) tt
]
tells_ends (suc n) r w = elim (stands r) [
  | is_open k ↦ rw (tells_open r k) (λ b. tells_ends n (narrowed r (halfway r) b) (halves n r b k w))
  | is_empty k ↦ rw (tells_none r k) tt
  | is_one k ↦ rw (tells_found r k) tt
]

-- with the first question one more
pub first_ends : (n : ℕ) (r : Bounds) → Narrow n r → Ends (suc n) (unfinished r r.hi)
first_ends n r w b = tells_ends n (narrowed r r.hi b) (elim (yes_or_no b) [
  | inl e ↦ rw (narrowed_yes r r.hi b e) w
  | inr e ↦ rw (narrowed_no r r.hi b e) (omega (whole, add_law r.hi (pos 1)))
])

-- so many replies leave no question
pub no_question : (n : ℕ) (e : Earliest) (replies : List ℕ) → Ends n e → n ≤ length replies → (r : Bounds) (h : ℤ) → after e replies ≡ done (unfinished r h) → ⊥
unfolding after
no_question zero (found v) [] w l r h d = let z : ◌≡◌ {A = ℕ} 0 1 = cc in omega arith
no_question zero none [] w l r h d = let z : ◌≡◌ {A = ℕ} 0 1 = cc in omega arith
no_question zero (unfinished r' h') [] w l r h d = w
no_question (suc n) e [] w l r h d = omega arith
no_question n (found v) (b ∷ bs) w l r h d = never d
no_question n none (b ∷ bs) w l r h d = never d
no_question zero (unfinished r' h') (b ∷ bs) w l r h d = absurd w
no_question (suc n) (unfinished r' h') (b ∷ bs) w l r h d = no_question n (tells (narrowed r' h' b)) bs (w b) (omega arith) r h d

-- ---- ranges only narrow, and each question lies in its range
module _ (whole-range : Bounds) where
  abbrev pub Inside : Earliest → Type 0
  Inside (found v) = (whole-range.lo ≤ℤ v) × (v ≤ℤ whole-range.hi)
  Inside none = Unit {0}
  Inside (unfinished r h) = (whole-range.lo ≤ℤ r.lo) × (r.lo ≤ℤ h) × (h ≤ℤ r.hi) × (r.hi ≤ℤ whole-range.hi)

  tells_inside : (r : Bounds) → whole-range.lo ≤ℤ r.lo → r.hi ≤ℤ whole-range.hi → Inside (tells r)
  tells_inside r l u = elim (stands r) [
    | is_open k ↦ rw (tells_open r k) (l, omega (whole, half_law r), omega (whole, half_law r), u)
    | is_empty k ↦ rw (tells_none r k) tt
    | is_one k ↦ rw (tells_found r k) (l, omega whole)
  ]

  step_inside : (r : Bounds) (h : ℤ) (b : ℕ) → Inside (unfinished r h) → Inside (tells (narrowed r h b))
  step_inside r h b i = elim (yes_or_no b) [
    | inl e ↦ rw (narrowed_yes r h b e) (tells_inside (record { lo = r.lo; hi = h }) i.0 (omega (whole, i.2, i.3)))
    | inr e ↦ rw (narrowed_no r h b e) (tells_inside (record { lo = h +ℤ pos 1; hi = r.hi }) (omega (whole, i.0, i.1, add_law h (pos 1))) i.3)
  ]

  pub after_inside : (e : Earliest) (replies : List ℕ) (a : Earliest) → Inside e → after e replies ≡ done a → Inside a
  unfolding after
  after_inside e [] a i d = rw (sym (same d)) i
  after_inside (unfinished r h) (b ∷ bs) a i d = after_inside (tells (narrowed r h b)) bs a (step_inside r h b i) d
  after_inside (found v) (b ∷ bs) a i d = never d
  after_inside none (b ∷ bs) a i d = never d

-- ---- only a no to the first question ends with 'none': each later one lies below high
abbrev Below : Earliest → Type 0
Below (found v) = Unit {0}
Below none = ⊥
Below (unfinished r h) = (r.lo ≤ℤ h) × (h <ℤ r.hi)

tells-below : (r : Bounds) → r.lo ≤ℤ r.hi → Below (tells r)
tells-below r o = elim (stands r) [
  | is_open k ↦ rw (tells_open r k) (omega (whole, half_law r), omega (whole, half_law r))
  | is_empty k ↦ absurd (omega whole)
  | is_one k ↦ rw (tells_found r k) tt
]

later_none : (e : Earliest) (replies : List ℕ) → Below e → after e replies ≡ done none → ⊥
unfolding after
later_none (found v) [] k d = let z : ◌≡◌ {A = ℕ} 0 1 = cc in omega arith
later_none none [] k d = k
later_none (unfinished r h) [] k d = let z : ◌≡◌ {A = ℕ} 0 1 = cc in omega arith
later_none (found v) (b ∷ bs) k d = never d
later_none none (b ∷ bs) k d = k
later_none (unfinished r h) (b ∷ bs) k d = later_none (tells (narrowed r h b)) bs (elim (yes_or_no b) [
  | inl e ↦ rw (narrowed_yes r h b e) (tells-below (record { lo = r.lo; hi = h }) k.0)
  | inr e ↦ rw (narrowed_no r h b e) (tells-below (record { lo = h +ℤ pos 1; hi = r.hi }) (omega (whole, add_law h (pos 1))))
]) d

-- no reply may follow
pub after_none : (bs : List ℕ) (a : Earliest) → after none bs ≡ done a → (bs ≡ []) × (a ≡ none)
unfolding after
after_none [] a d = (refl, sym (same d))
after_none (b ∷ bs) a d = never d

module _ (r : Bounds) where
  pub first_no : (b : ℕ) (bs : List ℕ) → b ≢ 1 → after (unfinished r r.hi) (b ∷ bs) ≡ after none bs
  first_no b bs n =
      let k : r.hi <ℤ (r.hi +ℤ pos 1) = omega (whole, add_law r.hi (pos 1)) in
      after_one r r.hi b bs ∙ rw (narrowed_no r r.hi b n, tells_none (record { lo = r.hi +ℤ pos 1; hi = r.hi }) k)

  pub none_first : (replies : List ℕ) → r.lo ≤ℤ r.hi → after (unfinished r r.hi) replies ≡ done none → (b : ℕ) × (b ≢ 1) × (replies ≡ b ∷ [])
  none_first [] o d = absurd (let z : ◌≡◌ {A = ℕ} 0 1 = cc (after-end (unfinished r r.hi)) in omega arith)
  none_first (b ∷ bs) o d = elim (yes_or_no b) [
    | inl e ↦ absurd (later_none (tells r) bs (tells-below r o) (ap (λ r. after (tells r) bs) (sym (narrowed_yes r r.hi b e)) ∙ sym (after_one r r.hi b bs) ∙ d))
    | inr n ↦ (b, n, ap (λ l. b ∷ l) (after_none bs none (sym (first_no b bs n) ∙ d)).0)
  ]

-- ---- what true replies tell; S says which values are met
module _ (S : ℤ → Type 0) where
  pub record AtMost (h : ℤ) : Type 0 where
    pub met : ℤ
    pub is_met : S met
    pub most : met ≤ℤ h

  -- no value is below the range; and one is not above it, or none is, where only the first question is put
  pub record Holds (r : Bounds) (h : ℤ) : Type 0 where
    pub least : (v : ℤ) → S v → r.lo ≤ℤ v
    pub most : AtMost r.hi ⊎ ((h ≡ r.hi) × ((v : ℤ) → S v → v ≤ℤ r.hi))

  pub record Least (v : ℤ) : Type 0 where
    pub is_met : S v
    pub least : (w : ℤ) → S w → v ≤ℤ w

  abbrev pub Tells : Earliest → Type 0
  Tells (found v) = Least v
  Tells none = (v : ℤ) → S v → ⊥
  Tells (unfinished r h) = Holds r h

  at_the_end : (r : Bounds) → AtMost r.hi → ((v : ℤ) → S v → r.lo ≤ℤ v) → r.lo ≡ r.hi → Least r.lo
  at_the_end r a least k =
      let e : a.met ≡ r.lo = (let l = least a.met a.is_met in omega (whole, a.most)) in
      record { is_met = rw e at a.is_met; least = least }

  after_yes : (r : Bounds) (h : ℤ) → r.lo ≤ℤ h → Holds r h → AtMost h → Tells (tells (record { lo = r.lo; hi = h }))
  after_yes r h l k a =
      let r' : Bounds = record { lo = r.lo; hi = h } in
      elim (stands r') [
        | is_open o ↦ rw (tells_open r' o) (record { least = k.least; most = inl a })
        | is_empty o ↦ absurd (omega whole)
        | is_one o ↦ rw (tells_found r' o) (at_the_end r' a k.least o)
      ]

  after_no : (r : Bounds) (h : ℤ) → h ≤ℤ r.hi → Holds r h → ¬ AtMost h → Tells (tells (record { lo = h +ℤ pos 1; hi = r.hi }))
  after_no r h u k n =
      let r' : Bounds = record { lo = h +ℤ pos 1; hi = r.hi } in
      let least : (v : ℤ) → S v → (h +ℤ pos 1) ≤ℤ v = λ v s. elim (le_or_lt v h) [
        | inl l ↦ absurd (n (record { met = v; is_met = s; most = l }))
        | inr l ↦ omega (whole, add_law h (pos 1))
      ] in
      elim (stands r') [
        | is_open o ↦ rw (tells_open r' o) (record { least = least; most = inl (some r h k (omega (whole, add_law h (pos 1)))) })
        | is_empty o ↦ rw (tells_none r' o) (λ v s. elim k.most [
          | inl a ↦ (let l = least a.met a.is_met in omega (whole, a.most))
          | inr z ↦ (let l = least v s in let m = z.1 v s in omega whole)
        ])
        | is_one o ↦ rw (tells_found r' o) (at_the_end r' (some r h k (omega (whole, add_law h (pos 1)))) least o)
      ]
    where
      some : (r : Bounds) (h : ℤ) → Holds r h → h <ℤ r.hi → AtMost r.hi
      some r h k l = elim k.most [
        | inl a ↦ a
        | inr z ↦ absurd (let e = z.0 in omega whole)
      ]

  -- each reply is yes exactly where its question is true: the question that is next after the replies before it
  pub record True (answer : List ℕ → Result Earliest) (replies : List ℕ) : Type 0 where
    pub each : (i : ℕ) → i < length replies → (r : Bounds) (h : ℤ) → answer (take i replies) ≡ done (unfinished r h) → (get_or replies i 0 ≡ 1) ↔ AtMost h

  step-tells : (r : Bounds) (h : ℤ) (b : ℕ) → r.lo ≤ℤ h → h ≤ℤ r.hi → Holds r h → (b ≡ 1) ↔ AtMost h → Tells (tells (narrowed r h b))
  step-tells r h b l u k t = elim (yes_or_no b) [
    | inl e ↦ rw (narrowed_yes r h b e) (after_yes r h l k (t.0 e))
    | inr e ↦ rw (narrowed_no r h b e) (after_no r h u k (λ a. e (t.1 a)))
  ]

  module _ (whole-range : Bounds) where
    pub after-tells : (e : Earliest) (replies : List ℕ) (a : Earliest) → Inside whole-range e → Tells e → True (after e) replies → after e replies ≡ done a → Tells a
    unfolding after
    after-tells e [] a i k t d = rw (sym (same d)) k
    after-tells (unfinished r h) (b ∷ bs) a i k t d =
        after-tells (tells (narrowed r h b)) bs a (step_inside whole-range r h b i)
        (step-tells r h b i.1 i.2 k (t.each 0 (omega arith) r h refl))
        (record { each = λ j l r' q e. t.each (suc j) (omega arith) r' q e })
        d
    after-tells (found v) (b ∷ bs) a i k t d = never d
    after-tells none (b ∷ bs) a i k t d = never d
