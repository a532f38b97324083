-- 19 is the least variable missing or present twice, and the model has exactly the reply's literals (02, P2). Assumes nothing.
use Rattle.std.specs.Prelude.{◌≡◌, refl, ◌⊎◌, ◌↔◌, ◌≢◌, Bool, true, false, List, [], ◌∷◌, map, ℕ, zero, suc, ◌+◌, ◌-◌, ◌≤◌, ◌<◌, ltb, eqb, length, get_or, ℤ, pos, negsuc, nat_abs, if◌then◌else◌}
use Rattle.std.proofs.Common.{sym, ap, ◌∙◌, inl, inr, arith}
use borrow.Author.Tests.{eq-eqb, ne_eqb, eqb-true, eqb-false, ltb-true, ltb-false}
use Rattle.std.proofs.lemmas.List.{length-map}
use Rattle.definitions.specs.Tools.{Any, count_up, any, eq_z}
use Rattle.definitions.specs.Result.{each, done, refused}
use Rattle.definitions.specs.Operations.{◌leaves◌}
use Rattle.laws.specs.Lists.{counted-at, length-count_up}
use Rattle.laws.specs.Decide.{Decides}
use Rattle.laws.specs.Some.{some}
use Rattle.laws.specs.Reads.{equals_z}
use Rattle.demands.specs.Flat.{TrueIn}
use Rattle.definitions.specs.Texts.{GoodReply, no_model}
use Rattle.definitions.specs.TextReading.{model, unsatisfiable, read_reply}
use Rattle.definitions.specs.TextOperations.{often, model_of, read_reply_outcome}
use Rattle.laws.specs.Stepping.{cases}
use Rattle.demands.specs.Reached.{wide}
use Rattle.demands.specs.GoodReplies.{a_good_reply_is_read}

-- ---- the first of some numbers that fails a test
pub record First (f : ℕ → Bool) (i n d : ℕ) : Type 0 where
  pub from : i ≤ d
  pub below : d < i + n
  pub fails : f d ≡ false
  pub least : (v : ℕ) → i ≤ v → v < d → f v ≡ true

abbrev Every : (ℕ → Bool) → ℕ → ℕ → Type 0
Every f i n = (v : ℕ) → i ≤ v → v < i + n → f v ≡ true

above : (i v : ℕ) → (i ≡ v) ⊎ (suc i ≤ v) ⊎ (v < i)
above i v = elim (cases (eqb i v)) [
  | inl e ↦ inl (eqb-true i v e)
  | inr e ↦ inr (elim (cases (ltb i v)) [ inl l ↦ inl (ltb-true i v l) | inr l ↦ (let m = ltb-false i v l in let n = eqb-false i v e in inr (omega arith)) ])
]

module _ (f : ℕ → Bool) where
  pub every_passes : (i n : ℕ) → Every f i n → each 19 i (map f (count_up i n)) ≡ done tt
  every_passes i zero h = refl
  every_passes i (suc n) h = rw (h i (omega arith) (omega arith)) (every_passes (suc i) n (λ v l m. h v (omega arith) (omega arith)))

  first_refused : (i n d : ℕ) → First f i n d → each 19 i (map f (count_up i n)) ≡ refused 19 d
  first_refused i zero d h = absurd (omega (arith, h.from, h.below))
  first_refused i (suc n) d h = elim (above i d) [
    | inl e ↦ rw (ap f e ∙ h.fails) (ap (refused 19) e)
    | inr e ↦ elim e [
      | inl l ↦ rw (h.least i (omega arith) (omega arith))
          (first_refused (suc i) n d (record { from = l; below = omega (arith, h.below); fails = h.fails; least = λ v k m. h.least v (omega arith) m }))
      | inr l ↦ absurd (omega (arith, h.from))
    ]
  ]

  every_or_first : (i n : ℕ) → Every f i n ⊎ ((d : ℕ) × First f i n d)
  every_or_first i zero = inl (λ v l m. absurd (omega arith))
  every_or_first i (suc n) = elim (cases (f i)) [
    | inr e ↦ inr (i, record { from = omega arith; below = omega arith; fails = e; least = λ v l m. absurd (omega arith) })
    | inl e ↦ elim (every_or_first (suc i) n) [
      | inl h ↦ inl (λ v l m. with_first e v l (λ k. h v k (omega arith)))
      | inr h ↦ (let q = h.1 in
          inr (h.0, record { from = omega (arith, q.from); below = omega (arith, q.below); fails = q.fails; least = λ v l m. with_first e v l (λ k. q.least v k m) }))
    ]
  ]
    where
      with_first : f i ≡ true → (v : ℕ) → i ≤ v → (suc i ≤ v → f v ≡ true) → f v ≡ true
      with_first e v l k = elim (above i v) [ inl z ↦ ap f (sym z) ∙ e | inr z ↦ elim z [ inl y ↦ k y | inr y ↦ absurd (omega arith) ] ]

-- ---- 19
-- d is the least of 1..N that is missing or present more than once, with either sign
pub record LeastNotOnce (N : ℕ) (ns : List ℤ) (d : ℕ) : Type 0 where
  pub from : 1 ≤ d
  pub below : d ≤ N
  pub not-once : often d ns ≢ 1
  pub least : (v : ℕ) → 1 ≤ v → v < d → often v ns ≡ 1

abbrev pub AllOnce : ℕ → List ℤ → Type 0
AllOnce N ns = (v : ℕ) → 1 ≤ v → v ≤ N → often v ns ≡ 1

module _ (N : ℕ) (ns : List ℤ) where
  abbrev once : ℕ → Bool
  once v = eqb (often v ns) 1

  all_pass : AllOnce N ns → each 19 1 (map once (count_up 1 N)) ≡ done tt
  all_pass a = every_passes once 1 N (λ v l m. eq-eqb (often v ns) 1 (a v l (omega arith)))

  least_refused : (d : ℕ) → LeastNotOnce N ns d → each 19 1 (map once (count_up 1 N)) ≡ refused 19 d
  least_refused d q =
      first_refused once 1 N d (record { from = q.from; below = omega (arith, q.below); fails = ne_eqb (often d ns) 1 q.not-once; least = λ v l m. eq-eqb (often v ns) 1 (q.least v l m) })

  pub all_once_or_one_is_least : AllOnce N ns ⊎ ((d : ℕ) × LeastNotOnce N ns d)
  all_once_or_one_is_least = elim (every_or_first once 1 N) [
    | inl h ↦ inl (λ v l m. eqb-true (often v ns) 1 (h v l (omega arith)))
    | inr h ↦ (let q = h.1 in
        let d = h.0 in
        inr (d, record { from = q.from; below = omega (arith, q.below); not-once = eqb-false (often d ns) 1 q.fails; least = λ v l m. eqb-true (often v ns) 1 (q.least v l m) }))
  ]

-- ---- what the reader of a reply answers and leaves; where the reply is not good it is refused with 18
module _ (N : ℕ) (small : N ≤ wide) (t lent : List ℕ) where
  pub none_is_none : t ≡ no_model → read_reply_outcome N t lent ≡ (done false leaves lent)
  unfolding read_reply_outcome
  none_is_none e = rw (a_good_reply_is_read N small t unsatisfiable e)

  module _ (ns : List ℤ) (g : GoodReply N ns t) where
    read : read_reply N t ≡ done (model ns)
    read = a_good_reply_is_read N small t (model ns) g

    -- "then 19, a variable missing or present twice, detail the least such number"
    pub refused_with_19_at_the_least : (d : ℕ) → LeastNotOnce N ns d → read_reply_outcome N t lent ≡ (refused 19 d leaves lent)
    unfolding read_reply_outcome
    refused_with_19_at_the_least d q = rw (read, least_refused N ns d q)

    -- "11 for the model"
    pub refused_with_11_for_its_length : AllOnce N ns → length lent ≢ N → read_reply_outcome N t lent ≡ (refused 11 N leaves lent)
    unfolding read_reply_outcome
    refused_with_11_for_its_length a h = rw (read, all_pass N ns a, ne_eqb (length lent) N h)

    pub a_model_is_read : AllOnce N ns → length lent ≡ N → read_reply_outcome N t lent ≡ (done true leaves model_of N ns)
    unfolding read_reply_outcome
    a_model_is_read a h = rw (read, all_pass N ns a, eq-eqb (length lent) N h)

-- ---- the model has exactly the reply's literals
abbrev pub In : ℤ → List ℤ → Type 0
In x ns = Any (λ n. x ≡ n) ns

often_in : (x : ℤ) (ns : List ℤ) → In x ns → 1 ≤ often (nat_abs x) ns
often_in x [] i = elim i [ ]
often_in x (n ∷ ns) (inl e) = rw (eq-eqb (nat_abs n) (nat_abs x) (ap nat_abs (sym e))) (omega arith)
often_in x (n ∷ ns) (inr i) = go (eqb (nat_abs n) (nat_abs x)) (often_in x ns i)
  where
    go : (t : Bool) → 1 ≤ often (nat_abs x) ns → 1 ≤ (if t then suc (often (nat_abs x) ns) else often (nat_abs x) ns)
    go true h = omega arith
    go false h = h

-- each sign counts
both_signs : (w : ℕ) (ns : List ℤ) → In (pos (suc w)) ns → In (negsuc w) ns → 2 ≤ often (suc w) ns
both_signs w [] i j = elim i [ ]
both_signs w (n ∷ ns) (inl e) (inl e') = absurd (let z : pos (suc w) ≡ negsuc w = e ∙ sym e' in let y : ◌≡◌ {A = ℕ} 0 1 = cc in omega arith)
both_signs w (n ∷ ns) (inl e) (inr i) = rw (eq-eqb (nat_abs n) (suc w) (ap nat_abs (sym e))) (omega (arith, often_in (negsuc w) ns i))
both_signs w (n ∷ ns) (inr i) (inl e) = rw (eq-eqb (nat_abs n) (suc w) (ap nat_abs (sym e))) (omega (arith, often_in (pos (suc w)) ns i))
both_signs w (n ∷ ns) (inr i) (inr i') = go (eqb (nat_abs n) (suc w)) (both_signs w ns i i')
  where
    go : (t : Bool) → 2 ≤ often (suc w) ns → 2 ≤ (if t then suc (often (suc w) ns) else often (suc w) ns)
    go true h = omega arith
    go false h = h

some_sign : (w : ℕ) (ns : List ℤ) → 1 ≤ often (suc w) ns → In (pos (suc w)) ns ⊎ In (negsuc w) ns
some_sign w [] h = absurd (omega arith)
some_sign w (n ∷ ns) h = elim (cases (eqb (nat_abs n) (suc w))) [
  | inl e ↦ by_sign n (eqb-true (nat_abs n) (suc w) e)
  | inr e ↦ elim (some_sign w ns (rw e at h)) [ inl i ↦ inl (inr i) | inr i ↦ inr (inr i) ]
]
  where
    by_sign : (n : ℤ) → nat_abs n ≡ suc w → In (pos (suc w)) (n ∷ ns) ⊎ In (negsuc w) (n ∷ ns)
    by_sign (pos v) e = inl (inl (ap pos (sym e)))
    by_sign (negsuc v) e = let y : w ≡ v = omega arith in inr (inl (ap negsuc y))

abbrev bit : Bool → ℕ
bit t = if t then 1 else 0

module _ (N : ℕ) (ns : List ℤ) (a : AllOnce N ns) (w : ℕ) (l : suc w ≤ N) where
  abbrev stands : Bool
  stands = any (eq_z (pos (suc w))) ns

  stands_decides : Decides stands (In (pos (suc w)) ns)
  stands_decides = some (equals_z (pos (suc w))) ns

  byte : get_or (model_of N ns) w 0 ≡ bit stands
  byte =
      let e : 1 + w ≡ suc w = omega arith in
      counted-at (λ v. bit (any (eq_z (pos v)) ns)) 0 1 N w (omega arith) ∙ ap (λ v. bit (any (eq_z (pos v)) ns)) e

  positive_literal : TrueIn (model_of N ns) (pos (suc w)) ↔ In (pos (suc w)) ns
  positive_literal = let e : suc w - 1 ≡ w = omega arith in rw (e, byte) (go stands stands_decides)
    where
      go : (t : Bool) → Decides t (In (pos (suc w)) ns) → (bit t ≡ 1) ↔ In (pos (suc w)) ns
      go true d = ((λ h. d.sound tt), (λ i. refl))
      go false d = ((λ h. absurd (omega arith)), (λ i. absurd (d.full i)))

  negative_literal : TrueIn (model_of N ns) (negsuc w) ↔ In (negsuc w) ns
  negative_literal = rw byte (go stands stands_decides)
    where
      go : (t : Bool) → Decides t (In (pos (suc w)) ns) → (bit t ≡ 0) ↔ In (negsuc w) ns
      go true d = ((λ h. absurd (omega arith)), (λ i. absurd (omega (arith, both_signs w ns (d.sound tt) i, a (suc w) (omega arith) l))))
      go false d = ((λ h. elim (some_sign w ns (omega (arith, a (suc w) (omega arith) l))) [ inl i ↦ absurd (d.full i) | inr i ↦ i ]), (λ i. refl))

pub the_model_has_exactly_the_literals : (N : ℕ) (ns : List ℤ) → AllOnce N ns → (x : ℤ) → 1 ≤ nat_abs x → nat_abs x ≤ N → TrueIn (model_of N ns) x ↔ In x ns
the_model_has_exactly_the_literals N ns a (pos zero) l m = absurd (omega arith)
the_model_has_exactly_the_literals N ns a (pos (suc w)) l m = positive_literal N ns a w m
the_model_has_exactly_the_literals N ns a (negsuc w) l m = negative_literal N ns a w m

pub the_model_has_N_bytes : (N : ℕ) (ns : List ℤ) → length (model_of N ns) ≡ N
the_model_has_N_bytes N ns = length-map (count_up 1 N) (λ v. bit (any (eq_z (pos v)) ns)) ∙ length-count_up 1 N
