-- What is kept of a list whose equal entries are kept once: the same entries, pairwise different, each where it first stands. Assumes nothing.
use Rattle.std.specs.Prelude.{◌≡◌, ◌⊎◌, ◌↔◌, ◌≢◌, Bool, true, false, ◌||◌, ℕ, suc, ◌≤◌, length, get_or, take, if◌then◌else◌}
use Rattle.std.proofs.Math.Path.{refl, ap}
use Rattle.std.proofs.Common.{sym, ap₂, ◌∙◌, subst, arith, length-append}
use Rattle.std.proofs.Math.Logic.{inl, inr}
use Rattle.std.proofs.Math.Bool.{not, or-false}
use mathlib.Core.List.{List, [], ◌∷◌, ◌++◌, map, append_assoc}
use Rattle.std.proofs.Math.Dec.{T, T_not}
use Rattle.definitions.specs.Tools.{All, Any, any, count_up}
use Rattle.laws.specs.Decide.{Decides}
use Rattle.laws.specs.Lists.{all_impl}
use Rattle.laws.specs.Some.{any_append}
use Rattle.next.specs.Once.{keep, once}
use Rattle.next.specs.Seen.{unseen, unseen_same, once-unseen}

-- ---- the entries that pass a test
module _ {A : Type 0} (f : A → Bool) where
  pub keep_all : (P : A → Type 0) (xs : List A) → All P xs → All P (keep f xs)
  keep_all P [] a = tt
  keep_all P (x ∷ xs) a = go (f x) (keep_all P xs a.1)
    where
      go : (b : Bool) → All P (keep f xs) → All P (if b then x ∷ keep f xs else keep f xs)
      go true r = (a.0, r)
      go false r = r

  keep-any : (P : A → Type 0) (xs : List A) → Any P (keep f xs) → Any P xs
  keep-any P [] a = a
  keep-any P (x ∷ xs) a = go (f x) (keep-any P xs) a
    where
      go : (b : Bool) → (Any P (keep f xs) → Any P xs) → Any P (if b then x ∷ keep f xs else keep f xs) → P x ⊎ Any P xs
      go true r (inl p) = inl p
      go true r (inr a) = inr (r a)
      go false r a = inr (r a)

  keep_passes : (xs : List A) → All (λ x. T (f x)) (keep f xs)
  keep_passes [] = tt
  keep_passes (x ∷ xs) = go (f x) refl (keep_passes xs)
    where
      go : (b : Bool) → f x ≡ b → All (λ x. T (f x)) (keep f xs) → All (λ x. T (f x)) (if b then x ∷ keep f xs else keep f xs)
      go true e r = (subst T (sym e) tt, r)
      go false e r = r

  keep-most : (xs : List A) → length (keep f xs) ≤ length xs
  keep-most [] = omega arith
  keep-most (x ∷ xs) = go (f x) (keep-most xs)
    where
      go : (b : Bool) → length (keep f xs) ≤ length xs → length (if b then x ∷ keep f xs else keep f xs) ≤ suc (length xs)
      go true r = omega arith
      go false r = omega arith

-- ---- no two entries are equal
abbrev pub Different : {A : Type 0} → List A → Type 0
Different [] = Unit {0}
Different (x ∷ xs) = All (λ y. x ≢ y) xs × Different xs

keep_different : {A : Type 0} (f : A → Bool) (xs : List A) → Different xs → Different (keep f xs)
keep_different f [] d = tt
keep_different f (x ∷ xs) d = go (f x) (keep_different f xs d.1)
  where
    go : (b : Bool) → Different (keep f xs) → Different (if b then x ∷ keep f xs else keep f xs)
    go true r = (keep_all f (λ y. x ≢ y) xs d.0, r)
    go false r = r

-- ---- no longer than the list
pub once-most : {A : Type 0} (same : A → A → Bool) (xs : List A) → length (once same xs) ≤ length xs
unfolding once
once-most same [] = omega arith
once-most same (x ∷ xs) = omega (arith, keep-most (λ y. not (same x y)) (once same xs), once-most same xs)

module _ {A : Type 0} (same : A → A → Bool) (decides : (x y : A) → Decides (same x y) (x ≡ y)) where
  -- ---- the same entries
  all_kept : (P : A → Type 0) (x : A) → P x → (ys : List A) → All P (keep (λ y. not (same x y)) ys) → All P ys
  all_kept P x p [] a = tt
  all_kept P x p (y ∷ ys) a = go (same x y) (decides x y).sound (all_kept P x p ys) a
    where
      go : (b : Bool) → (T b → x ≡ y) → (All P (keep (λ y. not (same x y)) ys) → All P ys)
          → All P (if not b then y ∷ keep (λ y. not (same x y)) ys else keep (λ y. not (same x y)) ys) → P y × All P ys
      go true e r a = (subst P (e tt) p, r a)
      go false e r a = (a.0, r a.1)

  pub once-all : (P : A → Type 0) (xs : List A) → All P (once same xs) ↔ All P xs
  unfolding once
  once-all P [] = (λ a. a, λ a. a)
  once-all P (x ∷ xs) =
      let r = once-all P xs in (
        λ a. (a.0, r.0 (all_kept P x a.0 (once same xs) a.1)),
        λ a. (a.0, keep_all (λ y. not (same x y)) P (once same xs) (r.1 a.1)),
      )

  any_kept : (P : A → Type 0) (x : A) (ys : List A) → Any P ys → P x ⊎ Any P (keep (λ y. not (same x y)) ys)
  any_kept P x [] a = absurd a
  any_kept P x (y ∷ ys) a = go (same x y) (decides x y).sound (any_kept P x ys) a
    where
      go : (b : Bool) → (T b → x ≡ y) → (Any P ys → P x ⊎ Any P (keep (λ y. not (same x y)) ys)) → P y ⊎ Any P ys
          → P x ⊎ Any P (if not b then y ∷ keep (λ y. not (same x y)) ys else keep (λ y. not (same x y)) ys)
      go true e r (inl p) = inl (subst P (sym (e tt)) p)
      go true e r (inr a) = r a
      go false e r (inl p) = inr (inl p)
      go false e r (inr a) = elim (r a) [ inl p ↦ inl p | inr k ↦ inr (inr k) ]

  pub once-any : (P : A → Type 0) (xs : List A) → Any P (once same xs) ↔ Any P xs
  unfolding once
  once-any P [] = (λ a. a, λ a. a)
  once-any P (x ∷ xs) =
      let r = once-any P xs in (
        λ s. elim s [ inl p ↦ inl p | inr a ↦ inr (r.0 (keep-any (λ y. not (same x y)) P (once same xs) a)) ],
        λ s. elim s [ inl p ↦ inl p | inr a ↦ any_kept P x (once same xs) (r.1 a) ],
      )

  -- ---- pairwise different
  pub once_different : (xs : List A) → Different (once same xs)
  unfolding once
  once_different [] = tt
  once_different (x ∷ xs) = (
    all_impl (λ y. T (not (same x y))) (λ y. x ≢ y) (λ y t e. T_not (same x y) t ((decides x y).full e)) (keep (λ y. not (same x y)) (once same xs))
        (keep_passes (λ y. not (same x y)) (once same xs)),
    keep_different (λ y. not (same x y)) (once same xs) (once_different xs),
  )

-- ---- in the order of the first: the entries at the places before which no equal entry stands
module _ {A : Type 0} (same : A → A → Bool) (d : A) where
  abbrev pub is_first : List A → ℕ → Bool
  is_first xs i = not (any (λ y. same y (get_or xs i d)) (take i xs))

  abbrev chosen : List A → ℕ → ℕ → List A
  chosen xs b n = map (λ i. get_or xs i d) (keep (is_first xs) (count_up b n))

  at-end : (done : List A) (x : A) (xs : List A) → get_or (done ++ (x ∷ xs)) (length done) d ≡ x
  at-end [] x xs = refl
  at-end (y ∷ done) x xs = at-end done x xs

  take_done : (done rest : List A) → take (length done) (done ++ rest) ≡ done
  take_done [] rest = refl
  take_done (y ∷ done) rest = ap (λ l. y ∷ l) (take_done done rest)

  -- those before are `done`
  from_here : (done xs : List A) → unseen same (λ y. any (λ x. same x y) done) xs ≡ chosen (done ++ xs) (length done) (length xs)
  from_here done [] = refl
  from_here done (x ∷ xs) = step (any (λ y. same y x) done) refl (from_here (done ++ (x ∷ [])) xs)
    where
      more : List A
      more = done ++ (x ∷ [])

      joined : (done ++ (x ∷ [])) ++ xs ≡ done ++ (x ∷ xs)
      joined = append_assoc done (x ∷ []) xs

      longer : length (done ++ (x ∷ [])) ≡ suc (length done)
      longer = omega (arith, length-append done (x ∷ []))

      Later : Type 0
      Later = unseen same (λ y. any (λ x. same x y) more) xs ≡ chosen (more ++ xs) (length more) (length xs)

      on : Later → unseen same (λ y. any (λ x. same x y) done || same x y) xs ≡ chosen (done ++ (x ∷ xs)) (suc (length done)) (length xs)
      on later =
          unseen_same same _ (λ y. any (λ x. same x y) more)
          (λ y. sym (any_append (λ z. same z y) done (x ∷ []) ∙ ap (λ b. any (λ z. same z y) done || b) (or-false (same x y)))) xs
          ∙ later
          ∙ ap₂ (λ l n. chosen l n (length xs)) joined longer

      test : is_first (done ++ (x ∷ xs)) (length done) ≡ not (any (λ y. same y x) done)
      test = ap₂ (λ z l. not (any (λ y. same y z) l)) (at-end done x xs) (take_done done (x ∷ xs))

      step : (b : Bool) → any (λ y. same y x) done ≡ b → Later → unseen same (λ y. any (λ x. same x y) done) (x ∷ xs) ≡ chosen (done ++ (x ∷ xs)) (length done) (suc (length xs))
      step true e later = rw (e, test, e) (on later)
      step false e later = rw (e, test, e) (ap₂ (λ y l. y ∷ l) (sym (at-end done x xs)) (on later))

  pub once-places : (xs : List A) → once same xs ≡ chosen xs 0 (length xs)
  once-places xs = once-unseen same xs ∙ from_here [] xs

-- ---- what is made of the entries is kept once alike, where equal things come of equal entries alone
module _ {A B : Type 0} (f : A → B) (same : A → A → Bool) (same' : B → B → Bool) (P : A → Type 0)
    (agree : (x y : A) → P x → P y → same x y ≡ same' (f x) (f y)) where
  map-keep : (x : A) → P x → (ys : List A) → All P ys → map f (keep (λ y. not (same x y)) ys) ≡ keep (λ z. not (same' (f x) z)) (map f ys)
  map-keep x p [] a = refl
  map-keep x p (y ∷ ys) a = rw (agree x y p a.0) (go (same' (f x) (f y)) (map-keep x p ys a.1))
    where
      go : (b : Bool) → map f (keep (λ y. not (same x y)) ys) ≡ keep (λ z. not (same' (f x) z)) (map f ys)
          → map f (if not b then y ∷ keep (λ y. not (same x y)) ys else keep (λ y. not (same x y)) ys)
          ≡ (if not b then f y ∷ keep (λ z. not (same' (f x) z)) (map f ys) else keep (λ z. not (same' (f x) z)) (map f ys))
      go true e = e
      go false e = ap (λ l. f y ∷ l) e

  kept : (xs : List A) → All P xs → All P (once same xs)
  unfolding once
  kept [] a = tt
  kept (x ∷ xs) a = (a.0, keep_all (λ y. not (same x y)) P (once same xs) (kept xs a.1))

  pub once-map : (xs : List A) → All P xs → map f (once same xs) ≡ once same' (map f xs)
  unfolding once
  once-map [] a = refl
  once-map (x ∷ xs) a = ap (λ l. f x ∷ l) (map-keep x a.0 (once same xs) (kept xs a.1) ∙ ap (keep (λ z. not (same' (f x) z))) (once-map xs a.1))
