-- The first of equal entries by what has been seen: entry by entry, and list after list. Assumes nothing.
use Rattle.std.specs.Prelude.{◌≡◌, ◌⊎◌, ◌↔◌, Bool, true, false, ◌||◌, T, if◌then◌else◌}
use Rattle.std.proofs.Math.Path.{refl, sym}
use Rattle.std.proofs.Common.{ap, ap₂, ◌∙◌, inl, inr}
use Rattle.std.proofs.Math.Bool.{not}
use mathlib.Core.List.{List, [], ◌∷◌, ◌++◌}
use Rattle.definitions.specs.Tools.{All, Any}
use Rattle.laws.specs.Decide.{Decides}
use Rattle.next.specs.Once.{keep, once}

module _ {A : Type 0} (same : A → A → Bool) where
  -- after these entries
  abbrev pub after : (A → Bool) → List A → A → Bool
  after seen [] = seen
  after seen (x ∷ xs) = after (λ y. seen y || same x y) xs

  abbrev pub unseen : (A → Bool) → List A → List A
  unseen seen [] = []
  unseen seen (x ∷ xs) = if seen x then unseen (λ y. seen y || same x y) xs else x ∷ unseen (λ y. seen y || same x y) xs

  keep_twice : (f g h : A → Bool) → ((x : A) → h x ≡ not (f x || g x)) → (xs : List A) → keep (λ x. not (f x)) (keep (λ x. not (g x)) xs) ≡ keep h xs
  keep_twice f g h e [] = refl
  keep_twice f g h e (x ∷ xs) = rw (e x) (go (keep_twice f g h e xs) (f x) refl (g x) refl)
    where
      go : keep (λ x. not (f x)) (keep (λ x. not (g x)) xs) ≡ keep h xs → (a : Bool) → f x ≡ a → (b : Bool) → g x ≡ b
          → keep (λ x. not (f x)) (if not b then x ∷ keep (λ x. not (g x)) xs else keep (λ x. not (g x)) xs) ≡ (if not (a || b) then x ∷ keep h xs else keep h xs)
      go r true p true q = r
      go r true p false q = rw p r
      go r false p true q = r
      go r false p false q = rw p (ap (λ z. x ∷ z) r)

  unseen-once : (seen : A → Bool) (xs : List A) → unseen seen xs ≡ keep (λ y. not (seen y)) (once same xs)
  unfolding once
  unseen-once seen [] = refl
  unseen-once seen (x ∷ xs) =
      go (seen x) (unseen-once (λ y. seen y || same x y) xs ∙ sym (keep_twice seen (same x) (λ y. not (seen y || same x y)) (λ y. refl) (once same xs)))
    where
      rest : List A
      rest = keep (λ y. not (seen y)) (keep (λ y. not (same x y)) (once same xs))

      go : (b : Bool) → unseen (λ y. seen y || same x y) xs ≡ rest
          → (if b then unseen (λ y. seen y || same x y) xs else x ∷ unseen (λ y. seen y || same x y) xs) ≡ (if not b then x ∷ rest else rest)
      go true e = e
      go false e = ap (λ z. x ∷ z) e

  keep_all : (xs : List A) → keep (λ y. true) xs ≡ xs
  keep_all [] = refl
  keep_all (x ∷ xs) = ap (λ z. x ∷ z) (keep_all xs)

  pub once-unseen : (xs : List A) → once same xs ≡ unseen (λ y. false) xs
  once-unseen xs = sym (unseen-once (λ y. false) xs ∙ keep_all (once same xs))

  pub unseen-append : (seen : A → Bool) (xs ys : List A) → unseen seen (xs ++ ys) ≡ unseen seen xs ++ unseen (after seen xs) ys
  unseen-append seen [] ys = refl
  unseen-append seen (x ∷ xs) ys = go (seen x) (unseen-append (λ y. seen y || same x y) xs ys)
    where
      go : (b : Bool) → unseen (λ y. seen y || same x y) (xs ++ ys) ≡ unseen (λ y. seen y || same x y) xs ++ unseen (after (λ y. seen y || same x y) xs) ys
          → (if b then unseen (λ y. seen y || same x y) (xs ++ ys) else x ∷ unseen (λ y. seen y || same x y) (xs ++ ys))
          ≡ (if b then unseen (λ y. seen y || same x y) xs else x ∷ unseen (λ y. seen y || same x y) xs) ++ unseen (after (λ y. seen y || same x y) xs) ys
      go true e = e
      go false e = ap (λ z. x ∷ z) e

  pub unseen_same : (seen seen' : A → Bool) → ((x : A) → seen x ≡ seen' x) → (xs : List A) → unseen seen xs ≡ unseen seen' xs
  unseen_same seen seen' e [] = refl
  unseen_same seen seen' e (x ∷ xs) =
      let r = unseen_same (λ y. seen y || same x y) (λ y. seen' y || same x y) (λ y. ap (λ b. b || same x y) (e y)) xs in
      ap₂ (λ b l. if b then l else x ∷ l) (e x) r

  or_left : (a b : Bool) → T a → T (a || b)
  or_left true b t = tt
  or_left false b t = absurd t

  pub unseen_none : (seen : A → Bool) (xs : List A) → All (λ x. T (seen x)) xs → unseen seen xs ≡ []
  unseen_none seen [] a = refl
  unseen_none seen (x ∷ xs) a =
      go (seen x) a.0 (unseen_none (λ y. seen y || same x y) xs (weaken xs a.1))
    where
      weaken : (l : List A) → All (λ y. T (seen y)) l → All (λ y. T (seen y || same x y)) l
      weaken [] a = tt
      weaken (y ∷ l) a = (or_left (seen y) (same x y) a.0, weaken l a.1)

      go : (b : Bool) → T b → unseen (λ y. seen y || same x y) xs ≡ [] → (if b then unseen (λ y. seen y || same x y) xs else x ∷ unseen (λ y. seen y || same x y) xs) ≡ []
      go true t e = e
      go false t e = absurd t

  module _ (decides : (x y : A) → Decides (same x y) (x ≡ y)) where
    or_split : (a b : Bool) → T (a || b) → T a ⊎ T b
    or_split true b t = inl tt
    or_split false b t = inr t

    or_right : (a b : Bool) → T b → T (a || b)
    or_right true b t = tt
    or_right false b t = t

    pub after_is : (seen : A → Bool) (xs : List A) (y : A) → T (after seen xs y) ↔ (T (seen y) ⊎ Any (λ x. x ≡ y) xs)
    after_is seen [] y = (λ t. inl t, λ s. elim s [ inl t ↦ t | inr n ↦ absurd n ])
    after_is seen (x ∷ xs) y = let r = after_is (λ z. seen z || same x z) xs y in (λ t. to (r.0 t), λ s. r.1 (from s))
      where
        to : T (seen y || same x y) ⊎ Any (λ z. z ≡ y) xs → T (seen y) ⊎ ((x ≡ y) ⊎ Any (λ z. z ≡ y) xs)
        to (inl t) = elim (or_split (seen y) (same x y) t) [ inl a ↦ inl a | inr b ↦ inr (inl ((decides x y).sound b)) ]
        to (inr a) = inr (inr a)

        from : T (seen y) ⊎ ((x ≡ y) ⊎ Any (λ z. z ≡ y) xs) → T (seen y || same x y) ⊎ Any (λ z. z ≡ y) xs
        from (inl t) = inl (or_left (seen y) (same x y) t)
        from (inr (inl e)) = inl (or_right (seen y) (same x y) ((decides x y).full e))
        from (inr (inr a)) = inr a
