-- The first of equal clauses are those of the first tuples, over any number of places. Assumes nothing.
use Rattle.std.specs.Prelude.{◌≡◌, ◌⊎◌, ◌↔◌, Bool, ◌&&◌, ◌||◌, eqb, if◌then◌else◌}
use Rattle.std.proofs.Math.Path.{refl, sym, ap₂}
use Rattle.std.proofs.Common.{ap, ◌∙◌, subst, arith}
use Rattle.std.proofs.Math.Logic.{inl, inr}
use Rattle.std.proofs.Math.Bool.{true, false}
use mathlib.Core.List.{List, [], ◌∷◌, ◌++◌, map, flatten}
use Prim.Native.Nat.{ℕ, zero, suc, min, ◌+◌, ◌-◌, ◌≤◌, ◌<◌}
use Rattle.std.proofs.Math.Decide.{dec_le}
use Rattle.std.proofs.Math.Dec.{T}
use Rattle.definitions.specs.Tools.{All, Any}
use Rattle.laws.specs.Decide.{Decides, equals}
use Rattle.laws.specs.Runs.{over, map-over}
use Rattle.laws.specs.Offsets.{offsets}
use Rattle.next.specs.Once.{once, same_list}
use Rattle.next.specs.Equal.{same_list_decides}
use Rattle.next.specs.Seen.{unseen, after, once-unseen, unseen-append, unseen_same, unseen_none, after_is}
use Rattle.next.specs.Classes.{Place, Parted, is_low, is_high, pick, literals_at, all_clauses, over_low, over_low-most, near, far, past, Meets, led, led_in_lem, led_out, led_none, literals-led, all_more, in_meets, meets_in}

-- met by one of the m sums after s
abbrev Occurs : {L : Type 0} → List (Place L) → ℕ → ℕ → List L → Type 0
Occurs ps s m d = (r : ℕ) × (s < r) × (r ≤ s + m) × Meets ps r d

-- met with the first place below b
abbrev Early : {L : Type 0} → Place L → List (Place L) → ℕ → ℕ → List L → Type 0
Early p ps s b [] = ⊥
Early p ps s b (l ∷ d) = (k : ℕ) × (r : ℕ) × (k < b) × (s ≡ k + r) × (l ≡ p.lit k) × Meets ps r d

abbrev fresh : ℕ → Bool
fresh zero = true
fresh (suc m) = false

low_over : {L : Type 0} (p : Place L) (k : ℕ) → is_low p k ≡ fresh (over_low p k)
unfolding over_low
low_over p zero = refl
low_over p (suc k) = go (p.cut k)
  where
    go : (b : Bool) → b ≡ fresh (if b then 0 else suc (over_low p k))
    go true = refl
    go false = refl

module _ {L : Type 0} (same : L → L → Bool) (decides : (x y : L) → Decides (same x y) (x ≡ y)) where
  abbrev alike : List L → List L → Bool
  alike = same_list same

  -- the statement, for the m sums after s seen
  abbrev Picks : List (Place L) → Type 0
  Picks ps = (s m : ℕ) (seen : List L → Bool) → ((d : List L) → T (seen d) ↔ Occurs ps s m d) → unseen alike seen (all_clauses ps s) ≡ map (literals_at ps) (pick (fresh m) ps s)

  -- a common first literal
  alike-led : (l : L) (c d : List L) → alike (l ∷ c) (l ∷ d) ≡ alike c d
  alike-led l c d = go (same l l) ((decides l l).full refl)
    where
      go : (b : Bool) → T b → (b && alike c d) ≡ alike c d
      go true t = refl
      go false t = absurd t

  pub unseen-led : (l : L) (seen : List L → Bool) (ds : List (List L)) → unseen alike seen (led l ds) ≡ led l (unseen alike (λ d. seen (l ∷ d)) ds)
  unseen-led l seen [] = refl
  unseen-led l seen (c ∷ ds) =
      go (seen (l ∷ c)) (unseen-led l (λ d. seen d || alike (l ∷ c) d) ds
      ∙ ap (led l) (unseen_same alike (λ d. seen (l ∷ d) || alike (l ∷ c) (l ∷ d)) (λ d. seen (l ∷ d) || alike c d) (λ d. ap (λ b. seen (l ∷ d) || b) (alike-led l c d)) ds))
    where
      go : (b : Bool) → unseen alike (λ d. seen d || alike (l ∷ c) d) (led l ds) ≡ led l (unseen alike (λ d. seen (l ∷ d) || alike c d) ds)
          → (if b then unseen alike (λ d. seen d || alike (l ∷ c) d) (led l ds) else (l ∷ c) ∷ unseen alike (λ d. seen d || alike (l ∷ c) d) (led l ds))
          ≡ led l (if b then unseen alike (λ d. seen (l ∷ d) || alike c d) ds else c ∷ unseen alike (λ d. seen (l ∷ d) || alike c d) ds)
      go true e = e
      go false e = ap (λ z. (l ∷ c) ∷ z) e

  module _ (p : Place L) (ps : List (Place L)) (h : Parted p) where
    abbrev Before : ℕ → ℕ → ℕ → List L → Type 0
    Before s m b d = Occurs (p ∷ ps) s m d ⊎ Early p ps s b d

    -- at b, the greatest of its class or with no sum seen: those seen are those of the sums after s - b, so many
    to : (s m b r : ℕ) (d : List L) → b ≤ p.width → s ≡ b + r → (m ≡ 0) ⊎ (is_high p b ≡ true) → Before s m b (p.lit b ∷ d) → Occurs ps r (m + over_low p b) d
    to s m b r d w e c (inl (r0, g, u, (k, r1, kw, q, le, n))) = go c
      where
        reach : b ≤ k + over_low p b
        reach = elim (dec_le b (k + over_low p b)) [ yes y ↦ y | no z ↦ absurd (far p h b k w (low z) (sym le)) ]
          where
            low : ¬ (b ≤ k + over_low p b) → k + over_low p b < b
            low z = omega arith

        below : is_high p b ≡ true → k ≤ b
        below i = elim (dec_le k b) [ yes y ↦ y | no z ↦ absurd (past p h b k i (over z) kw le) ]
          where
            over : ¬ (k ≤ b) → b < k
            over z = omega arith

        go : (m ≡ 0) ⊎ (is_high p b ≡ true) → Occurs ps r (m + over_low p b) d
        go (inl z) = absurd (omega arith)
        go (inr i) = let y = below i in let x = reach in (r1, omega arith, omega arith, n)
    to s m b r d w e c (inr (k, r1, kb, q, le, n)) = (r1, omega arith, (let x = reach in omega arith), n)
      where
        reach : b ≤ k + over_low p b
        reach = elim (dec_le b (k + over_low p b)) [ yes y ↦ y | no z ↦ absurd (far p h b k w (low z) (sym le)) ]
          where
            low : ¬ (b ≤ k + over_low p b) → k + over_low p b < b
            low z = omega arith

    from : (s m b r : ℕ) (d : List L) → b ≤ p.width → s ≡ b + r → Occurs ps r (m + over_low p b) d → Before s m b (p.lit b ∷ d)
    from s m b r d w e (r1, g, u, n) = elim (dec_le r1 (r + over_low p b)) [ yes y ↦ inr (early y) | no z ↦ inl (occurs (high z)) ]
      where
        most : over_low p b ≤ b
        most = over_low-most p h b

        early : r1 ≤ r + over_low p b → Early p ps s b (p.lit b ∷ d)
        early y = let x = most in (b - (r1 - r), r1, omega arith, omega arith, sym (near p h b (r1 - r) w (omega arith)), n)

        high : ¬ (r1 ≤ r + over_low p b) → r + over_low p b < r1
        high z = omega arith

        occurs : r + over_low p b < r1 → Occurs (p ∷ ps) s m (p.lit b ∷ d)
        occurs y = let x = most in ((b - over_low p b) + r1, omega arith, omega arith, (b - over_low p b, r1, omega arith, refl, sym (near p h b (over_low p b) w (omega arith)), n))

    -- not the greatest of its class, and a sum seen: all are seen, one offset further
    passed : (s m b r : ℕ) (d : List L) → b < p.width → p.cut b ≡ false → s ≡ b + r → Meets ps r d → Before s (suc m) b (p.lit b ∷ d)
    passed s m b r d w c e n = inl (suc s, omega arith, omega arith, (suc b, r, omega arith, omega arith, sym (h.flat b w c), n))

    -- the entries that begin with b
    abbrev block : ℕ → ℕ → List (List L)
    block s b = led (p.lit b) (all_clauses ps (s - b))

    abbrev chosen : ℕ → ℕ → ℕ → List (List ℕ)
    chosen zero s b = map (λ ks. b ∷ ks) (pick (is_low p b) ps (s - b))
    chosen (suc m) s b = if is_high p b then map (λ ks. b ∷ ks) (pick false ps (s - b)) else []

    all_seen : (seen : List L → Bool) (r : ℕ) → ((d : List L) → Meets ps r d → T (seen d)) → (ds : List (List L)) → ((d : List L) → Any (λ e. e ≡ d) ds → Any (λ e. e ≡ d) (all_clauses ps r))
        → All (λ d. T (seen d)) ds
    all_seen seen r f [] i = tt
    all_seen seen r f (d ∷ ds) i = (f d (in_meets ps r d (i d (inl refl))), all_seen seen r f ds (λ e a. i e (inr a)))

    at : (ih : Picks ps) (s m b : ℕ) (seen : List L → Bool) → b ≤ p.width → b ≤ s → ((d : List L) → T (seen d) ↔ Before s m b d)
        → unseen alike seen (block s b) ≡ map (literals_at (p ∷ ps)) (chosen m s b)
    at ih s m b seen w l spec = unseen-led (p.lit b) seen (all_clauses ps (s - b)) ∙ go m spec
      where
        r : ℕ
        r = s - b

        inner : List L → Bool
        inner d = seen (p.lit b ∷ d)

        met : (m : ℕ) → ((d : List L) → T (seen d) ↔ Before s m b d) → (m ≡ 0) ⊎ (is_high p b ≡ true)
            → led (p.lit b) (unseen alike (λ d. seen (p.lit b ∷ d)) (all_clauses ps (s - b))) ≡ map (literals_at (p ∷ ps)) (map (λ ks. b ∷ ks) (pick (fresh (m + over_low p b)) ps (s - b)))
        met m spec c =
            ap (led (p.lit b)) (ih (s - b) (m + over_low p b) (λ d. seen (p.lit b ∷ d)) (λ d. (
              λ t. to s m b (s - b) d w (omega arith) c ((spec (p.lit b ∷ d)).0 t),
              λ o. (spec (p.lit b ∷ d)).1 (from s m b (s - b) d w (omega arith) o),
            )))
            ∙ sym (literals-led p ps b (pick (fresh (m + over_low p b)) ps (s - b)))

        go : (m : ℕ) → ((d : List L) → T (seen d) ↔ Before s m b d)
            → led (p.lit b) (unseen alike (λ d. seen (p.lit b ∷ d)) (all_clauses ps (s - b))) ≡ map (literals_at (p ∷ ps)) (chosen m s b)
        go zero spec =
            let z : 0 + over_low p b ≡ over_low p b = omega arith in
            met 0 spec (inl refl) ∙ ap (λ f. map (literals_at (p ∷ ps)) (map (λ ks. b ∷ ks) (pick f ps (s - b)))) (ap fresh z ∙ sym (low_over p b))
        go (suc m) spec = high (is_high p b) refl
          where
            z : suc m + over_low p b ≡ suc (m + over_low p b)
            z = omega arith

            high : (i : Bool) → is_high p b ≡ i
                → led (p.lit b) (unseen alike (λ d. seen (p.lit b ∷ d)) (all_clauses ps (s - b))) ≡ map (literals_at (p ∷ ps)) (if i then map (λ ks. b ∷ ks) (pick false ps (s - b)) else [])
            high true e = met (suc m) spec (inr e) ∙ ap (λ n. map (literals_at (p ∷ ps)) (map (λ ks. b ∷ ks) (pick (fresh n) ps (s - b)))) z
            high false e =
                ap (led (p.lit b)) (unseen_none alike (λ d. seen (p.lit b ∷ d)) (all_clauses ps (s - b))
                (all_seen (λ d. seen (p.lit b ∷ d)) (s - b) (λ d n. (spec (p.lit b ∷ d)).1 (passed s m b (s - b) d (inside e) (uncut e) (omega arith) n)) (all_clauses ps (s - b)) (λ d a. a)))
              where
                uncut : is_high p b ≡ false → p.cut b ≡ false
                uncut = cut_of (p.cut b)
                  where
                    cut_of : (c : Bool) → (c || eqb b p.width) ≡ false → c ≡ false
                    cut_of true e = e
                    cut_of false e = refl

                inside : is_high p b ≡ false → b < p.width
                inside e = ends (p.cut b) e
                  where
                    ends : (c : Bool) → (c || eqb b p.width) ≡ false → b < p.width
                    ends true e = absurd (subst (λ x. T x) e tt)
                    ends false e = elim (dec_le (suc b) p.width) [ yes y ↦ y | no n ↦ absurd (subst T e (eqb_full b p.width (last n))) ]
                      where
                        last : ¬ (suc b ≤ p.width) → b ≡ p.width
                        last n = omega arith

                        eqb_full : (m n : ℕ) → m ≡ n → T (eqb m n)
                        eqb_full m n q = (equals m n).full q

    early_more : (s b : ℕ) (d : List L) → b ≤ p.width → b ≤ s → (Early p ps s b d ⊎ Any (λ e. e ≡ d) (block s b)) ↔ Early p ps s (suc b) d
    early_more s b [] w l = (λ x. elim x [ inl e ↦ e | inr a ↦ led_none (p.lit b) (all_clauses ps (s - b)) a ], λ e. absurd e)
    early_more s b (c ∷ d) w l = (one, two)
      where
        one : Early p ps s b (c ∷ d) ⊎ Any (λ e. e ≡ (c ∷ d)) (block s b) → Early p ps s (suc b) (c ∷ d)
        one (inl (k, r, kb, q, e, n)) = (k, r, omega arith, q, e, n)
        one (inr a) = let o = led_out (p.lit b) c d (all_clauses ps (s - b)) a in (b, s - b, omega arith, omega arith, o.0, in_meets ps (s - b) d o.1)

        two : Early p ps s (suc b) (c ∷ d) → Early p ps s b (c ∷ d) ⊎ Any (λ e. e ≡ (c ∷ d)) (block s b)
        two (k, r, kb, q, e, n) = elim (dec_le (suc k) b) [ yes y ↦ inl (k, r, y, q, e, n) | no z ↦ inr (here (equal z)) ]
          where
            equal : ¬ (suc k ≤ b) → k ≡ b
            equal z = omega arith

            here : k ≡ b → Any (λ e. e ≡ (c ∷ d)) (block s b)
            here z =
                let e1 : r ≡ s - b = omega arith in
                rw (e ∙ ap p.lit z) (led_in_lem (p.lit b) d (all_clauses ps (s - b)) (subst (λ x. Any (λ e. e ≡ d) (all_clauses ps x)) e1 (meets_in ps r d n)))

    run : (ih : Picks ps) (s m b n : ℕ) → b + n ≡ suc (min p.width s) → (seen : List L → Bool) → ((d : List L) → T (seen d) ↔ Before s m b d)
        → unseen alike seen (over (block s) b n) ≡ over (λ k. map (literals_at (p ∷ ps)) (chosen m s k)) b n
    unfolding over flatten
    run ih s m b zero e seen spec = refl
    run ih s m b (suc n) e seen spec =
        unseen-append alike seen (block s b) (over (block s) (suc b) n)
        ∙ ap₂ ◌++◌ (at ih s m b seen (omega arith) (omega arith) spec)
        (run ih s m (suc b) n (omega arith) (after alike seen (block s b)) (λ d. (
          λ t. fore d ((after_is alike (same_list_decides same decides) seen (block s b) d).0 t),
          λ x. (after_is alike (same_list_decides same decides) seen (block s b) d).1 (aft d x),
        )))
      where
        fore : (d : List L) → T (seen d) ⊎ Any (λ e. e ≡ d) (block s b) → Before s m (suc b) d
        fore d (inl t) = elim ((spec d).0 t) [ inl o ↦ inl o | inr y ↦ inr ((early_more s b d (omega arith) (omega arith)).0 (inl y)) ]
        fore d (inr a) = inr ((early_more s b d (omega arith) (omega arith)).0 (inr a))

        aft : (d : List L) → Before s m (suc b) d → T (seen d) ⊎ Any (λ e. e ≡ d) (block s b)
        aft d (inl o) = inl ((spec d).1 (inl o))
        aft d (inr y) = elim ((early_more s b d (omega arith) (omega arith)).1 y) [ inl z ↦ inl ((spec d).1 (inr z)) | inr a ↦ inr a ]

    chosen-pick : (m s : ℕ) → over (λ k. map (literals_at (p ∷ ps)) (chosen m s k)) 0 (suc (min p.width s)) ≡ map (literals_at (p ∷ ps)) (pick (fresh m) (p ∷ ps) s)
    unfolding pick
    chosen-pick zero s = sym (map-over (literals_at (p ∷ ps)) (chosen 0 s) 0 (suc (min p.width s)))
    chosen-pick (suc m) s = sym (map-over (literals_at (p ∷ ps)) (chosen (suc m) s) 0 (suc (min p.width s)))

    one_more : Picks ps → Picks (p ∷ ps)
    one_more ih s m seen spec =
        ap (unseen alike seen) (all_more p ps s)
        ∙ run ih s m 0 (suc (min p.width s)) (omega arith) seen (λ d. (λ t. inl ((spec d).0 t), λ x. elim x [ inl o ↦ (spec d).1 o | inr y ↦ absurd (never d y) ]))
        ∙ chosen-pick m s
      where
        never : (d : List L) → Early p ps s 0 d → ⊥
        never [] y = y
        never (c ∷ d) (k, r, kb, q, e, n) = omega arith

  no_place : Picks []
  unfolding offsets pick
  no_place zero m seen spec = go (seen []) (λ t. (spec []).0 t)
    where
      go : (b : Bool) → (T b → Occurs {L = L} [] 0 m []) → (if b then [] else [] ∷ []) ≡ map (literals_at {L = L} []) (pick {L = L} (fresh m) [] 0)
      go true f = let o = f tt in let g = o.1 in let e = o.3 in absurd (omega arith)
      go false f = refl
  no_place (suc s) m seen spec = refl

  picks : (ps : List (Place L)) → All Parted ps → Picks ps
  picks [] a = no_place
  picks (p ∷ ps) a = one_more p ps a.0 (picks ps a.1)

  -- the first of equal clauses, in order
  pub firsts : (ps : List (Place L)) → All Parted ps → (s : ℕ) → once alike (all_clauses ps s) ≡ map (literals_at ps) (pick true ps s)
  firsts ps a s =
      once-unseen alike (all_clauses ps s)
      ∙ picks ps a s 0 (λ d. false) (λ d. (λ t. absurd t, λ o. (let g = o.1 in let u = o.2 in absurd (omega arith))))
