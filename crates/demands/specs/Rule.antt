-- A comparison's clauses say the comparison (000, Lemma 1 and Proposition 1; one empty clause where it says nothing). Assumes nothing.
use Rattle.std.specs.Prelude.{◌≡◌, ◌↔◌, ◌⊎◌, ◌≢◌, Bool, ℕ, T, ◌+ℤ◌, ◌-ℤ◌, ◌*ℤ◌, ◌≤ℤ◌, ◌<ℤ◌}
use Rattle.std.proofs.Math.Path.{refl}
use Rattle.std.proofs.Common.{sym, inl, inr, T_not}
use Rattle.std.proofs.Math.Bool.{true, false}
use mathlib.Core.List.{List, [], ◌∷◌, map, zip_with, map-map}
use Rattle.std.proofs.Math.Dec.{not_T}
use Rattle.std.proofs.Math.IntN.{ℤ, pos}
use Rattle.std.specs.Int.Signed.{le_z, lt_z}
use Rattle.definitions.specs.Tools.{All, Any, floor, ceil, sum_z}
use Rattle.definitions.specs.Board.{Bounds, Term, Comparison}
use Rattle.definitions.specs.Encoding.{Atom, SatLiteral, SatClause, order, minus, term_bounds, least, tuples_of, sharp, clauses_under}
use Rattle.definitions.specs.Meaning.{Assignment, satisfies, compares}
use Rattle.laws.specs.Whole.{whole, add_law, mul_rises, mul_falls, ne_in, part_law}
use Rattle.laws.specs.Division.{below_floor, not-below-ceil, floor-within, ceil-within}
use Rattle.laws.specs.Lists.{all_every, all_impl, all_map, map-all}
use Rattle.demands.specs.Truth.{Holds, Satisfied, Tells}
use Rattle.demands.specs.TupleRule.{Bounded, two-numbers, tuple-rule, low_sum}

-- ---- linear expressions: α(e) under an assignment, and u(e); ℓ(e) is `least of e`
abbrev pub value_at : Assignment → List Term → ℤ
value_at αβ e = sum_z (map (λ t. t.coef *ℤ αβ.α t.var) e)

abbrev pub greatest : (ℕ → Bounds) → List Term → ℤ
greatest of e = sum_z (map (λ t. (term_bounds of t).hi) e)

-- the variable of a term has a value within its bounds
abbrev pub InBounds : (ℕ → Bounds) → Assignment → Term → Type 0
InBounds of αβ t = ((of t.var).lo ≤ℤ αβ.α t.var) × (αβ.α t.var ≤ℤ (of t.var).hi)

module _ (of : ℕ → Bounds) (αβ : Assignment) where
  abbrev Within : Term → Type 0
  Within t = let v = t.coef *ℤ αβ.α t.var in ((term_bounds of t).lo ≤ℤ v) × (v ≤ℤ (term_bounds of t).hi)

  term-within : (t : Term) → InBounds of αβ t → Within t
  unfolding term_bounds
  term-within t h = go (lt_z (pos 0) t.coef) refl
    where
      go : (s : Bool) → lt_z (pos 0) t.coef ≡ s → Within t
      go true e = let p : pos 0 <ℤ t.coef = omega whole in rw e (mul_rises t.coef _ _ p h.0, mul_rises t.coef _ _ p h.1)
      go false e = let p : t.coef ≤ℤ pos 0 = omega whole in rw e (mul_falls t.coef _ _ p h.1, mul_falls t.coef _ _ p h.0)

  sum-within : (e : List Term) → All (InBounds of αβ) e → (least of e ≤ℤ value_at αβ e) × (value_at αβ e ≤ℤ greatest of e)
  unfolding least
  sum-within [] h = (omega whole, omega whole)
  sum-within (t ∷ e) h =
      let w = term-within t h.0 in
      let r = sum-within e h.1 in
      let value = add_law (t.coef *ℤ αβ.α t.var) (value_at αβ e) in
      (omega (whole, w.0, r.0, value, add_law (term_bounds of t).lo (least of e)), omega (whole, w.1, r.1, value, add_law (term_bounds of t).hi (greatest of e)))

  -- e + f ≤ c exactly if, for all a and b in their ranges with a + b = c - 1, e ≤ a or f ≤ b
  pub lemma_1 : (e f : List Term) (c : ℤ) → All (InBounds of αβ) e → All (InBounds of αβ) f → (least of e +ℤ least of f) ≤ℤ c →
      ((value_at αβ e +ℤ value_at αβ f) ≤ℤ c) ↔
      ((a b : ℤ) → a +ℤ b ≡ c -ℤ pos 1 → (least of e -ℤ pos 1) ≤ℤ a → a ≤ℤ greatest of e → (least of f -ℤ pos 1) ≤ℤ b → b ≤ℤ greatest of f → (value_at αβ e ≤ℤ a) ⊎ (value_at αβ f ≤ℤ b))
  lemma_1 e f c h k =
      let w = sum-within e h in
      let z = sum-within f k in
      two-numbers _ _ _ _ _ _ c w.0 w.1 z.0 z.1

-- ---- (ax ≤ b)^#: the term lies within its bounds, and its literal says ax ≤ b
module _ (of : ℕ → Bounds) (v : Atom → Bool) (a : Assignment) where
  -- a coefficient that is not 0, of a variable whose value v tells
  abbrev pub KnownTerm : Term → Type 0
  KnownTerm t = (t.coef ≢ pos 0) × Tells of v t.var (a.α t.var)

  abbrev value : Term → ℤ
  value t = t.coef *ℤ a.α t.var

  abbrev True : SatLiteral → Type 0
  True l = T (satisfies v l)

  abbrev Says : Term → Type 0
  Says = Bounded (λ t. (term_bounds of t).lo) (λ t. (term_bounds of t).hi) value True sharp

  says : (t : Term) → KnownTerm t → Says t
  unfolding term_bounds sharp satisfies
  says t h = go (lt_z (pos 0) n) refl
    where
      n : ℤ
      n = t.coef

      x : Bounds
      x = of t.var

      told : Tells of v t.var (a.α t.var)
      told = h.1

      inside : Within of a t
      inside = term-within of a t (told.least, told.most)

      go : (s : Bool) → lt_z (pos 0) t.coef ≡ s → Says t
      go true e =
          let p : pos 0 <ℤ n = omega whole in
          record {
            least = inside.0;
            most = inside.1;
            says = λ b l u.
                let c = floor-within n x.lo x.hi b p (rw e at l) (rw e at u) in
                let s = told.says (floor b n) c.0 c.1 in
                let w = below_floor n b (a.α t.var) p in
                rw e (λ k. w.1 (s.0 k), λ k. s.1 (w.0 k));
          }
      go false e =
          let p : n <ℤ pos 0 = omega (whole, ne_in n (pos 0) h.0, part_law n) in
          record {
            least = inside.0;
            most = inside.1;
            says = λ b l u.
                let c = ceil-within n x.lo x.hi b p (rw e at l) (rw e at u) in
                let s = told.says (ceil b n -ℤ pos 1) c.0 c.1 in
                let w = not-below-ceil n b (a.α t.var) p in
                let m = v (order t.var (ceil b n -ℤ pos 1)) in
                rw e (λ k. w.1 (λ n. T_not m k (s.1 n)), λ k. not_T m (λ n. w.0 k (s.0 n)));
          }

  -- all clauses hold exactly if the comparison does
  pub proposition_1 : (q : Comparison) → All KnownTerm q.terms → Satisfied v (clauses_under [] of q) ↔ T (compares a q)
  unfolding clauses_under tuples_of least compares
  proposition_1 q h = go (le_z (least of ts) q.constant) refl
    where
      ts : List Term
      ts = q.terms

      sum : ℤ
      sum = sum_z (map value ts)

      said : All Says ts
      said = all_impl KnownTerm Says says ts h

      go : (s : Bool) → le_z (least of ts) q.constant ≡ s → Satisfied v (clauses_under [] of q) ↔ T (le_z sum q.constant)
      go true e =
          let rule = tuple-rule _ _ value True sharp ts q.constant said (omega whole) in
          rw e (
            λ s. (rule.0 (map-all (Any True) (zip_with sharp ts) (tuples_of of q) s)).le,
            λ s. all_map (Any True) (zip_with sharp ts) (tuples_of of q) (rule.1 (record { le = s })),
          )
      go false e =
          let least = low_sum _ _ value True sharp ts said in
          rw e (λ s. absurd s.0, λ s. absurd (let k : sum ≤ℤ q.constant = record { le = s } in omega (whole, least)))

-- ---- led by a negated selector: where that is true
led_by : (l : SatLiteral) (of : ℕ → Bounds) (q : Comparison) → clauses_under (l ∷ []) of q ≡ map (λ c. l ∷ c) (clauses_under [] of q)
unfolding clauses_under
led_by l of q = go (le_z (least of q.terms) q.constant) refl
  where
    go : (s : Bool) → le_z (least of q.terms) q.constant ≡ s → clauses_under (l ∷ []) of q ≡ map (λ c. l ∷ c) (clauses_under [] of q)
    go true e = rw e (sym (map-map (λ c. l ∷ c) (zip_with sharp q.terms) (tuples_of of q)))
    go false e = rw e refl

pub led : (of : ℕ → Bounds) (v : Atom → Bool) (j : Atom) (q : Comparison) → Satisfied v (clauses_under (minus j ∷ []) of q) ↔ (T (v j) → Satisfied v (clauses_under [] of q))
unfolding satisfies
led of v j q = rw (led_by (minus j) of q) (to, λ f. all_map (Holds v) (λ c. minus j ∷ c) cs (from (v j) refl f))
  where
    cs : List SatClause
    cs = clauses_under [] of q

    to : Satisfied v (map (λ c. minus j ∷ c) cs) → T (v j) → Satisfied v cs
    to a t = all_impl (λ c. Holds v (minus j ∷ c)) (Holds v) past cs (map-all (Holds v) (λ c. minus j ∷ c) cs a)
      where
        past : (c : SatClause) → Holds v (minus j ∷ c) → Holds v c
        past c (inl n) = absurd (T_not (v j) n t)
        past c (inr k) = k

    from : (s : Bool) → v j ≡ s → (T s → Satisfied v cs) → All (λ c. Holds v (minus j ∷ c)) cs
    from true e f = all_impl (Holds v) (λ c. Holds v (minus j ∷ c)) (λ c k. inr k) cs (f tt)
    from false e f = all_every (λ c. Holds v (minus j ∷ c)) (λ c. inl (rw e tt)) cs
