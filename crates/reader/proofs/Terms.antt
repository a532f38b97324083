-- A comparison: the variables seen before, one term more, and the parts together. Assumes nothing.
use mathlib.Core.Path.{◌≡◌, refl, sym, ap, ◌∙◌}
use mathlib.Core.Bool.{false, not, ◌&&◌, ◌||◌}
use mathlib.Core.List.{List, [], ◌∷◌}
use Prim.Native.Nat.{ℕ, zero, suc, ◌+◌, ◌*◌, ◌-◌, ◌≤◌, ◌<◌}
use native.Mathlib.Numerals.{add-one, sub-one}
use native.Mathlib.Nat.{sub-zero}
use native.Mathlib.Omega.{arith}
use lib.ListN.{length}
use lib.Dec.{ltb, eqb}
use lib.IntN.{ℤ, pos}
use Rattle.definitions.specs.Tools.{any, neg, eq_z, within}
use Rattle.definitions.specs.Board.{Term}
use Rattle.definitions.specs.Result.{Result, done, refused}
use Rattle.definitions.specs.Result as result
use Rattle.definitions.specs.Reading.{Got, Context, big, twos, unsigned, signed, count, read_terms, read_comparison}
use Rattle.reader.specs.declared.Why.{Why}
use Rattle.laws.specs.Readings.{same}
use Rattle.fields.proofs.Laws.{unsigned_got, signed_got}
use Rattle.reader.specs.Parts.{past, number_from, coefficient, variable, read_term, constant}
use Rattle.laws.specs.Reread.{term_at, comparison_at, comparison_read}
use Rattle.reader.specs.Seen.{seen_at}
use Rattle.reader.proofs.Steps.{asked_got, passed, bind_bind, past_done, past_refused, past_made, past_both}

-- ---- the variables seen before
module _ (s : List ℕ) (first x : ℕ) where
  pub seen_turn : (n : ℕ) → 0 < n → any (eqb x) (seen_at s first n) ≡ eqb x (big s (first + 3 * (n - 1) + 1) 2) || any (eqb x) (seen_at s first (n - 1))
  unfolding seen_at
  seen_turn zero h = absurd (omega arith)
  seen_turn (suc n) h = rw sub-one

  pub seen_none : (n : ℕ) → n ≤ 0 → any (eqb x) (seen_at s first n) ≡ false
  unfolding seen_at
  seen_none zero h = refl
  seen_none (suc n) h = absurd (omega arith)

-- ---- one term
coefficient_got : (s : List ℕ) (at : ℕ) {g : Got ℤ} → coefficient s at ≡ done g → (g ≡ record { value = twos 1 (big s at 1); next = at + 1 }) × (at + 1 ≤ length s)
unfolding coefficient
coefficient_got s at e = signed_got 1 s at (asked_got 7 at (λ a. within (neg 64) (pos 64) a && not (eq_z a (pos 0))) (signed 1 s at) e)

variable_got : (ctx : Context) (seen : List ℕ) (s : List ℕ) (at : ℕ) {g : Got ℕ} → variable ctx seen s at ≡ done g → (g ≡ record { value = big s at 2; next = at + 2 }) × (at + 2 ≤ length s)
unfolding variable
variable_got ctx seen s at e = unsigned_got 2 s at (asked_got 15 at (λ x. ltb x ctx.ints) (unsigned 2 s at) (asked_got 16 at (λ x. not (any (eqb x) seen)) _ e))

module _ (ctx : Context) (seen : List ℕ) (s : List ℕ) (at : ℕ) where
  pub term-past : past (read_term ctx seen s at) ≡ result.◌>>=◌ (past (coefficient s at)) (λ p. past (variable ctx seen s p))
  unfolding read_term
  term-past = past_both (λ a x. record { coef = a; var = x }) (variable ctx seen s) (coefficient s at)

  term_got : {g : Got Term} → read_term ctx seen s at ≡ done g
      → (g ≡ record { value = record { coef = twos 1 (big s at 1); var = big s (at + 1) 2 }; next = at + 1 + 2 }) × (at + 1 + 2 ≤ length s)
  unfolding read_term
  term_got {g} e =
      let p = passed (coefficient s at) _ e in
      let q = passed (variable ctx seen s p.got.next) _ p.rest in
      join p.got q.got (coefficient_got s at p.read).0 (variable_got ctx seen s p.got.next q.read) (same q.rest)
    where
      join : (a : Got ℤ) (x : Got ℕ) → a ≡ record { value = twos 1 (big s at 1); next = at + 1 } → (x ≡ record { value = big s a.next 2; next = a.next + 2 }) × (a.next + 2 ≤ length s)
          → record { value = record { coef = a.value; var = x.value }; next = x.next } ≡ g
          → (g ≡ record { value = record { coef = twos 1 (big s at 1); var = big s (at + 1) 2 }; next = at + 1 + 2 }) × (at + 1 + 2 ≤ length s)
      join a x c v d = rw (← d, v.0, c) (refl, rw c at v.1)

  -- the terms are one and the others
  terms_more : (n : ℕ) → read_terms ctx seen (suc n) s at
      ≡ result.◌>>=◌ (read_term ctx seen s at) (λ g. result.◌>>=◌ (read_terms ctx (g.value.var ∷ seen) n s g.next) (λ h. done (record { value = g.value ∷ h.value; next = h.next })))
  unfolding read_terms read_term coefficient variable
  terms_more n =
      bind_bind (λ g. variable ctx seen s g.next) (λ g h. record { value = record { coef = g.value; var = h.value }; next = h.next })
      (λ g. result.◌>>=◌ (read_terms ctx (g.value.var ∷ seen) n s g.next) (λ h. done (record { value = g.value ∷ h.value; next = h.next })))
      (coefficient s at)

-- ---- the terms that begin at a place
module _ (ctx : Context) (s : List ℕ) (first : ℕ) where
  abbrev at : ℕ → ℕ
  at i = first + 3 * i

  abbrev term : ℕ → Result (Got Term)
  term i = read_term ctx (seen_at s first i) s (at i)

  term_there : (i : ℕ) {g : Got Term} → term i ≡ done g → (g ≡ record { value = term_at s (at i); next = at (suc i) }) × (at (suc i) ≤ length s)
  term_there i e =
      let n : at i + 1 + 2 ≡ at (suc i) = omega arith in
      rw (← n) (term_got ctx (seen_at s first i) s (at i) e)

  terms_turn : (i left : ℕ) {p : ℕ} → past (term i) ≡ done p
      → (p ≡ at (suc i)) × ((p ≤ length s) × (past (read_terms ctx (seen_at s first i) (suc left) s (at i)) ≡ past (read_terms ctx (seen_at s first (suc i)) left s p)))
  unfolding seen_at
  terms_turn i left {p} d =
      let q = past_done (term i) d in
      let t = term_there i q.read in
      let n : at (suc i) ≡ p = ap (λ g. g.next) (sym t.0) ∙ same q.rest in
      rw (terms_more ctx (seen_at s first i) s (at i) left, q.read, t.0, ← n)
      (refl, (t.1, past_made (λ ts. term_at s (at i) ∷ ts) (read_terms ctx ((term_at s (at i)).var ∷ seen_at s first i) left s (at (suc i)))))

  module _ (n : ℕ) where
    abbrev all : Result ℕ
    all = past (read_terms ctx [] n s first)

    -- after i of n terms
    pub record Passing (i place : ℕ) : Type 0 where
      pub few : i ≤ n
      pub here : place ≡ at i
      pub inside : place ≤ length s
      pub others : past (read_terms ctx (seen_at s first i) (n - i) s place) ≡ all

    pub passing_none : first ≤ length s → Passing 0 first
    unfolding seen_at
    passing_none h = record { few = omega arith; here = omega arith; inside = h; others = rw sub-zero }

    pub passing-more : {i place p : ℕ} → i < n → Passing i place → past (term i) ≡ done p → Passing (i + 1) p
    passing-more {i} {place} {p} h o d =
        let t = terms_turn i (n - suc i) d in
        let e : n - i ≡ suc (n - suc i) = omega arith in
        record { few = omega arith; here = omega (arith, t.0); inside = t.1.0; others = rw (add-one, ← t.1.1, ← e, ← o.here) o.others }

    pub passing_stop : {i place why d : ℕ} → i < n → Passing i place → past (term i) ≡ refused why d → all ≡ refused why d
    passing_stop {i} h o d =
        let e : n - i ≡ suc (n - suc i) = omega arith in
        rw (← o.others, o.here, e, terms_more ctx (seen_at s first i) s (at i) (n - suc i), past_refused (term i) d)

    pub passing-all : {i place : ℕ} → n ≤ i → Passing i place → all ≡ done place
    unfolding read_terms
    passing-all {i} h o = let e : n - i ≡ 0 = omega arith in rw (← o.others, e)

-- ---- the comparison: a count, terms that are passed, a constant
module _ (ctx : Context) (s : List ℕ) (at : ℕ) {n first : ℕ} (counted : number_from Why.Count 1 3 1 s at ≡ done (record { value = n; next = first })) where
  pub terms_refused : {why d : ℕ} → past (read_terms ctx [] n s first) ≡ refused why d → read_comparison ctx s at ≡ refused why d
  unfolding read_comparison count number_from
  terms_refused e = rw (counted, past_refused (read_terms ctx [] n s first) e)

  module _ {p : ℕ} (terms : past (read_terms ctx [] n s first) ≡ done p) where
    pub constant_refused : {why d : ℕ} → constant s p ≡ refused why d → read_comparison ctx s at ≡ refused why d
    unfolding read_comparison count number_from constant
    constant_refused e = let q = past_done (read_terms ctx [] n s first) terms in rw (counted, q.read, same q.rest, e)

    read : (h : Got (List Term)) → read_terms ctx [] n s first ≡ done h → h.next ≡ p → {k : ℤ} {end : ℕ} → constant s p ≡ done (record { value = k; next = end })
        → read_comparison ctx s at ≡ done (record { value = record { terms = h.value; constant = k }; next = end })
    unfolding read_comparison count number_from constant
    read h r x e = rw (counted, r, x, e)

    -- its terms are those that stand there
    pub comparison_done : {k : ℤ} {end : ℕ} → constant s p ≡ done (record { value = k; next = end })
        → read_comparison ctx s at ≡ done (record { value = comparison_at s at k; next = end })
    comparison_done e =
        let q = past_done (read_terms ctx [] n s first) terms in
        let r = read q.got q.read (same q.rest) e in
        rw (← (comparison_read ctx s at _ r).terms) r
