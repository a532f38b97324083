-- What each reader of the record reads: a good part (01, "The record"), by its fields. Assumes nothing.
use Rattle.std.specs.Prelude.{◌≡◌, refl, ◌≢◌, ◌&&◌, length, leb, ℤ, pos, ◌≤ℤ◌}
use Rattle.std.proofs.Common.{sym, ap, arith}
use mathlib.Core.List.{List, [], ◌∷◌, ◌++◌, map, flatten}
use Prim.Native.Nat.{ℕ, zero, suc, ◌≤◌, ◌<◌, zero-le}
use Rattle.std.specs.Int.Signed.{le_z}
use Rattle.definitions.specs.Tools.{All, neg, eq_z}
use Rattle.definitions.specs.Board.{Bounds, Term, Comparison, Literal, Clause, Board, is_true, is_false, at_most}
use Rattle.definitions.specs.Reading.{Context, count, bound, read_bounds, boolean, read_terms, read_comparison, of_kind, read_literal, read_clause, read_body}
use Rattle.laws.specs.Whole.{whole}
use Rattle.laws.specs.Lists.{all_impl, all_both, all_every}
use Rattle.laws.specs.Decide.{Decides, apart, both, at-most, at_most_z, is_within}
use Rattle.laws.specs.Some.{new}
use Rattle.laws.specs.Admitted.{Differ, GoodBounds, GoodTerm, GoodComparison, GoodLiteral, GoodClause, Admitted}
use Rattle.laws.specs.Spelling.{Field, several, natural, integer, bounds_fields, term_fields, comparison_fields, literal_fields, clause_fields, body_fields}
use Rattle.laws.specs.Grammar.{Grammar, ◌⇒◌, Just, just, Spelt, spelt, Then, ◌then◌, Image, image, Reads, reads_as, reads-give, reads-asked, reads_bind, reads-mapped, reads_times, reads-unsigned, reads-signed, reads-tested, Many}

-- ---- tests
pub equals_z : (a b : ℤ) → Decides (eq_z a b) (a ≡ b)
equals_z a b =
    let d = both (le_z a b) (le_z b a) (at_most_z a b) (at_most_z b a) in
    record {
      sound = λ t. let h = d.sound t in omega (whole, h.0, h.1);
      full = λ e. d.full (omega whole, omega whole);
    }

-- ---- fields
abbrev pub FromTo : ℕ → ℕ → ℕ → Type 0
FromTo least most n = (least ≤ n) × (n ≤ most)

abbrev pub Within : ℤ → ℤ → ℤ → Type 0
Within lo hi z = (lo ≤ℤ z) × (z ≤ℤ hi)

pub from-to : (least most n : ℕ) → Decides (leb least n && leb n most) (FromTo least most n)
from-to least most n = both (leb least n) (leb n most) (at-most least n) (at-most n most)

abbrev Natural : (ℕ → Type 0) → ℕ → Grammar ℕ
Natural Good n = Spelt Good (λ v. natural n v ∷ [])

abbrev Signed : (ℤ → Type 0) → ℕ → Grammar ℤ
Signed Good n = Spelt Good (λ z. integer n z ∷ [])

pub reads-count : (least most n : ℕ) → Reads (count least most n) (Natural (FromTo least most) n)
unfolding count
reads-count least most n = reads-tested 4 (reads-unsigned n) (from-to least most)

reads-bound : Reads bound (Signed (Within (neg 4096) (pos 4095)) 2)
unfolding bound
reads-bound = reads-tested 5 (reads-signed 2) (is_within (neg 4096) (pos 4095))

-- ---- bounds
pub reads_bounds : Reads read_bounds (Spelt GoodBounds bounds_fields)
unfolding read_bounds
reads_bounds = reads_as (reads_bind reads-bound λ l. reads-mapped (λ u. record { lo = l; hi = u }) (reads-asked 5 reads-bound (at_most_z l))) to from
  where
    Raw : Grammar Bounds
    Raw =
        Then (Signed (Within (neg 4096) (pos 4095)) 2) λ l.
        Image (λ u. record { lo = l; hi = u }) (Signed (λ u. Within (neg 4096) (pos 4095) u × (l ≤ℤ u)) 2)

    to : Raw ⇒ Spelt GoodBounds bounds_fields
    to b fs (spelt l then image (spelt u)) = spelt (record { lowest = l.0; ordered = u.1; highest = u.0.1 })

    from : Spelt GoodBounds bounds_fields ⇒ Raw
    from b fs (spelt g) = spelt (g.lowest, omega whole) then image {a = b.hi} (spelt ((omega whole, g.highest), g.ordered))

-- ---- clauses
-- none of the numbers stands in another list
abbrev Apart : List ℕ → List ℕ → Type 0
Apart seen xs = All (λ x. All (λ y. x ≢ y) seen) xs

apart_cons : (x : ℕ) (seen xs : List ℕ) → Apart (x ∷ seen) xs → All (λ y. x ≢ y) xs × Apart seen xs
apart_cons x seen xs a = (all_impl _ _ (λ y h e. h.0 (sym e)) xs a, all_impl _ _ (λ y h. h.1) xs a)

cons_apart : (x : ℕ) (seen xs : List ℕ) → All (λ y. x ≢ y) xs → Apart seen xs → Apart (x ∷ seen) xs
cons_apart x seen xs h a = all_both _ _ _ (λ y d k. ((λ e. d (sym e)), k)) xs h a

-- n terms whose variables differ, also from those seen
pub record GoodTerms (ints : ℕ) (seen : List ℕ) (n : ℕ) (ts : List Term) : Type 0 where
  pub many : length ts ≡ n
  pub good : All (GoodTerm ints) ts
  pub differ : Differ (map (λ t. t.var) ts)
  pub new : Apart seen (map (λ t. t.var) ts)

module _ (ctx : Context) where
  pub reads_terms : (seen : List ℕ) (n : ℕ) → Reads (read_terms ctx seen n) (Spelt (GoodTerms ctx.ints seen n) (several term_fields))
  unfolding read_terms flatten
  reads_terms seen zero = reads_as (reads-give []) to from
    where
      to : Just [] ⇒ Spelt (GoodTerms ctx.ints seen 0) (several term_fields)
      to ts fs just = spelt (record { many = refl; good = tt; differ = tt; new = tt })

      from : Spelt (GoodTerms ctx.ints seen 0) (several term_fields) ⇒ Just []
      from [] fs (spelt g) = just
      from (t ∷ ts) fs (spelt g) = absurd (omega (arith, g.many))
  reads_terms seen (suc n) = reads_as (
      reads_bind (reads-tested 7 (reads-signed 1) (λ a. both _ _ (is_within (neg 64) (pos 64) a) (apart _ (equals_z a (pos 0))))) λ a.
      reads_bind (reads-asked 16 (reads-tested 15 (reads-unsigned 2) (λ x. at-most (suc x) ctx.ints)) (λ x. new x seen)) λ x.
      reads-mapped (λ ts. record { coef = a; var = x } ∷ ts) (reads_terms (x ∷ seen) n)) to from
    where
      Raw : Grammar (List Term)
      Raw =
          Then (Signed (λ a. Within (neg 64) (pos 64) a × (a ≢ pos 0)) 1) λ a.
          Then (Natural (λ x. (x < ctx.ints) × All (λ y. x ≢ y) seen) 2) λ x.
          Image (λ ts. record { coef = a; var = x } ∷ ts) (Spelt (GoodTerms ctx.ints (x ∷ seen) n) (several term_fields))

      to : Raw ⇒ Spelt (GoodTerms ctx.ints seen (suc n)) (several term_fields)
      to ts fs (spelt a then ◌then◌ {a = v} (spelt x) (image {a = us} (spelt g))) =
          let p = apart_cons v seen (map (λ t. t.var) us) g.new in
          spelt (record {
            many = ap suc g.many;
            good = (record { least = a.0.0; most = a.0.1; some = a.1; known = x.0 }, g.good);
            differ = (p.0, g.differ);
            new = (x.1, p.1);
          })

      from : Spelt (GoodTerms ctx.ints seen (suc n)) (several term_fields) ⇒ Raw
      from [] fs (spelt g) = absurd (omega (arith, g.many))
      from (t ∷ ts) fs (spelt g) =
          spelt ((g.good.0.least, g.good.0.most), g.good.0.some) then
          spelt (g.good.0.known, g.new.0) then
          image {a = ts} (spelt (record { many = omega (arith, g.many); good = g.good.1; differ = g.differ.1; new = cons_apart t.var seen (map (λ t. t.var) ts) g.differ.0 g.new.1 }))

  pub reads_comparison : Reads (read_comparison ctx) (Spelt (GoodComparison ctx.ints) comparison_fields)
  unfolding read_comparison
  reads_comparison = reads_as (
      reads_bind (reads-count 1 3 1) λ n.
      reads_bind (reads_terms [] n) λ ts.
      reads-mapped (λ k. record { terms = ts; constant = k }) (reads-tested 17 (reads-signed 4) (is_within (neg 1000000) (pos 1000000)))) to from
    where
      Raw : Grammar Comparison
      Raw =
          Then (Natural (FromTo 1 3) 1) λ n.
          Then (Spelt (GoodTerms ctx.ints [] n) (several term_fields)) λ ts.
          Image (λ k. record { terms = ts; constant = k }) (Signed (Within (neg 1000000) (pos 1000000)) 4)

      joined : {n : ℕ} {ts : List Term} {q : Comparison} {fs gs : List Field} → FromTo 1 3 n → Spelt (GoodTerms ctx.ints [] n) (several term_fields) ts fs
          → Image (λ k. record { terms = ts; constant = k }) (Signed (Within (neg 1000000) (pos 1000000)) 4) q gs
          → Spelt (GoodComparison ctx.ints) comparison_fields q (natural 1 n ∷ (fs ++ gs))
      joined n (spelt g) (image (spelt k)) =
          rw (← g.many) (spelt (record { some = omega (arith, g.many); few = omega (arith, g.many); terms = g.good; differ = g.differ; least = k.0; most = k.1 }))

      to : Raw ⇒ Spelt (GoodComparison ctx.ints) comparison_fields
      to q fs (spelt n then g then k) = joined n g k

      from : Spelt (GoodComparison ctx.ints) comparison_fields ⇒ Raw
      from q fs (spelt g) =
          spelt (g.some, g.few) then
          spelt (record { many = refl; good = g.terms; differ = g.differ; new = all_every (λ x. Unit {0}) (λ x. tt) (map (λ t. t.var) q.terms) }) then
          image (spelt (g.least, g.most))

  reads-boolean : Reads (boolean ctx) (Natural (FromTo 1 ctx.bools) 2)
  unfolding boolean
  reads-boolean = reads-tested 6 (reads-unsigned 2) (from-to 1 ctx.bools)

  abbrev OfKind : ℕ → Grammar Literal
  OfKind zero = Image is_true (Natural (FromTo 1 ctx.bools) 2)
  OfKind (suc zero) = Image is_false (Natural (FromTo 1 ctx.bools) 2)
  OfKind (suc (suc k)) = Image at_most (Spelt (GoodComparison ctx.ints) comparison_fields)

  reads_kind : (k : ℕ) → Reads (of_kind ctx k) (OfKind k)
  unfolding of_kind
  reads_kind zero = reads-mapped is_true reads-boolean
  reads_kind (suc zero) = reads-mapped is_false reads-boolean
  reads_kind (suc (suc k)) = reads-mapped at_most reads_comparison

  pub reads_literal : Reads (read_literal ctx) (Spelt (GoodLiteral ctx.ints ctx.bools) literal_fields)
  unfolding read_literal
  reads_literal = reads_as (reads_bind (reads-tested 6 (reads-unsigned 1) (λ k. at-most k 2)) reads_kind) to from
    where
      Raw : Grammar Literal
      Raw = Then (Natural (λ k. k ≤ 2) 1) OfKind

      to : Raw ⇒ Spelt (GoodLiteral ctx.ints ctx.bools) literal_fields
      to l fs (◌then◌ {a = zero} (spelt k) (image (spelt g))) = spelt g
      to l fs (◌then◌ {a = suc zero} (spelt k) (image (spelt g))) = spelt g
      to l fs (◌then◌ {a = suc (suc zero)} (spelt k) (image (spelt g))) = spelt g
      to l fs (◌then◌ {a = suc (suc (suc n))} (spelt k) (image (spelt g))) = absurd (omega arith)

      from : Spelt (GoodLiteral ctx.ints ctx.bools) literal_fields ⇒ Raw
      from (is_true b) fs (spelt g) = ◌then◌ {a = 0} (spelt (omega arith)) (image (spelt g))
      from (is_false b) fs (spelt g) = ◌then◌ {a = 1} (spelt (omega arith)) (image (spelt g))
      from (at_most q) fs (spelt g) = ◌then◌ {a = 2} (spelt (omega arith)) (image (spelt g))

  pub reads-clause : Reads (read_clause ctx) (Spelt (GoodClause ctx.ints ctx.bools) clause_fields)
  unfolding read_clause
  reads-clause = reads_as (reads_bind (reads-count 0 64 1) λ n. reads_times reads_literal n) to from
    where
      Raw : Grammar Clause
      Raw = Then (Natural (FromTo 0 64) 1) λ n. Spelt (Many (GoodLiteral ctx.ints ctx.bools) n) (several literal_fields)

      to : Raw ⇒ Spelt (GoodClause ctx.ints ctx.bools) clause_fields
      to C fs (spelt n then spelt g) = rw (← g.0) (spelt (record { few = omega (arith, g.0); literals = g.1 }))

      from : Spelt (GoodClause ctx.ints ctx.bools) clause_fields ⇒ Raw
      from C fs (spelt g) = spelt (zero-le, g.few) then spelt (refl, g.literals)

-- ---- the board
pub reads-body : (version : ℕ) → Reads (read_body version) (Spelt Admitted body_fields)
unfolding read_body
reads-body version = reads_as (
    reads_bind (reads-count 0 1024 2) λ v.
    reads_bind (reads-count 0 4096 2) λ m.
    reads_bind (reads-count 0 4096 2) λ c.
    reads_bind (reads_times reads_bounds v) λ bs.
    reads-mapped (λ cs. record { bounds = bs; bools = m; clauses = cs }) (reads_times (reads-clause (record { version = version; ints = v; bools = m })) c)) to from
  where
    Raw : Grammar Board
    Raw =
        Then (Natural (FromTo 0 1024) 2) λ v.
        Then (Natural (FromTo 0 4096) 2) λ m.
        Then (Natural (FromTo 0 4096) 2) λ c.
        Then (Spelt (Many GoodBounds v) (several bounds_fields)) λ bs.
        Image (λ cs. record { bounds = bs; bools = m; clauses = cs }) (Spelt (Many (GoodClause v m) c) (several clause_fields))

    joined : {v m c : ℕ} {bs : List Bounds} {B : Board} {fs gs : List Field} → FromTo 0 1024 v → FromTo 0 4096 m → FromTo 0 4096 c
        → Spelt (Many GoodBounds v) (several bounds_fields) bs fs
        → Image (λ cs. record { bounds = bs; bools = m; clauses = cs }) (Spelt (Many (GoodClause v m) c) (several clause_fields)) B gs
        → Spelt Admitted body_fields B (natural 2 v ∷ natural 2 m ∷ natural 2 c ∷ (fs ++ gs))
    joined v m c (spelt bs) (image (spelt cs)) =
        rw (← bs.0, ← cs.0) (spelt (record { ints = omega (arith, bs.0); bools = m.1; rules = omega (arith, cs.0); bounds = bs.1; clauses = rw bs.0 cs.1 }))

    to : Raw ⇒ Spelt Admitted body_fields
    to B fs (spelt v then spelt m then spelt c then bs then cs) = joined v m c bs cs

    from : Spelt Admitted body_fields ⇒ Raw
    from B fs (spelt g) =
        spelt (zero-le, g.ints) then spelt (zero-le, g.bools) then spelt (zero-le, g.rules) then
        spelt (refl, g.bounds) then image (spelt (refl, g.clauses))
