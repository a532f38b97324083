-- The literals and clauses of an accepted record, read again without checks. Assumes nothing.
use Rattle.std.specs.Prelude.{◌≡◌, List, [], ◌∷◌, ℕ, zero, suc, ◌+◌, ◌*◌, ◌-◌, ◌≤◌, ◌<◌, length}
use Rattle.std.proofs.Math.Path.{refl}
use Rattle.std.proofs.Common.{sym, ap, ap₂, ◌∙◌, sub-one, arith}
use Rattle.definitions.specs.Board.{Literal, Clause, is_true, is_false, at_most}
use Rattle.definitions.specs.Result.{Result, done, refused}
use Rattle.definitions.specs.Result as result
use Rattle.definitions.specs.Reading.{Got, Reader, Context, times, big, count, read_literal, read_clause}
use Rattle.laws.specs.Admitted.{GoodLiteral}
use Rattle.laws.specs.Readings.{same, never, times-parts}
use Rattle.laws.specs.Spelling.{Stand, none, more, literal_fields, natural}
use Rattle.laws.specs.Grammar.{found}
use Rattle.laws.specs.Reads.{reads-count, reads_literal}
use Rattle.laws.specs.Reread.{comparison_at, constant_at, comparison_stand}

-- ---- parts, one after another
module _ {A : Type 0} (f : List ℕ → ℕ → Got A) (t : List ℕ) where
  abbrev pub parts_at : ℕ → ℕ → Got (List A)
  parts_at zero at = record { value = []; next = at }
  parts_at (suc n) at = record { value = (f t at).value ∷ (parts_at n (f t at).next).value; next = (parts_at n (f t at).next).next }

  pub parts-length : (n at : ℕ) → length (parts_at n at).value ≡ n
  parts-length zero at = refl
  parts-length (suc n) at = ap suc (parts-length n (f t at).next)

  -- what the reader r reads is what f says
  module _ (r : Reader A) (again : (at : ℕ) (g : Got A) → r t at ≡ done g → g ≡ f t at) where
    pub parts_are : (n at : ℕ) (g : Got (List A)) → times n r t at ≡ done g → g ≡ parts_at n at
    parts_are zero at g e = sym (same e)
    parts_are (suc n) at g e =
        let p = times-parts r t at {k = suc n} {n = n} refl e in
        p.joined
        ∙ ap (λ o. record { value = p.first.value ∷ o.value; next = o.next }) (parts_are n p.first.next p.others p.rest)
        ∙ ap (λ h. record { value = h.value ∷ (parts_at n h.next).value; next = (parts_at n h.next).next }) (again at p.first p.read)

    -- the first of n parts that were read, and those after it
    pub record First (n at : ℕ) : Type 0 where
      pub read : r t at ≡ done (f t at)
      pub rest : times (n - 1) r t (f t at).next ≡ done (parts_at (n - 1) (f t at).next)
      pub joined : parts_at n at ≡ record { value = (f t at).value ∷ (parts_at (n - 1) (f t at).next).value; next = (parts_at (n - 1) (f t at).next).next }

    pub first_part : (n at : ℕ) → 0 < n → times n r t at ≡ done (parts_at n at) → First n at
    first_part zero at h e = absurd (omega arith)
    first_part (suc n) at h e =
        let p = times-parts r t at {k = suc n} {n = n} refl e in
        let a = again at p.first p.read in
        record {
          read = p.read ∙ ap done a;
          rest = rw (sub-one, ← a) (p.rest ∙ ap done (parts_are n p.first.next p.others p.rest));
          joined = rw sub-one;
        }

-- ---- a literal: its kind tells what follows
-- where the kind is k
abbrev pub said_by : List ℕ → ℕ → ℕ → Got Literal
said_by t at zero = record { value = is_true (big t (at + 1) 2); next = at + 3 }
said_by t at (suc zero) = record { value = is_false (big t (at + 1) 2); next = at + 3 }
said_by t at (suc (suc k)) = record { value = at_most (comparison_at t (at + 1) (constant_at t (at + 1))); next = at + 6 + 3 * big t (at + 1) 1 }

unfoldable pub literal_at : List ℕ → ℕ → Got Literal
literal_at t at = said_by t at (big t at 1)

-- its bytes are there
pub record There (t : List ℕ) (at : ℕ) : Type 0 where
  pub kind : at + 1 ≤ length t
  pub known : big t at 1 ≤ 2
  pub few : big t at 1 ≡ 2 → big t (at + 1) 1 ≤ 3
  pub room : (literal_at t at).next ≤ length t

module _ (t : List ℕ) (at : ℕ) where
  pub literal_said : {k : ℕ} → big t at 1 ≡ k → literal_at t at ≡ said_by t at k
  unfolding literal_at
  literal_said e = rw e

  -- a literal that was read
  module _ (ctx : Context) where
    pub record LiteralRead (g : Got Literal) : Type 0 where
      pub same : g ≡ literal_at t at
      pub there : There t at
      pub good : GoodLiteral ctx.ints ctx.bools g.value

    boolean-read : (k b next : ℕ) (l : ℕ → Literal) → GoodLiteral ctx.ints ctx.bools (l b) → k ≤ 1 → big t at 1 ≡ k
        → literal_at t at ≡ record { value = l (big t (at + 1) 2); next = at + 3 } → at + 1 ≤ length t → Stand t (at + 1) (natural 2 b ∷ []) next
        → LiteralRead (record { value = l b; next = next })
    boolean-read k b next l g m e i h (more h' v none) =
        let n : at + 1 + 2 ≡ at + 3 = omega arith in
        record {
          same = ap₂ (λ b n. record { value = l b; next = n }) (sym v) n ∙ sym i;
          there = record { kind = h; known = omega arith; few = λ c. absurd (omega (arith, e)); room = omega (arith, ap (λ g. g.next) i) };
          good = g;
        }

    stand_read : (l : Literal) (next : ℕ) → GoodLiteral ctx.ints ctx.bools l → Stand t at (literal_fields l) next → LiteralRead (record { value = l; next = next })
    stand_read (is_true b) next g (more h k s) = boolean-read 0 b next is_true g (omega arith) k (literal_said k) h s
    stand_read (is_false b) next g (more h k s) = boolean-read 1 b next is_false g (omega arith) k (literal_said k) h s
    stand_read (at_most q) next g (more h k s) =
        let r = comparison_stand ctx.ints t (at + 1) q next g s in
        let i = literal_said k in
        let n : next ≡ at + 6 + 3 * big t (at + 1) 1 = omega (arith, r.next) in
        record {
          same = rw (n, i, ← r.terms, ← r.constant);
          there = record { kind = h; known = omega (arith, k); few = λ c. r.few; room = omega (arith, ap (λ g. g.next) i, r.room) };
          good = g;
        }

    pub literal_read : (g : Got Literal) → read_literal ctx t at ≡ done g → LiteralRead g
    literal_read g e = let d = found ((reads_literal ctx).told t at g.value g.next e) in stand_read g.value g.next d.0 d.1

abbrev pub literals_at : List ℕ → ℕ → ℕ → Got Clause
literals_at = parts_at literal_at

-- ---- a clause: how many literals, and these
unfoldable pub clause_at : List ℕ → ℕ → Got Clause
clause_at t at = literals_at t (big t at 1) (at + 1)

abbrev pub clauses_at : List ℕ → ℕ → ℕ → Got (List Clause)
clauses_at = parts_at clause_at

module _ (ctx : Context) (t : List ℕ) where
  -- the first of several literals
  abbrev pub FirstLiteral : ℕ → ℕ → Type 0
  FirstLiteral = First literal_at t (read_literal ctx) (λ at g e. (literal_read t at ctx g e).same)

  pub first_literal : (n at : ℕ) → 0 < n → times n (read_literal ctx) t at ≡ done (literals_at t n at) → FirstLiteral n at
  first_literal = first_part literal_at t (read_literal ctx) (λ at g e. (literal_read t at ctx g e).same)

  pub literals_are : (n at : ℕ) (g : Got Clause) → times n (read_literal ctx) t at ≡ done g → g ≡ literals_at t n at
  literals_are = parts_are literal_at t (read_literal ctx) (λ at g e. (literal_read t at ctx g e).same)

  pub record ClauseRead (at : ℕ) (g : Got Clause) : Type 0 where
    pub room : at + 1 ≤ length t
    pub few : big t at 1 ≤ 64
    pub literals : times (big t at 1) (read_literal ctx) t (at + 1) ≡ done g

  pub clause-read : (at : ℕ) (g : Got Clause) → read_clause ctx t at ≡ done g → ClauseRead at g
  unfolding read_clause
  clause-read at g e = go (count 0 64 1 t at) refl e
    where
      counted : (n next : ℕ) → n ≤ 64 → Stand t at (natural 1 n ∷ []) next → times n (read_literal ctx) t next ≡ done g → ClauseRead at g
      counted n next l (more h k none) d = record { room = h; few = omega (arith, k); literals = rw k d }

      go : (m : Result (Got ℕ)) → count 0 64 1 t at ≡ m → result.◌>>=◌ m (λ h. times h.value (read_literal ctx) t h.next) ≡ done g → ClauseRead at g
      go (done h) c d = let s = found ((reads-count 0 64 1).told t at h.value h.next c) in counted h.value h.next s.0.1 s.1 d
      go (refused n p) c d = never d

  pub clause_is : (at : ℕ) (g : Got Clause) → read_clause ctx t at ≡ done g → g ≡ clause_at t at
  unfolding clause_at
  clause_is at g e = literals_are (big t at 1) (at + 1) g (clause-read at g e).literals

  pub first-clause : (n at : ℕ) → 0 < n → times n (read_clause ctx) t at ≡ done (clauses_at t n at) → First clause_at t (read_clause ctx) clause_is n at
  first-clause = first_part clause_at t (read_clause ctx) clause_is

  pub clauses_are : (n at : ℕ) (g : Got (List Clause)) → times n (read_clause ctx) t at ≡ done g → g ≡ clauses_at t n at
  clauses_are = parts_are clause_at t (read_clause ctx) clause_is
