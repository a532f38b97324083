-- Demand 1: a record is read exactly if it is the bytes of a board that 01 admits, and the board read is that board. Assumes nothing.
use Rattle.std.specs.Prelude.{◌≡◌, ◌↔◌, List, [], ◌∷◌, map, get_or}
use Rattle.std.proofs.Math.Path.{sym, ap}
use Rattle.std.proofs.Common.{◌∙◌, zero-add, length-drop}
use Prim.Native.Nat.{ℕ, ◌+◌, ◌≤◌, ◌<◌, zero-le}
use native.Mathlib.Omega.{arith}
use Rattle.std.proofs.Math.ListN.{length}
use Rattle.definitions.specs.Tools.{All}
use Rattle.definitions.specs.Board.{Bounds, Term, Comparison, Literal, Clause, Board, is_true, is_false, at_most}
use Rattle.definitions.specs.Result.{done}
use Rattle.definitions.specs.Reading.{big}
use Rattle.definitions.specs.Encoding.{K}
use Rattle.definitions.specs.Operations.{read_board, accepted}
use Rattle.laws.specs.Whole.{whole, part_law}
use Rattle.laws.specs.Lists.{all_append, all-flatten, all_read, all_map, all_impl}
use Rattle.laws.specs.Admitted.{GoodBounds, GoodTerm, GoodComparison, GoodLiteral, GoodClause, Admitted}
use Rattle.laws.specs.Spelling.{Field, several, natural, integer, Stand, more, bounds_fields, term_fields, comparison_fields, literal_fields, clause_fields, body_fields}
use Rattle.laws.specs.Grammar.{spelt}
use Rattle.laws.specs.Reads.{reads-body}
use Rattle.laws.specs.Reread.{body-read, wrapped, unwrapped, accepted-parts}
use Rattle.demands.specs.FieldBytes.{bytes, length-bytes, rest-bytes, Fits, bytes_stand}

-- ---- the bytes of a board, said apart from the reader
-- version, stated length, body
abbrev pub record_fields : Board → List Field
record_fields B = natural 1 1 ∷ natural 4 (length (bytes (body_fields B))) ∷ body_fields B

unfoldable pub bytes_of : Board → List ℕ
bytes_of B = bytes (record_fields B)

-- ---- the fields of an admitted board fit
fits_several : {A : Type 0} (Good : A → Type 0) (w : A → List Field) → ((a : A) → Good a → All Fits (w a)) → (l : List A) → All Good l → All Fits (several w l)
fits_several Good w f l a = all-flatten Fits (map w l) (all_map (All Fits) w l (all_impl Good (λ x. All Fits (w x)) f l a))

fits_bounds : (b : Bounds) → GoodBounds b → All Fits (bounds_fields b)
fits_bounds b g =
    ((omega (whole, part_law b.lo), omega (whole, part_law b.lo)), ((omega (whole, part_law b.hi), omega (whole, part_law b.hi)), tt))

module _ (ints m : ℕ) (few : ints ≤ 1024) (least : m ≤ 4096) where
  fits_term : (t : Term) → GoodTerm ints t → All Fits (term_fields t)
  fits_term t g = ((omega (whole, part_law t.coef), omega (whole, part_law t.coef)), (omega arith, tt))

  fits_comparison : (q : Comparison) → GoodComparison ints q → All Fits (comparison_fields q)
  fits_comparison q g = (
    omega arith,
    all_append Fits (several term_fields q.terms) (integer 4 q.constant ∷ [])
        (fits_several (GoodTerm ints) term_fields fits_term q.terms g.terms)
        ((omega (whole, part_law q.constant), omega (whole, part_law q.constant)), tt),
  )

  fits_literal : (l : Literal) → GoodLiteral ints m l → All Fits (literal_fields l)
  fits_literal (is_true b) g = (omega arith, (omega arith, tt))
  fits_literal (is_false b) g = (omega arith, (omega arith, tt))
  fits_literal (at_most q) g = (omega arith, fits_comparison q g)

  fits_clause : (C : Clause) → GoodClause ints m C → All Fits (clause_fields C)
  fits_clause C g = (omega arith, fits_several (GoodLiteral ints m) literal_fields fits_literal C g.literals)

fits_body : (B : Board) → Admitted B → All Fits (body_fields B)
fits_body B g = (
  omega arith,
  (
    omega arith,
    (
      omega arith,
      all_append Fits (several bounds_fields B.bounds) (several clause_fields B.clauses)
          (fits_several GoodBounds bounds_fields fits_bounds B.bounds g.bounds)
          (fits_several (GoodClause (length B.bounds) B.bools) clause_fields (fits_clause (length B.bounds) B.bools g.ints g.bools) B.clauses g.clauses),
    ),
  ),
)

-- ---- the demand
-- s is the record of B
pub record RecordOf (B : Board) (s : List ℕ) : Type 0 where
  pub admitted : Admitted B
  pub short : length s ≤ 65536
  pub spelled : s ≡ bytes_of B

version_at : (s : List ℕ) → big s 0 1 ≡ get_or s 0 0
unfolding big
version_at s = zero-add (get_or s 0 0)

module _ (s : List ℕ) (B : Board) where
  is_record : All (λ b. b < 256) s → read_board s ≡ done B → RecordOf B s
  unfolding bytes_of
  is_record a e =
      let w = wrapped s B e in
      let d = body-read s B e in
      let b = rest-bytes s (all_read (λ b. b < 256) 0 (omega arith) s a) in
      let n : big s 1 4 ≡ length (bytes (body_fields B)) = w.stated ∙ sym (length-drop 5 s) ∙ ap length (b 5 (body_fields B) d.1) in
      let p : Stand s 0 (record_fields B) (length s) = more {at = 0} {f = natural 1 1} (omega (arith, w.head)) (version_at s ∙ w.version) (more w.head n d.1) in
      record { admitted = d.0; short = w.short; spelled = b 0 (record_fields B) p }

  stand_read : Admitted B → length s ≤ 65536 → 5 + length (bytes (body_fields B)) ≡ length s → Stand s 0 (record_fields B) (length s) → read_board s ≡ done B
  stand_read g h l (more i v (more j n p)) = unwrapped s B (record {
    short = h;
    head = omega arith;
    version = sym (version_at s) ∙ v;
    stated = n ∙ omega arith;
    body = (reads-body 1).read s 5 B (length s) (body_fields B) (spelt g) p;
  })

  record_read : RecordOf B s → read_board s ≡ done B
  unfolding bytes_of
  record_read r =
      let n = length (bytes (body_fields B)) in
      let h = r.short in
      let l : 5 + length (bytes (body_fields B)) ≡ length s =
      omega (arith, ap length r.spelled, length-bytes (natural 1 1) (natural 4 n ∷ body_fields B), length-bytes (natural 4 n) (body_fields B)) in
      stand_read r.admitted h l (bytes_stand s 0 (record_fields B) zero-le (omega arith, (omega arith, fits_body B r.admitted)) r.spelled)

-- ---- what reading accepts, and what all operations accept
pub read_exactly : (s : List ℕ) (B : Board) → All (λ b. b < 256) s → (read_board s ≡ done B) ↔ RecordOf B s
read_exactly s B a = (is_record s B a, record_read s B)

-- 01 admits s, as the record of B
pub record Admits (s : List ℕ) (B : Board) : Type 0 where
  pub recorded : RecordOf B s
  pub ceiling : K B ≤ 2000000000

pub accepted_exactly : (s : List ℕ) (B : Board) → All (λ b. b < 256) s → (accepted s ≡ done B) ↔ Admits s B
accepted_exactly s B a =
    let r = read_exactly s B a in
    let p = accepted-parts s B in
    ((λ e. let h = p.0 e in record { recorded = r.0 h.0; ceiling = h.1 }), (λ h. p.1 (r.1 h.recorded, h.ceiling)))
