-- Past literals and pieces that were read before, and whether they hold. Assumes nothing.
use Rattle.std.proofs.Common.{◌≡◌, sym, ap, ◌∙◌, Bool, true, false, ◌||◌, List, [], ◌∷◌, ℕ, ◌+◌, ◌-◌, ◌≤◌, ◌<◌, add-zero, add-one, arith, length, ℤ, if◌then◌else◌}
use mathlib.Core.Bool.{or-false}
use Rattle.definitions.specs.Tools.{any}
use Rattle.definitions.specs.Result.{done, refused}
use Rattle.definitions.specs.Reading.{times, read_literal}
use Rattle.definitions.specs.Meaning.{Assignment, assigned, holds}
use Rattle.laws.specs.Again.{There, literal_read, parts-length, literals_at, FirstLiteral, first_literal, clause_at, clauses_at}
use Rattle.laws.specs.Pieces as laws
use Rattle.laws.specs.Pieces.{clauses_recorded, recorded_all}
use Rattle.laws.specs.Search.{seek}
use Rattle.definitions.specs.declared.Got.{Got}
use Rattle.reader.specs.declared.Literal.{Literal}
use Rattle.reader.specs.Said.{literal_of}
use Rattle.reader.specs.Literals.{Rereads, KnownLiteral, known_literal}
use Rattle.rules.specs.declared.Cursor.{Cursor}
use Rattle.rules.specs.declared.Piece.{Piece}
use Rattle.rules.specs.Cursors.{said_piece, coming_at, at_start, Held, Sound, Meets}
use Rattle.rules.specs.Known.{start-coming}
use Rattle.judge.specs.Suited.{Suiting}
use Rattle.judge.specs.Clauses.{begun, holds_in}

-- ---- whether one of n literals holds
pub none_holds : (t : List ℕ) (a : Assignment) (n at : ℕ) → n ≡ 0 → any (holds a) (literals_at t n at).value ≡ false
none_holds t a n at e = rw e

module _ {values : List ℤ} {booleans t : List ℕ} {n at : ℕ} (h : 0 < n) (l : Suiting values booleans (λ ctx. times n (read_literal ctx) t at ≡ done (literals_at t n at))) where
  first : FirstLiteral l.ctx t n at
  first = first_literal l.ctx t n at h l.such

  pub there : There t at
  there = (literal_read t at l.ctx _ first.read).there

  module _ {r : Got Literal} (d : Rereads t at r) where
    pub known : KnownLiteral t (length values) (length booleans) r.value
    known = rw (l.suited.ints, l.suited.bools) (known_literal l.ctx t at first.read d)

    pub others : Suiting values booleans (λ ctx. times (n - 1) (read_literal ctx) t r.next ≡ done (literals_at t (n - 1) r.next))
    others = record { ctx = l.ctx; suited = l.suited; such = rw d.next first.rest }

    pub first_holds : (a : Assignment) {b : Bool} → b ≡ holds a (literal_of t r.value) → any (holds a) (literals_at t n at).value ≡ (b || any (holds a) (literals_at t (n - 1) r.next).value)
    first_holds a e = rw (first.joined, d.next, e, d.literal)

-- ---- the first clause that fails: a piece's own, or one of those after it
seek-piece : (a : Assignment) (t : List ℕ) (p : Piece) (ps : List laws.Piece) (i : ℕ) {b : Bool} → b ≡ holds_in a t p
    → seek 13 (any (holds a)) i (clauses_recorded (said_piece t p ∷ ps)) ≡ (if b then seek 13 (any (holds a)) (i + begun p) (clauses_recorded ps) else refused 13 i)
unfolding clauses_recorded holds
seek-piece a t (Piece.Line place n j) ps i e = rw (e, add-one)
seek-piece a t (Piece.Lone place constant) ps i e = rw (e, add-one, or-false)
seek-piece a t (Piece.Led j place constant) ps i e = rw (e, add-zero)

begun-count : (t : List ℕ) (p : Piece) (ps : List laws.Piece) → length (clauses_recorded (said_piece t p ∷ ps)) ≡ begun p + length (clauses_recorded ps)
unfolding clauses_recorded
begun-count t (Piece.Line place n j) ps = omega arith
begun-count t (Piece.Lone place constant) ps = omega arith
begun-count t (Piece.Led j place constant) ps = omega arith

module _ (values : List ℤ) (booleans t : List ℕ) (n : ℕ) where
  abbrev a : Assignment
  a = assigned values booleans

  -- the search from number i on, among the clauses that are coming, answers what the search among all n does
  pub record Seeking (i : ℕ) (c : Cursor) : Type 0 where
    pub suiting : Suiting values booleans (λ ctx. Sound ctx t c)
    pub same : seek 13 (any (holds a)) i (clauses_recorded (coming_at t c)) ≡ seek 13 (any (holds a)) 0 (clauses_at t n 0).value
    pub count : i + length (clauses_recorded (coming_at t c)) ≡ n

  pub seek-start : Suiting values booleans (λ ctx. Sound ctx t (at_start n)) → Seeking 0 (at_start n)
  seek-start l =
      let e = ap clauses_recorded (start-coming t n) ∙ recorded_all 0 (clauses_at t n 0).value in
      record { suiting = l; same = ap (seek 13 (any (holds a)) 0) e; count = omega (arith, ap length e, parts-length clause_at t n 0) }

module _ {values : List ℤ} {booleans t : List ℕ} {n i : ℕ} {c : Cursor} (h : Seeking values booleans t n i c) where
  module _ {p : Piece} {c' : Cursor} (m : Meets h.suiting.ctx t c p c') where
    pub piece_suits : Suiting values booleans (λ ctx. Held ctx t p)
    piece_suits = record { ctx = h.suiting.ctx; suited = h.suiting.suited; such = m.held }

    next : {b : Bool} → b ≡ holds_in (assigned values booleans) t p
        → (if b then seek 13 (any (holds (assigned values booleans))) (i + begun p) (clauses_recorded (coming_at t c')) else refused 13 i) ≡ seek 13 (any (holds (assigned values booleans))) 0 (clauses_at t n 0).value
    next e = sym (ap (λ ps. seek 13 (any (holds (assigned values booleans))) i (clauses_recorded ps)) m.comes ∙ seek-piece (assigned values booleans) t p (coming_at t c') i e) ∙ h.same

    counted : i + begun p + length (clauses_recorded (coming_at t c')) ≡ n
    counted = omega (arith, h.count, ap (λ ps. length (clauses_recorded ps)) m.comes, begun-count t p (coming_at t c'))

    pub number-most : i + begun p ≤ n
    number-most = omega (arith, counted)

    pub seek_fails : false ≡ holds_in (assigned values booleans) t p → refused 13 i ≡ seek 13 (any (holds (assigned values booleans))) 0 (clauses_at t n 0).value
    seek_fails e = next e

    pub seek-on : true ≡ holds_in (assigned values booleans) t p → Seeking values booleans t n (i + begun p) c'
    seek-on e = record { suiting = record { ctx = h.suiting.ctx; suited = h.suiting.suited; such = m.onward.sound }; same = next e; count = counted }

  pub seek_none : coming_at t c ≡ [] → done tt ≡ seek 13 (any (holds (assigned values booleans))) 0 (clauses_at t n 0).value
  unfolding clauses_recorded
  seek_none e = rw e at h.same
