-- A line's literals, read one after another: the number of each, and whether it holds. Assumes nothing.
use Rattle.std.specs.Prelude.{◌≡◌, Bool, true, false, not, List, ◌∷◌, ℕ, ◌+◌, ◌-◌, ◌≤◌, ◌<◌, length}
use Rattle.std.proofs.Math.Path.{refl}
use Rattle.std.proofs.Common.{add-one}
use native.Mathlib.Omega.{arith}
use Rattle.definitions.specs.Tools.{All}
use Rattle.definitions.specs.Board.{Board, Clause}
use Rattle.definitions.specs.Result.{done}
use Rattle.definitions.specs.Reading.{times, read_literal}
use Rattle.definitions.specs.Encoding.{SatLiteral, plus, minus, bool, selector, first, number, N}
use Rattle.definitions.specs.Meaning.{on, satisfies, in_model}
use Rattle.laws.specs.Reread.{context_of}
use Rattle.laws.specs.Again.{There, literal_read, literals_at, FirstLiteral, first_literal}
use Rattle.laws.specs.Pieces.{line_from}
use Rattle.laws.specs.Layout.{number-range}
use Rattle.laws.specs.Mentions.{atom_of, Mentions}
use Rattle.reader.specs.declared.Literal.{Literal}
use Rattle.definitions.specs.declared.Got.{Got}
use Rattle.reader.specs.Said.{literal_of}
use Rattle.reader.specs.Literals.{Rereads}
use Rattle.decode.specs.Truth.{selector_number, true_clause}

-- the number of a literal's SAT variable; the next selector has the number `next`
abbrev pub number_in : ℕ → Literal → ℕ
number_in next (Literal.Boolean b) = b
number_in next (Literal.Negated b) = b
number_in next (Literal.Comparison place constant) = next

abbrev pub signed : List ℕ → ℕ → Literal → Bool
signed model next (Literal.Boolean b) = on model b
signed model next (Literal.Negated b) = not (on model b)
signed model next (Literal.Comparison place constant) = on model next

abbrev pub selector_after : Literal → ℕ → ℕ
selector_after (Literal.Boolean b) next = next
selector_after (Literal.Negated b) next = next
selector_after (Literal.Comparison place constant) next = next + 1

-- what stands in the line for a literal; the next selector is j
abbrev in_line : ℕ → Literal → SatLiteral
in_line j (Literal.Boolean b) = plus (bool b)
in_line j (Literal.Negated b) = minus (bool b)
in_line j (Literal.Comparison place constant) = plus (selector j)

line_first : (t : List ℕ) (j : ℕ) (l : Literal) (L : Clause) → line_from j (literal_of t l ∷ L) ≡ in_line j l ∷ line_from (selector_after l j) L
unfolding line_from
line_first t j (Literal.Boolean b) L = refl
line_first t j (Literal.Negated b) L = refl
line_first t j (Literal.Comparison p c) L = rw add-one

module _ (B : Board) where
  its_number : (j : ℕ) (l : Literal) → number B (atom_of (in_line j l)) ≡ number_in (selector_number B j) l
  unfolding number
  its_number j (Literal.Boolean b) = refl
  its_number j (Literal.Negated b) = refl
  its_number j (Literal.Comparison p c) = refl

  its_truth : (model : List ℕ) (j : ℕ) (l : Literal) → satisfies (in_model B model) (in_line j l) ≡ signed model (selector_number B j) l
  unfolding satisfies in_model number
  its_truth model j (Literal.Boolean b) = refl
  its_truth model j (Literal.Negated b) = refl
  its_truth model j (Literal.Comparison p c) = refl

number-before : (a j : ℕ) (l : Literal) → number_in j l ≤ number_in (a + j) l
number-before a j (Literal.Boolean b) = omega arith
number-before a j (Literal.Negated b) = omega arith
number-before a j (Literal.Comparison p c) = omega arith

-- of a line of which nothing held before, n literals are left, at a place, and the selectors from j on
pub record Reading (B : Board) (model t : List ℕ) (all : Bool) (j n place : ℕ) : Type 0 where
  pub readable : times n (read_literal (context_of B)) t place ≡ done (literals_at t n place)
  pub same : true_clause B model (line_from j (literals_at t n place).value) ≡ all
  pub mentioned : All (Mentions B) (line_from j (literals_at t n place).value)

module _ {B : Board} {model t : List ℕ} {all : Bool} {j n place : ℕ} (h : Reading B model t all j n place) where
  pub none_left : n ≤ 0 → false ≡ all
  unfolding line_from
  none_left k = let o : n ≡ 0 = omega arith in rw o at h.same

  module _ (k : 0 < n) where
    first-left : FirstLiteral (context_of B) t n place
    first-left = first_literal (context_of B) t n place k h.readable

    pub one_left : There t place
    one_left = (literal_read t place (context_of B) _ first-left.read).there

    -- it was read again
    module _ {r : Got Literal} (a : Rereads t place r) where
      line_is : line_from j (literals_at t n place).value ≡ in_line j r.value ∷ line_from (selector_after r.value j) (literals_at t (n - 1) r.next).value
      line_is = rw (first-left.joined, a.next, ← a.literal) (line_first t j r.value _)

      pub literal_numbered : length model ≡ N B
          → (1 ≤ number_in (selector_number B j) r.value) × (number_in (selector_number B j) r.value ≤ length model) × (number_in j r.value ≤ length model)
      literal_numbered e =
          let m = number-range B (atom_of (in_line j r.value)) (rw line_is at h.mentioned).0 in
          let n = its_number B j r.value in
          (omega (arith, n, m.0), omega (arith, n, m.1, e), omega (arith, n, m.1, e, number-before (first B (length B.bounds)) j r.value))

      pub literal_true : signed model (selector_number B j) r.value ≡ true → true ≡ all
      literal_true q = rw (line_is, its_truth B model j r.value, q) at h.same

      pub literal_false : signed model (selector_number B j) r.value ≡ false → Reading B model t all (selector_after r.value j) (n - 1) r.next
      literal_false q = record {
        readable = rw a.next first-left.rest;
        same = rw (line_is, its_truth B model j r.value, q) at h.same;
        mentioned = (rw line_is at h.mentioned).1;
      }
