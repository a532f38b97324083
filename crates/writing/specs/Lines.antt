-- The numbers of a clause's line. Assumes nothing.
use Rattle.std.specs.Prelude.{◌≡◌, refl, ℕ, suc, ◌+◌, ◌≤◌, ◌<◌, length, ℤ, pos}
use Rattle.std.proofs.Common.{sym, ap, ◌∙◌, add-zero, add-one, arith}
use mathlib.Core.List.{List, [], ◌∷◌, ◌++◌, map, flatten, append-nil}
use Rattle.laws.specs.Limits.{numbers_limit}
use Rattle.definitions.specs.Tools.{neg}
use Rattle.definitions.specs.Board.{Board, Clause, is_true, is_false, at_most}
use Rattle.definitions.specs.Result.{done}
use Rattle.definitions.specs.Reading.{Context, times, read_literal}
use Rattle.definitions.specs.Encoding.{first, number, literal_number}
use Rattle.laws.specs.Again.{literals_at}
use Rattle.laws.specs.Pieces.{line_from}
use Rattle.reader.specs.declared.Literal as code
use Rattle.reader.specs.Said.{literal_of}
use Rattle.writing.specs.Numbers.{numbers_of}

-- a literal's number where the next selector has the number n, and how many selectors it takes
abbrev pub literal_here : ℕ → code.Literal → ℤ
literal_here n (code.Literal.Boolean b) = pos b
literal_here n (code.Literal.Negated b) = neg b
literal_here n (code.Literal.Comparison place constant) = pos n

abbrev pub takes : code.Literal → ℕ
takes (code.Literal.Boolean b) = 0
takes (code.Literal.Negated b) = 0
takes (code.Literal.Comparison place constant) = 1

pub takes_few : (l : code.Literal) → takes l ≤ 1
takes_few (code.Literal.Boolean b) = omega arith
takes_few (code.Literal.Negated b) = omega arith
takes_few (code.Literal.Comparison place constant) = omega arith

-- the line of literals whose first selector has the number n
unfoldable pub line_numbers : ℕ → Clause → List ℤ
line_numbers n [] = pos 0 ∷ []
line_numbers n (is_true b ∷ C) = pos b ∷ line_numbers n C
line_numbers n (is_false b ∷ C) = neg b ∷ line_numbers n C
line_numbers n (at_most q ∷ C) = pos n ∷ line_numbers (suc n) C

pub line_none : (n : ℕ) → line_numbers n [] ≡ pos 0 ∷ []
unfolding line_numbers
line_none n = refl

pub line-more : (t : List ℕ) (n : ℕ) (l : code.Literal) (C : Clause) → line_numbers n (literal_of t l ∷ C) ≡ literal_here n l ∷ line_numbers (n + takes l) C
unfolding line_numbers
line-more t n (code.Literal.Boolean b) C = rw add-zero
line-more t n (code.Literal.Negated b) C = rw add-zero
line-more t n (code.Literal.Comparison place constant) C = rw add-one

-- n literals were read at a place, in a record with fewer than 20,000,000 Booleans
pub record LineRead (t : List ℕ) (n place : ℕ) : Type 0 where
  pub ctx : Context
  pub bools : ctx.bools < numbers_limit
  pub literals : times n (read_literal ctx) t place ≡ done (literals_at t n place)

-- ---- it is the definition's
pub line_is : (B : Board) (j : ℕ) (C : Clause) → line_numbers (first B (length B.bounds) + j) C ≡ numbers_of B (line_from j C ∷ [])
unfolding numbers_of flatten line_numbers line_from literal_number number
line_is B j C = go j C ∙ sym (append-nil _)
  where
    go : (j : ℕ) (C : Clause) → line_numbers (first B (length B.bounds) + j) C ≡ map (literal_number B) (line_from j C) ++ (pos 0 ∷ [])
    go j [] = refl
    go j (is_true b ∷ C) = ap (λ z. pos b ∷ z) (go j C)
    go j (is_false b ∷ C) = ap (λ z. neg b ∷ z) (go j C)
    go j (at_most q ∷ C) =
        let f = first B (length B.bounds) in
        let e : suc (f + j) ≡ f + suc j = omega arith in
        ap (λ z. pos (f + j) ∷ z) (ap (λ k. line_numbers k C) e ∙ go (suc j) C)
