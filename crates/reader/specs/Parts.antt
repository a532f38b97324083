-- The definitions' readers in the parts that the code has: fields with a range, and a term. Laws.antt puts them together again.
use Rattle.std.specs.Prelude.{◌&&◌}
use Rattle.definitions.specs.Tools.{ℕ, ℤ, pos, not, List, leb, ltb, eqb, any, neg, eq_z, within}
use Rattle.definitions.specs.Board.{Term}
use Rattle.definitions.specs.Result.{Result, done, refused}
use Rattle.definitions.specs.Reading.{Got, Reader, Context, asked, ◌>>=◌, give, unsigned, signed}
use Rattle.reader.specs.declared.Why.{Why}
use Rattle.reader.specs.Said.{number}

-- of what is read, only the place after it
abbrev pub past : {A : Type 0} → Result (Got A) → Result ℕ
past (done g) = done g.next
past (refused n d) = refused n d

-- fields with a range; `why` is what a value outside it is refused for
unfoldable pub number_from : Why → ℕ → ℕ → ℕ → Reader ℕ
number_from why least most n = asked (number why) (λ v. leb least v && leb v most) (unsigned n)

unfoldable pub whole_from : Why → ℤ → ℤ → ℕ → Reader ℤ
whole_from why least most n = asked (number why) (within least most) (signed n)

-- a term; seen: the variables of the terms before
unfoldable pub coefficient : Reader ℤ
coefficient = asked 7 (λ a. within (neg 64) (pos 64) a && not (eq_z a (pos 0))) (signed 1)

unfoldable pub variable : Context → List ℕ → Reader ℕ
variable ctx seen = asked 16 (λ x. not (any (eqb x) seen)) (asked 15 (λ x. ltb x ctx.ints) (unsigned 2))

unfoldable pub read_term : Context → List ℕ → Reader Term
read_term ctx seen = do
  a ← coefficient
  x ← variable ctx seen
  give (record { coef = a; var = x })

-- a comparison's constant
unfoldable pub constant : Reader ℤ
constant = asked 17 (within (neg 1000000) (pos 1000000)) (signed 4)
