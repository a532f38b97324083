-- A literal that was read before, as a line meets it again. Assumes nothing.
use mathlib.Core.Path.{◌≡◌, sym, ap, ap₂, ◌∙◌, subst}
use mathlib.Core.List.{List, [], ◌∷◌, ◌++◌}
use Prim.Native.Nat.{ℕ, ◌+◌, ◌-◌, ◌<◌}
use native.Mathlib.Omega.{arith}
use lib.IntN.{ℤ, pos, nat_abs}
use Rattle.laws.specs.Limits.{numbers_limit}
use Rattle.laws.specs.Whole.{abs_neg}
use Rattle.laws.specs.Again.{There, literal_read, literals_at, FirstLiteral, first_literal}
use Rattle.reader.specs.declared.Literal.{Literal}
use Rattle.definitions.specs.declared.Got.{Got}
use Rattle.reader.specs.Literals.{Rereads, KnownLiteral, known_literal}
use Rattle.writing.specs.Lines.{literal_here, takes, line_numbers, line-more, line_none, LineRead}

pub line-last : (t : List ℕ) (n place number : ℕ) → n ≡ 0 → line_numbers number (literals_at t n place).value ≡ pos 0 ∷ []
line-last t n place number e = ap (λ k. line_numbers number (literals_at t k place).value) e ∙ line_none number

module _ {t : List ℕ} {n place : ℕ} (h : 0 < n) (l : LineRead t n place) where
  first : FirstLiteral l.ctx t n place
  first = first_literal l.ctx t n place h l.literals

  pub there : There t place
  there = (literal_read t place l.ctx _ first.read).there

  module _ {r : Got Literal} (a : Rereads t place r) where
    pub rest_read : LineRead t (n - 1) r.next
    rest_read = rw a.next (record { ctx = l.ctx; bools = l.bools; literals = first.rest })

    pub line_first : (number : ℕ) → line_numbers number (literals_at t n place).value ≡ literal_here number r.value ∷ line_numbers (number + takes r.value) (literals_at t (n - 1) r.next).value
    line_first number = rw (first.joined, a.next, ← a.literal) (line-more t number r.value _)

    -- m more are left, and v is its number
    module _ (m : ℕ) (e : n ≡ m + 1) where
      m_is : n - 1 ≡ m
      m_is = omega arith

      pub rest_of : LineRead t m r.next
      rest_of = subst (λ k. LineRead t k r.next) m_is rest_read

      pub line_on : (number : ℕ) (v : ℤ) (k : ℕ) → v ≡ literal_here number r.value → k ≡ takes r.value
          → line_numbers number (literals_at t n place).value ≡ (v ∷ []) ++ line_numbers (number + k) (literals_at t m r.next).value
      line_on number v k ev ek =
          line_first number
          ∙ ap₂ (λ w j. w ∷ line_numbers (number + j) (literals_at t (n - 1) r.next).value) (sym ev) (sym ek)
          ∙ ap (λ j. v ∷ line_numbers (number + k) (literals_at t j r.next).value) m_is

    -- its number fits
    pub small : (number : ℕ) → number < numbers_limit → nat_abs (literal_here number r.value) < numbers_limit
    small number k = go r.value (known_literal l.ctx t place first.read a)
      where
        go : (x : Literal) → KnownLiteral t l.ctx.ints l.ctx.bools x → nat_abs (literal_here number x) < numbers_limit
        go (Literal.Boolean b) g = omega (arith, g.1, l.bools)
        go (Literal.Negated b) g = omega (arith, g.1, l.bools, abs_neg (pos b))
        go (Literal.Comparison q constant) g = k
