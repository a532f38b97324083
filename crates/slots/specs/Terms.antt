-- The terms of a comparison as the code has them, and where they stand. Assumes nothing.
use Rattle.std.specs.Prelude.{◌≡◌, List, map, ℕ, ◌+◌, ◌*◌, ◌<◌, length, get_or, take}
use Rattle.std.proofs.Common.{sym, ap, ◌∙◌, arith, get_or-take, SFits}
use Rattle.std.proofs.Math.ListN.{length-map, get_or-map}
use Rattle.std.specs.Int.{w32}
use Rattle.definitions.specs.Tools.{All}
use Rattle.definitions.specs.Board as board
use Rattle.definitions.specs.Reading.{big}
use Rattle.laws.specs.Whole.{whole, sfits}
use Rattle.laws.specs.Lists.{all-at, length-count_up}
use Rattle.laws.specs.Admitted.{GoodTerm}
use Rattle.laws.specs.Reread.{term_at, terms_at, row_at}
use Rattle.slots.specs.declared.Term.{Term}
use Rattle.slots.specs.declared.Terms.{Terms}

-- a term as the definitions have it
abbrev pub term_read : Term → board.Term
term_read t = record { coef = t.coefficient; var = t.variable }

-- the first n terms are those of a list
pub record TermsOf (ts : List board.Term) (r : Terms) : Type 0 where
  pub counted : r.n ≡ length ts
  pub terms : take r.n (map term_read r.terms) ≡ ts

pub term_of : (ts : List board.Term) (r : Terms) (i : ℕ) (d : Term) → TermsOf ts r → i < r.n → term_read (get_or r.terms i d) ≡ get_or ts i (term_read d)
term_of ts r i d h l =
    sym (get_or-map term_read r.terms i d)
    ∙ sym (get_or-take r.n (map term_read r.terms) i (term_read d) l)
    ∙ ap (λ l. get_or l i (term_read d)) h.terms

module _ (ints : ℕ) where
  pub coefficient_fits : (t : Term) → GoodTerm ints (term_read t) → SFits w32 t.coefficient
  coefficient_fits t g = sfits (omega (whole, g.least, g.most))

  pub term-good : (ts : List board.Term) (r : Terms) (i : ℕ) (d : Term) → TermsOf ts r → All (GoodTerm ints) ts → i < r.n → GoodTerm ints (term_read (get_or r.terms i d))
  term-good ts r i d h g l = rw (term_of ts r i d h l) (all-at (GoodTerm ints) (term_read d) ts g i (omega (arith, h.counted)))

-- ---- in bytes
module _ (s : List ℕ) (place : ℕ) where
  pub terms_count : length (terms_at s place) ≡ big s place 1
  unfolding terms_at
  terms_count = simp length-map (length-count_up 0 (big s place 1))

  pub terms_at_lem : (i : ℕ) (d : board.Term) → i < big s place 1 → get_or (terms_at s place) i d ≡ term_at s (place + 1 + 3 * i)
  unfolding terms_at
  terms_at_lem i d h = row_at (term_at s) 3 d (place + 1) (big s place 1) i h
