-- Values and Booleans that suit a record: as many as it has variables, the values no greater than bounds are.
use Rattle.std.specs.Prelude.{◌≡◌, List, ℕ, ◌≤◌, length, get_or, ℤ, pos, nat_abs, ◌*ℤ◌}
use Rattle.definitions.specs.Tools.{All}
use Rattle.definitions.specs.Board.{Term}
use Rattle.definitions.specs.Reading.{Context}

abbrev pub Near : List ℤ → Type 0
Near values = All (λ v. nat_abs v ≤ 4096) values

pub record Suited (ctx : Context) (values : List ℤ) (booleans : List ℕ) : Type 0 where
  pub ints : length values ≡ ctx.ints
  pub bools : length booleans ≡ ctx.bools
  pub near : Near values

-- they suit a record whose context is such
pub record Suiting (values : List ℤ) (booleans : List ℕ) (Such : Context → Type 0) : Type 0 where
  pub ctx : Context
  pub suited : Suited ctx values booleans
  pub such : Such ctx

-- a term's value
abbrev pub product : List ℤ → Term → ℤ
product values t = t.coef *ℤ get_or values t.var (pos 0)
