-- A number with its end, and lines of a word and two numbers. Assumes nothing.
use Rattle.std.specs.Prelude.{◌≡◌, List, [], ◌∷◌, ◌++◌, ℕ, ◌+◌, ◌≤◌, length}
use Rattle.std.proofs.Common.{append_assoc, arith, length-append}
use Rattle.definitions.specs.Dimacs.{decimal}
use Rattle.laws.specs.Decimals.{digits-length}

-- a number and the byte that ends it
abbrev pub with_end : ℕ → ℕ → List ℕ
with_end n end = decimal n ++ (end ∷ [])

-- a line of a word and two numbers: the head of what is printed, or a refusal
abbrev pub line : List ℕ → ℕ → ℕ → List ℕ
line word a b = word ++ (with_end a 32 ++ with_end b 10)

-- a line, part by part, as it is printed
parted : (w a sp b end : List ℕ) → w ++ a ++ sp ++ b ++ end ≡ w ++ ((a ++ sp) ++ (b ++ end))
parted w a sp b end = simp append_assoc

pub lined : (w : List ℕ) (a b : ℕ) → w ++ decimal a ++ (32 ∷ []) ++ decimal b ++ (10 ∷ []) ≡ line w a b
lined w a b = parted w (decimal a) (32 ∷ []) (decimal b) (10 ∷ [])

pub line-length : (w : List ℕ) (a b : ℕ) → length (line w a b) ≤ length w + 42
line-length w a b =
    omega (
      arith,
      length-append w (with_end a 32 ++ with_end b 10),
      length-append (with_end a 32) (with_end b 10),
      length-append (decimal a) (32 ∷ []),
      length-append (decimal b) (10 ∷ []),
      digits-length 19 a,
      digits-length 19 b,
    )
