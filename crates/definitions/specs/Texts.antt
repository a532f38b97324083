-- Good text and good replies, said by how they are written (02, P2); bytes by number.
use Rattle.std.specs.Prelude.{◌≤◌, ◌≡◌, ◌⊎◌, ◌||◌, ◌∷◌, ◌++◌, if◌then◌else◌}
use Rattle.definitions.specs.Tools.{ℕ, suc, Bool, true, false, List, [], T, eqb, ℤ, pos, negsuc, nat_abs, All, eq_z}
use Rattle.definitions.specs.Dimacs.{ascii, decimal}

-- a number below 10^20 in size, as `decimal` has 20 digits: no plus, no leading zero, no signed 0
abbrev pub numeral : ℤ → List ℕ
numeral (pos v) = decimal v
numeral (negsuc v) = ascii "-" ++ decimal (suc v)

-- a space or a newline
abbrev pub blank : ℕ → Bool
blank b = eqb b 32 || eqb b 10

-- numbers parted by runs of spaces or newlines, which may also stand before and after them; `true` where the next number may
-- follow at once
pub data Spaced : Bool → List ℤ → List ℕ → Type 0 where
  nothing : Spaced true [] []
  gap : (b : ℕ) → T (blank b) → {free : Bool} {ns : List ℤ} {t : List ℕ} → Spaced free ns t → Spaced true ns (t ++ (b ∷ []))
  number : (n : ℤ) {ns : List ℤ} {t : List ℕ} → Spaced true ns t → Spaced false (ns ++ (n ∷ [])) (t ++ numeral n)

-- how many clauses end in a list of numbers: each with a 0
abbrev pub zeros : List ℤ → ℕ
zeros [] = 0
zeros (n ∷ ns) = if eq_z n (pos 0) then suc (zeros ns) else zeros ns

abbrev pub most : ℕ
most = 2147483647

abbrev pub first_line : ℕ → ℕ → List ℕ
first_line N M = ascii "p cnf " ++ decimal N ++ ascii " " ++ decimal M ++ ascii "\n"

-- the last number, if there is one, ends a clause
abbrev pub Ended : List ℤ → Type 0
Ended ns = (ns ≡ []) ⊎ ((ms : List ℤ) × (ns ≡ ms ++ (pos 0 ∷ [])))

-- text of N, M and the numbers of the list: the first line as printed, then the numbers, none beyond N, and M clauses
pub record GoodText (N M : ℕ) (ns : List ℤ) (t : List ℕ) : Type 0 where
  pub small : (N ≤ most) × (M ≤ most)
  pub body : List ℕ
  pub lined : t ≡ first_line N M ++ body
  pub free : Bool
  pub spaced : Spaced free ns body
  pub known : All (λ n. nat_abs n ≤ N) ns
  pub clauses : zeros ns ≡ M
  pub ended : Ended ns

-- lines of `v` and one or more numbers, each after one space; the last number is told apart, and the last newline is not here
pub data Values : List ℤ → ℤ → List ℕ → Type 0 where
  first : (n : ℤ) → Values [] n (ascii "v " ++ numeral n)
  on_line : (n : ℤ) {ns : List ℤ} {m : ℤ} {t : List ℕ} → Values ns m t → Values (ns ++ (m ∷ [])) n (t ++ (ascii " " ++ numeral n))
  new_line : (n : ℤ) {ns : List ℤ} {m : ℤ} {t : List ℕ} → Values ns m t → Values (ns ++ (m ∷ [])) n (t ++ (ascii "\nv " ++ numeral n))

-- a reply for N with the literals ns: the line, then lines of values with one 0, the last number
pub record GoodReply (N : ℕ) (ns : List ℤ) (t : List ℕ) : Type 0 where
  pub values : List ℕ
  pub lined : t ≡ ascii "s SATISFIABLE\n" ++ (values ++ ascii "\n")
  pub listed : Values ns (pos 0) values
  pub literals : All (λ n. (1 ≤ nat_abs n) × (nat_abs n ≤ N)) ns

-- the reply 'none'
abbrev pub no_model : List ℕ
no_model = ascii "s UNSATISFIABLE\n"
