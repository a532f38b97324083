-- Text and replies read part by part. Each part answers its value, the place after it and the bytes from there on.
use Rattle.std.specs.Prelude.{nat_abs, ◌+◌, ◌*◌, ◌-◌, ◌≤◌, ◌≡◌, ◌∷◌, if◌then◌else◌, ◌&&◌}
use Rattle.definitions.specs.Tools.{ℕ, suc, Bool, true, ℤ, List, [], length, drop, ltb, leb, eqb}
use Rattle.definitions.specs.Result.{Result, ◌>>=◌, ◌>>◌, need, done, refused}
use Rattle.definitions.specs.Operations.{Sizes}
use Rattle.definitions.specs.Dimacs.{ascii}
use Rattle.definitions.specs.Texts.{blank, most}
use Rattle.definitions.specs.TextReading.{digit, Number, number_read, whole, begun, grown, text, reply, Reply, model, unsatisfiable, State, at_number, awaits, fed, Read, end_text, end_reply}

-- these bytes
abbrev pub word_at : List ℕ → ℕ → List ℕ → Result (ℕ × List ℕ)
word_at [] at t = done (at, t)
word_at (c ∷ cs) at [] = refused 18 at
word_at (c ∷ cs) at (b ∷ t) = if eqb b c then word_at cs (suc at) t else refused 18 at

-- a count that has begun, and a whole one
abbrev pub count_from : ℕ → ℕ → List ℕ → Result (ℕ × ℕ × List ℕ)
count_from v at [] = done (v, at, [])
count_from v at (b ∷ t) =
    if ltb 0 v && digit b then need 18 at (leb (10 * v + (b - 48)) most) >> count_from (10 * v + (b - 48)) (suc at) t
    else done (v, at, b ∷ t)

abbrev pub count_at : ℕ → List ℕ → Result (ℕ × ℕ × List ℕ)
count_at at [] = refused 18 at
count_at at (b ∷ t) = need 18 at (digit b) >> count_from (b - 48) (suc at) t

-- a word and the count after it
abbrev pub word_count : List ℕ → ℕ → List ℕ → Result (ℕ × ℕ × List ℕ)
word_count w at t = word_at w at t >>= λ p. count_at p.0 p.1

-- the first line: N, M, and what follows it
abbrev pub end_at : ℕ → ℕ → ℕ → List ℕ → Result (ℕ × ℕ × ℕ × List ℕ)
end_at N M at t = word_at (ascii "\n") at t >>= λ e. done (N, M, e.0, e.1)

abbrev pub rest_at : ℕ → ℕ → List ℕ → Result (ℕ × ℕ × ℕ × List ℕ)
rest_at N at t = word_count (ascii " ") at t >>= λ m. end_at N m.0 m.1 m.2

abbrev pub line_at : List ℕ → Result (ℕ × ℕ × ℕ × List ℕ)
line_at t = word_count (ascii "p cnf ") 0 t >>= λ n. rest_at n.0 n.1 n.2

-- a number that has begun, to the blank or the end after it
abbrev pub number_from : ℕ → Number → ℕ → List ℕ → Result (Number × ℕ × List ℕ)
number_from N p at [] = need 18 at (whole p) >> done (p, at, [])
number_from N p at (b ∷ t) =
    if blank b then need 18 at (whole p) >> done (p, at, b ∷ t)
    else grown N p at b >>= λ q. number_from N q (suc at) t

abbrev pub number_at : ℕ → ℕ → List ℕ → Result (Number × ℕ × List ℕ)
number_at N at [] = refused 18 at
number_at N at (b ∷ t) = begun N at b >>= λ p. number_from N p (suc at) t

-- past blanks: the end, or a number, which there may be room for or not
pub data Found : Type 0 where
  ends : ℕ → Found
  holds : Number → ℕ → List ℕ → Found

abbrev pub found_from : ℕ → Bool → ℕ → List ℕ → Result Found
found_from N room at [] = done (ends at)
found_from N room at (b ∷ t) =
    if blank b then found_from N room (suc at) t
    else need 18 at room >> (number_at N at (b ∷ t) >>= λ r. done (holds r.0 r.1 r.2))

-- the numbers of text are to come
abbrev pub started : ℕ → ℕ → State
started N M = at_number (text N M) []

-- from a state on, to the end: text, with its N, M and K
abbrev pub from : {A : Type 0} → (ℕ → State → Result A) → State → ℕ → List ℕ → Result A
from end s at t = fed s at t >>= end (at + length t)

abbrev pub list_from : State → ℕ → List ℕ → Result Read
list_from = from end_text

abbrev pub sizes : ℕ → ℕ → ℕ → Sizes
sizes N M K = record { n = N; m = M; k = K }

abbrev pub sizes_read : Read → Sizes
sizes_read r = sizes r.n r.m (length r.list)

abbrev pub sized : Result Read → Result Sizes
sized m = m >>= λ r. done (sizes_read r)

-- ---- a reply
abbrev pub reply_from : State → ℕ → List ℕ → Result Reply
reply_from = from end_reply

-- a number is to come, at a line's beginning or in it; the first one
abbrev pub wanted : ℕ → List ℤ → Bool → State
wanted N ns line = awaits (if line then ascii "v " else []) (at_number (reply N) ns)

abbrev pub lines : ℕ → State
lines N = wanted N [] true

abbrev pub nothing : {A : Type 0} → A → ℕ → List ℕ → Result A
nothing a at [] = done a
nothing a at (b ∷ t) = refused 18 at

-- a number of a reply: the last, or a literal, with whether a line begins after it
pub data Taken : Type 0 where
  last : Taken
  more : ℤ → Bool → ℕ → List ℕ → Taken

abbrev pub after_number : Number → ℕ → List ℕ → Result Taken
after_number p at [] = refused 18 at
after_number p at (b ∷ t) =
    if eqb p.size 0 then need 18 at (eqb b 10) >> nothing last (suc at) t
    else done (more (number_read p) (eqb b 10) (suc at) t)

abbrev pub number_on : ℕ → ℕ → List ℕ → Result Taken
number_on N at t = number_at N at t >>= λ r. after_number r.0 r.1 r.2

abbrev pub value_at : ℕ → Bool → ℕ → List ℕ → Result Taken
value_at N line at t = if line then word_at (ascii "v ") at t >>= (λ p. number_on N p.0 p.1) else number_on N at t

-- literals of variables k, k + 1, .. in this order, as solvers print them
abbrev pub in_order : ℕ → List ℤ → Bool
in_order k [] = true
in_order k (n ∷ ns) = eqb (nat_abs n) k && in_order (suc k) ns

-- what a reply says, in short: no model, or how many literals and whether they are of 1, 2, .. in order
pub data Summary : Type 0 where
  without : Summary
  literals : ℕ → Bool → Summary

abbrev pub summary : Reply → Summary
summary unsatisfiable = without
summary (model ns) = literals (length ns) (in_order 1 ns)

abbrev pub summed : Result Reply → Result Summary
summed m = m >>= λ r. done (summary r)

-- from the verdict's word on
abbrev pub none_at : ℕ → List ℕ → Result Reply
none_at at t = word_at (ascii "UNSATISFIABLE\n") at t >>= λ p. nothing unsatisfiable p.0 p.1

abbrev pub model_at : ℕ → ℕ → List ℕ → Result Reply
model_at N at t = word_at (ascii "SATISFIABLE\n") at t >>= λ p. reply_from (lines N) p.0 p.1

-- the literals that are read from a place on, and that there a model is read
abbrev pub literals_of : Result Reply → List ℤ
literals_of (done (model ns)) = ns
literals_of (done unsatisfiable) = []
literals_of (refused n d) = []

abbrev pub literals_from : ℕ → ℕ → List ℕ → List ℤ
literals_from N from t = literals_of (reply_from (lines N) from (drop from t))

pub record HasModel (N from : ℕ) (t : List ℕ) : Type 0 where
  pub inside : from ≤ length t
  pub is : reply_from (lines N) from (drop from t) ≡ done (model (literals_from N from t))
