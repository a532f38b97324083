-- The four numbers of an answer, and Closing's three hours, as a C caller is given them (include/basmuthar.h). Assumes nothing.
use Rattle.std.specs.Prelude.{Bool, true, false, List, [], ◌∷◌, ℕ, ℤ}
use Rattle.definitions.specs.Result.{Result, done, refused}
use Rattle.definitions.specs.Operations.{Sizes}
use Rattle.definitions.specs.Closing.{Earliest, found, none, unfinished}

-- 0 and three numbers for what is answered, or a refusal's number and its detail
abbrev pub answer_written : {A : Type 0} → (A → List ℕ) → Result A → List ℕ
answer_written numbers (done a) = 0 ∷ numbers a
answer_written numbers (refused number detail) = number ∷ detail ∷ 0 ∷ 0 ∷ []

-- Size, Compile and the reader of text: N, M and K
abbrev pub sizes_numbers : Sizes → List ℕ
sizes_numbers z = z.n ∷ z.m ∷ z.k ∷ []

-- Decode, Judge and Image: only zeros
abbrev pub verdict_numbers : Unit {0} → List ℕ
verdict_numbers u = 0 ∷ 0 ∷ 0 ∷ []

-- Closing: 0 found, 1 none, 2 unfinished
abbrev pub hour_numbers : Earliest → List ℕ
hour_numbers (found v) = 0 ∷ 0 ∷ 0 ∷ []
hour_numbers none = 1 ∷ 0 ∷ 0 ∷ []
hour_numbers (unfinished r question) = 2 ∷ 0 ∷ 0 ∷ []

-- the writer of text: the length
abbrev pub length_numbers : ℕ → List ℕ
length_numbers n = n ∷ 0 ∷ 0 ∷ []

-- the reader of a reply: 0 a model, 1 none
abbrev pub reply_numbers : Bool → List ℕ
reply_numbers true = 0 ∷ 0 ∷ 0 ∷ []
reply_numbers false = 1 ∷ 0 ∷ 0 ∷ []

abbrev pub sizes_written : Result Sizes → List ℕ
sizes_written r = answer_written sizes_numbers r

abbrev pub verdict_written : Result (Unit {0}) → List ℕ
verdict_written r = answer_written verdict_numbers r

abbrev pub hour_written : Result Earliest → List ℕ
hour_written r = answer_written hour_numbers r

abbrev pub length_written : Result ℕ → List ℕ
length_written r = answer_written length_numbers r

abbrev pub reply_written : Result Bool → List ℕ
reply_written r = answer_written reply_numbers r

-- the three hours: the value three times; low, high and the next question; else what was there
abbrev pub hours_written : Result Earliest → List ℤ → List ℤ
hours_written (done (found v)) hours = v ∷ v ∷ v ∷ []
hours_written (done none) hours = hours
hours_written (done (unfinished r question)) hours = r.lo ∷ r.hi ∷ question ∷ []
hours_written (refused number detail) hours = hours
