-- Examples of P2 in one table. proofs/TextExamples.antt proves of each row: what the definitions answer is what 02's sentences say.
use Prim.Native.String.{String}
use Rattle.std.specs.Prelude.{◌≡◌, ◌∷◌}
use Rattle.definitions.specs.Tools.{ℕ, Bool, true, false, List, [], ℤ, pos, neg}
use Rattle.definitions.specs.Result.{Result, done, refused}
use Rattle.definitions.specs.Operations.{Outcome, ◌leaves◌, Sizes}
use Rattle.definitions.specs.Dimacs.{ascii}
use Rattle.definitions.specs.Examples.{hex}
use Rattle.definitions.specs.TextReading.{Read, read_text}
use Rattle.definitions.specs.TextOperations.{write_text_outcome, read_text_outcome, read_reply_outcome}

pub data Question : Type 0 where
  write : String → List ℕ → Question
  text : String → Question
  list : String → List ℤ → Question
  reply : ℕ → String → List ℕ → Question

pub data Answer : Type 0 where
  written : Outcome ℕ (List ℕ) → Answer
  read : Result Read → Answer
  listed : Outcome Sizes (List ℤ) → Answer
  replied : Outcome Bool (List ℕ) → Answer

abbrev pub ask : Question → Answer
ask (write s lent) = written (write_text_outcome (hex s) lent)
ask (text t) = read (read_text (ascii t))
ask (list t lent) = listed (read_text_outcome (ascii t) lent)
ask (reply N t lent) = replied (read_reply_outcome N (ascii t) lent)

pub record Row : Type 0 where
  pub question : Question
  pub document : Answer

infix 10 ◌⇒◌
abbrev ◌⇒◌ : Question → Answer → Row
q ⇒ a = record { question = q; document = a }

-- text refused with 18, and a reply refused, which leaves the lent bytes
abbrev bad : String → ℕ → Row
bad t d = text t ⇒ read (refused 18 d)

abbrev good : String → ℕ → ℕ → List ℤ → Row
good t n m ns = text t ⇒ read (done (record { n = n; m = m; list = ns }))

abbrev lent : List ℕ
lent = 7 ∷ 7 ∷ []

abbrev turned : String → ℕ → ℕ → Row
turned t n d = reply 2 t lent ⇒ replied (refused n d leaves lent)

-- the record without variables, and one with x in 5..5
abbrev empty : String
empty = "01 00000006 0000 0000 0000"

abbrev one_value : String
one_value = "01 0000000A 0001 0000 0000 0005 0005"

abbrev pub table : List Row
table =
    -- the writer: the length; longer bytes keep their rest; shorter are refused with the length wanted
    (write empty (ascii "0123456789ab") ⇒ written (done 10 leaves ascii "p cnf 0 0\nab")) ∷
    (write one_value (ascii "abcdefghijklmnopqrstuvwxyz") ⇒ written (done 26 leaves ascii "p cnf 2 3\n-1 0\n2 0\n-1 2 0\n")) ∷
    (write empty (ascii "012345678") ⇒ written (refused 10 10 leaves ascii "012345678")) ∷
    (write "09 00000006 0000 0000 0000" [] ⇒ written (refused 3 0 leaves [])) ∷
    -- good text: blanks before, between and after; the last newline may be missing
    (good "p cnf 2 1\n1 -2 0\n" 2 1 (pos 1 ∷ neg 2 ∷ pos 0 ∷ [])) ∷
    (good "p cnf 2 2\n \n1\n\n-2  0 0" 2 2 (pos 1 ∷ neg 2 ∷ pos 0 ∷ pos 0 ∷ [])) ∷
    (good "p cnf 2147483647 0\n" 2147483647 0 []) ∷
    (good "p cnf 1 0\n \n " 1 0 []) ∷
    -- the first line
    (bad "" 0) ∷
    (bad "c from a solver\np cnf 1 0\n" 0) ∷
    (bad "p cnf 2147483648 0" 15) ∷
    (bad "p cnf 21474836470 0" 16) ∷
    (bad "p cnf 1 2147483648\n" 17) ∷
    (bad "p cnf  1 0\n" 6) ∷
    (bad "p cnf 01 0\n" 7) ∷
    (bad "p cnf +1 0\n" 6) ∷
    (bad "p cnf 1\t0\n" 7) ∷
    (bad "p cnf 1 0\r\n" 9) ∷
    (bad "p cnf 1 0 \n" 9) ∷
    (bad "p cnf 1 0" 9) ∷  -- its newline is wanted
    -- numbers: a leading zero, a signed 0, a plus, a minus alone, other bytes
    (bad "p cnf 2 1\n0012 0" 11) ∷
    (bad "p cnf 2 1\n-012 0" 11) ∷
    (bad "p cnf 2 1\n-0 0" 11) ∷
    (bad "p cnf 2 1\n+1 0" 10) ∷
    (bad "p cnf 2 1\n- 0" 11) ∷
    (bad "p cnf 2 1\n-" 11) ∷
    (bad "p cnf 2 1\n1\t0" 11) ∷
    (bad "p cnf 2 1\n1-2 0" 11) ∷
    -- beyond N: the number's first byte, whatever follows; with N = 0 the minus
    (bad "p cnf 2 1\n1 3 0" 12) ∷
    (bad "p cnf 12 1\n1 -13x" 13) ∷
    (bad "p cnf 12 1\n1 125 0" 13) ∷
    (bad "p cnf 0 1\n-1 0" 10) ∷
    (bad "p cnf 0 1\n-" 10) ∷
    -- more clauses than M, fewer, and a last one that is unfinished
    (bad "p cnf 1 1\n1 0\n 1 0" 15) ∷
    (bad "p cnf 1 0\n0" 10) ∷
    (bad "p cnf 1 1\n1 0\nx" 14) ∷
    (bad "p cnf 1 2\n1 0\n" 14) ∷
    (bad "p cnf 1 1\n1" 11) ∷
    -- the list: N, M, K; 10 with the K wanted
    (list "p cnf 2 1\n1 -2 0\n" (pos 7 ∷ pos 7 ∷ pos 7 ∷ pos 7 ∷ []) ⇒ listed (done (record { n = 2; m = 1; k = 3 }) leaves (pos 1 ∷ neg 2 ∷ pos 0 ∷ pos 7 ∷ []))) ∷
    (list "p cnf 2 1\n1 -2 0\n" (pos 7 ∷ pos 7 ∷ []) ⇒ listed (refused 10 3 leaves (pos 7 ∷ pos 7 ∷ []))) ∷
    (list "p cnf 2 1\n3 0\n" [] ⇒ listed (refused 18 10 leaves [])) ∷
    -- replies: on one line, on several; 'none' keeps what is lent, of any length
    (reply 2 "s SATISFIABLE\nv 1 -2 0\n" lent ⇒ replied (done true leaves (1 ∷ 0 ∷ []))) ∷
    (reply 2 "s SATISFIABLE\nv -2\nv 1\nv 0\n" lent ⇒ replied (done true leaves (1 ∷ 0 ∷ []))) ∷
    (reply 0 "s SATISFIABLE\nv 0\n" [] ⇒ replied (done true leaves [])) ∷
    (reply 9 "s UNSATISFIABLE\n" lent ⇒ replied (done false leaves lent)) ∷
    -- its lines
    (turned "" 18 0) ∷
    (turned "c from a solver\ns UNSATISFIABLE\n" 18 0) ∷
    (turned "s UNKNOWN\n" 18 4) ∷
    (turned "s SATISFIABLE\r\nv 1 -2 0\n" 18 13) ∷
    (turned "s UNSATISFIABLE" 18 15) ∷
    (turned "s UNSATISFIABLE\n\n" 18 16) ∷
    (turned "s SATISFIABLE\n" 18 14) ∷
    (turned "s SATISFIABLE\n\nv 1 -2 0\n" 18 14) ∷  -- a blank line
    (turned "s SATISFIABLE\nv\nv 1 -2 0\n" 18 15) ∷  -- a `v` without numbers
    (turned "s SATISFIABLE\nv  1 -2 0\n" 18 16) ∷  -- two spaces
    (turned "s SATISFIABLE\nv 1 \nv -2 0\n" 18 18) ∷  -- a space at a line's end
    (turned "s SATISFIABLE\nv 1 -2 0\nv 0\n" 18 23) ∷  -- a further line after the 0
    (turned "s SATISFIABLE\nv 1 0 2\n" 18 19) ∷  -- the space after the 0
    (turned "s SATISFIABLE\nv 1 -2 0" 18 22) ∷  -- the last newline is wanted
    (turned "s SATISFIABLE\nv 1 -2\n" 18 21) ∷  -- no 0
    (turned "s SATISFIABLE\nv 1 -3 0\n" 18 18) ∷  -- beyond N
    (turned "s SATISFIABLE\nv 1 25 0\n" 18 18) ∷
    (turned "s SATISFIABLE\nv -0\n" 18 17) ∷  -- a signed 0
    (turned "s SATISFIABLE\nv 01 0\n" 18 17) ∷  -- a leading zero
    (reply 0 "s SATISFIABLE\nv -1 0\n" [] ⇒ replied (refused 18 16 leaves [])) ∷
    -- 19: missing, present twice, present with each sign; the least; before 11
    (turned "s SATISFIABLE\nv 0\n" 19 1) ∷
    (turned "s SATISFIABLE\nv 1 0\n" 19 2) ∷
    (turned "s SATISFIABLE\nv 2 2 1 0\n" 19 2) ∷
    (turned "s SATISFIABLE\nv 1 2 -1 0\n" 19 1) ∷
    (turned "s SATISFIABLE\nv 1 1 0\n" 19 1) ∷  -- 1 is there twice, and 2 is missing
    (turned "s SATISFIABLE\nv 2 2 0\n" 19 1) ∷
    (reply 2 "s SATISFIABLE\nv 1 0\n" [] ⇒ replied (refused 19 2 leaves [])) ∷
    (reply 2 "s SATISFIABLE\nv 1 2 0\n" (7 ∷ []) ⇒ replied (refused 11 2 leaves (7 ∷ []))) ∷
    []

abbrev pub Holds : Row → Type 0
Holds r = ask r.question ≡ r.document
