-- The starred examples of 01, its refusals and the figures of 02, in one table. proofs/Examples.antt proves of each row: what the
-- definitions answer is what the document says, or what follows from it.
use Rattle.std.specs.Prelude.{ℕ, zero, suc, ◌+◌, ◌*◌, ◌-◌, ◌≡◌, Bool, true, false, not, ◌&&◌, List, [], ◌∷◌, map, length, replicate, ltb, eqb, ℤ, pos, if◌then◌else◌}
use Prim.Native.String.{String}
use Rattle.definitions.specs.Tools.{flatten, neg, eq_z, range}
use Rattle.definitions.specs.Board.{Board, Bounds, Term, bounds_of}
use Rattle.definitions.specs.Result.{Result, done, refused}
use Rattle.definitions.specs.Encoding.{Atom, order, selector, SatLiteral, plus, minus, SatClause, sharp, tuples_of, comparisons, rules, atoms, number, literal_number, N}
use Rattle.definitions.specs.Meaning.{is_solution, is_model, is_plain}
use Rattle.definitions.specs.Operations.{Outcome, ◌leaves◌, Sizes, accepted, size_outcome, compile_outcome, decode_outcome, judge_outcome, image_outcome}
use Rattle.definitions.specs.Dimacs.{ascii, printed}
use Rattle.definitions.specs.Closing.{Earliest, found, none, unfinished, closing_outcome}

-- ---- bytes, written as the document writes them: two digits each, and spaces for the eye
abbrev digit : ℕ → ℕ
digit c = if ltb c 58 then c - 48 else c - 55

abbrev pairs : List ℕ → List ℕ
pairs [] = []
pairs (a ∷ []) = []
pairs (a ∷ b ∷ cs) = (16 * digit a + digit b) ∷ pairs cs

module _ {A : Type 0} where
  abbrev keep : (A → Bool) → List A → List A
  keep f [] = []
  keep f (x ∷ xs) = if f x then x ∷ keep f xs else keep f xs

abbrev pub hex : String → List ℕ
hex t = pairs (keep (λ c. not (eqb c 32)) (ascii t))

-- ---- the models and the solutions of a small board: all candidates, and those that pass the test
abbrev bytes : ℕ → List (List ℕ)
bytes zero = [] ∷ []
bytes (suc n) = flatten (map (λ r. (0 ∷ r) ∷ (1 ∷ r) ∷ []) (bytes n))

abbrev box : List Bounds → List (List ℤ)
box [] = [] ∷ []
box (b ∷ bs) = flatten (map (λ c. map (λ r. c ∷ r) (box bs)) (range b.lo b.hi))

abbrev models : Board → List (List ℕ)
models B = keep (is_model B) (bytes (N B))

abbrev solutions : Board → ℕ
solutions B = length (flatten (map (λ bs. keep (λ vs. is_solution B vs bs) (box B.bounds)) (bytes B.bools)))

-- without the later ones of equal entries
abbrev equal : List ℤ → List ℤ → Bool
equal [] [] = true
equal [] (b ∷ bs) = false
equal (a ∷ as') [] = false
equal (a ∷ as') (b ∷ bs) = eq_z a b && equal as' bs

abbrev once : List (List ℤ) → List (List ℤ)
once [] = []
once (c ∷ cs) = c ∷ keep (λ d. not (equal c d)) (once cs)

-- ---- questions and answers
pub data Question : Type 0 where
  how_long : String → Question
  size : String → Question
  size_of : List ℕ → Question
  compile : String → List ℤ → Question
  decode : String → List ℕ → List ℤ → List ℕ → Question
  judge : String → List ℤ → List ℕ → Question
  image : String → List ℤ → List ℕ → List ℕ → Question
  print : String → Question
  numbers : String → Question
  tuples : String → Question
  rules_of : String → Question
  how_many_rules : String → Question
  how_many_solutions : String → Question
  how_many : String → Question
  translation : Term → ℤ → Question
  closing : String → ℕ → List ℕ → Question

pub data Answer : Type 0 where
  long : ℕ → Answer
  sized : Result Sizes → Answer
  compiled : Outcome Sizes (List ℤ) → Answer
  decoded : Outcome (Unit {0}) (List ℤ × List ℕ) → Answer
  judged : Result (Unit {0}) → Answer
  imaged : Outcome (Unit {0}) (List ℕ) → Answer
  text : List ℕ → Answer
  numbered : List Atom → List ℕ → Answer
  bounds : List (List ℤ) → Answer
  clauses : List SatClause → Answer
  written_different : ℕ → ℕ → Answer
  solutions_are : ℕ → Answer
  models_solutions_plain : ℕ → ℕ → ℕ → Answer
  literal : SatLiteral → Answer
  hour : Result Earliest → Answer

abbrev on_board : Result Board → (Board → Answer) → Answer
on_board (done B) f = f B
on_board (refused n d) f = sized (refused n d)

abbrev pub ask : Question → Answer
ask (how_long s) = long (length (hex s))
ask (size s) = sized (size_outcome (hex s))
ask (size_of bytes) = sized (size_outcome bytes)
ask (compile s list) = compiled (compile_outcome (hex s) list)
ask (decode s model values booleans) = decoded (decode_outcome (hex s) model values booleans)
ask (judge s values booleans) = judged (judge_outcome (hex s) values booleans)
ask (image s values booleans model) = imaged (image_outcome (hex s) values booleans model)
ask (print s) = text (printed (hex s))
ask (numbers s) = on_board (accepted (hex s)) (λ B. numbered (atoms B) (map (number B) (atoms B)))
ask (tuples s) =
    on_board (accepted (hex s))
    (λ B. bounds (flatten (map (tuples_of (bounds_of B)) (flatten (map comparisons B.clauses)))))
ask (rules_of s) = on_board (accepted (hex s)) (λ B. clauses (flatten (rules B)))
ask (how_many_rules s) =
    on_board (accepted (hex s))
    (λ B. let l = map (map (literal_number B)) (flatten (rules B)) in written_different (length l) (length (once l)))
ask (how_many_solutions s) = on_board (accepted (hex s)) (λ B. solutions_are (solutions B))
ask (how_many s) =
    on_board (accepted (hex s))
    (λ B. models_solutions_plain (length (models B)) (solutions B) (length (keep (is_plain B) (models B))))
ask (translation t b) = literal (sharp t b)
ask (closing s x replies) = hour (closing_outcome (hex s) x replies)

-- ---- the records
abbrev one : String
one = "01 00000006 0000 0000 0000"

abbrev two : String
two = "01 0000001B 0002 0000 0001 0002 0006 0002 0006 01 02 02 01 0000 01 0001 00000007"

-- its second term with the coefficient 65 and the first one's variable, with an unknown variable, with the first one's; the constant 1,000,001
abbrev two₇ : String
two₇ = "01 0000001B 0002 0000 0001 0002 0006 0002 0006 01 02 02 01 0000 41 0000 00000007"

abbrev two₁₅ : String
two₁₅ = "01 0000001B 0002 0000 0001 0002 0006 0002 0006 01 02 02 01 0000 01 0002 00000007"

abbrev two₁₆ : String
two₁₆ = "01 0000001B 0002 0000 0001 0002 0006 0002 0006 01 02 02 01 0000 01 0000 00000007"

abbrev two₁₇ : String
two₁₇ = "01 0000001B 0002 0000 0001 0002 0006 0002 0006 01 02 02 01 0000 01 0001 000F4241"

abbrev three : String
three = "01 00000022 0003 0000 0001 0000 0003 0000 0003 0000 0003 01 02 03 01 0000 01 0001 FF 0002 FFFFFFFE"

abbrev four : String
four = "01 0000001B 0002 0000 0001 0000 0004 0000 0004 01 02 02 01 0000 FF 0001 FFFFFFFE"

abbrev five : String
five = "01 0000001B 0002 0000 0001 0000 0003 0000 0003 01 02 02 01 0000 01 0001 FFFFFFFE"

abbrev five₀ : String
five₀ = "01 0000001B 0002 0000 0001 0000 0003 0000 0003 01 02 02 01 0000 01 0001 00000000"

abbrev six : String
six = "01 0000001B 0002 0000 0001 0000 0003 0000 0003 01 02 02 02 0000 02 0001 00000004"

abbrev seven : String
seven = "01 0000000A 0001 0000 0000 0005 0005"

abbrev eight : String
eight = "01 0000001D 0001 0000 0001 0000 0003 02 02 01 01 0000 00000001 02 01 01 0000 00000002"

abbrev thirteen : String
thirteen = "01 00000027 0002 0000 0001 0000 0002 0000 0002 02 02 02 01 0000 FF 0001 FFFFFFFF 02 02 FF 0000 01 0001 FFFFFFFF"

-- case 10 with coefficients 65, and with version 9 as well
abbrev eleven : String
eleven = "01 00000022 0003 0000 0001 F000 0FFF F000 0FFF F000 0FFF 01 02 03 41 0000 41 0001 41 0002 00000000"

abbrev eleven₉ : String
eleven₉ = "09 00000022 0003 0000 0001 F000 0FFF F000 0FFF F000 0FFF 01 02 03 41 0000 41 0001 41 0002 00000000"

-- x in 0..1 and two Booleans: the first; not the second or x at most 0
abbrev flags : String
flags = "01 0000001B 0001 0002 0002 0000 0001 01 00 0001 02 01 0002 02 01 01 0000 00000000"

-- one variable each, no clause: 003's makespan, hours around 0, and the widest range
abbrev makespan : String
makespan = "01 0000000A 0001 0000 0000 03E8 05E5"

abbrev around_zero : String
around_zero = "01 0000000A 0001 0000 0000 FFFC 0003"

abbrev widest : String
widest = "01 0000000A 0001 0000 0000 F000 0FFF"

abbrev version_nine : String
version_nine = "09 0000000A 0001 0000 0000 0005 0005"

-- ---- x, y and z are the variables 0, 1 and 2
abbrev x≤ : ℤ → SatLiteral
x≤ c = plus (order 0 c)

abbrev y≤ : ℤ → SatLiteral
y≤ c = plus (order 1 c)

abbrev y> : ℤ → SatLiteral
y> c = minus (order 1 c)

abbrev z> : ℤ → SatLiteral
z> c = minus (order 2 c)

abbrev NMK : ℕ → ℕ → ℕ → Result Sizes
NMK n m k = done (record { n = n; m = m; k = k })

abbrev accept : Result (Unit {0})
accept = done tt

-- the range so far and the question; the value
abbrev asks : ℤ → ℤ → ℤ → Answer
asks low high h = hour (done (unfinished (record { lo = low; hi = high }) h))

abbrev finds : ℤ → Answer
finds v = hour (done (found v))

-- a line of the table: 01's case, 01's refusal or 02's request, what is asked of the definitions, what the document says of it.
-- Where 01 does not say it in so many words it follows from 01's rules: in 4 decode, judge and three of the clauses, in 5 compile,
-- print and the clauses at 0, in 7 compile, in 12 the list, in 13 judge and image. Of P9's rows those of `makespan` are 003's
-- Table 1 after the first question, and the others follow from 02's sentences
pub data Source : Type 0 where
  case_of01 : ℕ → Source
  refusal_of01 : ℕ → Source
  rules_of01 : Source
  request_of02 : ℕ → Source

pub record Row : Type 0 where
  pub source : Source
  pub question : Question
  pub document : Answer

infix 10 case◌∶◌⇒◌
abbrev pub case◌∶◌⇒◌ : ℕ → Question → Answer → Row
case n ∶ q ⇒ a = record { source = case_of01 n; question = q; document = a }

-- a question and its refusal, what was lent as it was
abbrev Refusable : Type 0
Refusable = Question × (ℕ → ℕ → Answer)

abbrev read : String → Refusable
read s = (size s, λ n d. sized (refused n d))

abbrev read_bytes : List ℕ → Refusable
read_bytes s = (size_of s, λ n d. sized (refused n d))

abbrev to_compile : String → List ℤ → Refusable
to_compile s list = (compile s list, λ n d. compiled (refused n d leaves list))

abbrev to_decode : String → List ℕ → List ℤ → List ℕ → Refusable
to_decode s model values booleans = (decode s model values booleans, λ n d. decoded (refused n d leaves (values, booleans)))

abbrev to_judge : String → List ℤ → List ℕ → Refusable
to_judge s values booleans = (judge s values booleans, λ n d. judged (refused n d))

abbrev to_image : String → List ℤ → List ℕ → List ℕ → Refusable
to_image s values booleans model = (image s values booleans model, λ n d. imaged (refused n d leaves model))

abbrev to_closing : String → ℕ → List ℕ → Refusable
to_closing s x replies = (closing s x replies, λ n d. hour (refused n d))

-- a line of 01's table of refusals, its number and detail
infix 10 refusal◌detail◌∶◌
abbrev pub refusal◌detail◌∶◌ : ℕ → ℕ → Refusable → Row
refusal n detail d ∶ q = record { source = refusal_of01 n; question = q.0; document = q.1 n d }

-- a refusal of 02
infix 10 P◌refuses◌detail◌∶◌
abbrev pub P◌refuses◌detail◌∶◌ : ℕ → ℕ → ℕ → Refusable → Row
P request refuses n detail d ∶ q = record { source = request_of02 request; question = q.0; document = q.1 n d }

-- what is accepted beside them, by 01's rules
infix 10 follows∶◌⇒◌
abbrev pub follows∶◌⇒◌ : Question → Answer → Row
follows∶ q ⇒ a = record { source = rules_of01; question = q; document = a }

infix 10 P◌∶◌⇒◌
abbrev pub P◌∶◌⇒◌ : ℕ → Question → Answer → Row
P n ∶ q ⇒ a = record { source = request_of02 n; question = q; document = a }

abbrev pub table : List Row
table =
    (case 1 ∶ size one ⇒ sized (NMK 0 0 0)) ∷
    (case 1 ∶ compile one [] ⇒ compiled (NMK 0 0 0 leaves [])) ∷
    (case 2 ∶ size two ⇒ sized (NMK 12 19 53)) ∷
    (case 2 ∶ tuples two ⇒ bounds ((pos 1 ∷ pos 5 ∷ []) ∷ (pos 2 ∷ pos 4 ∷ []) ∷ (pos 3 ∷ pos 3 ∷ []) ∷ (pos 4 ∷ pos 2 ∷ []) ∷ (pos 5 ∷ pos 1 ∷ []) ∷ [])) ∷
    (case 2 ∶ rules_of two ⇒ clauses
    ((x≤ (pos 1) ∷ y≤ (pos 5) ∷ []) ∷ (x≤ (pos 2) ∷ y≤ (pos 4) ∷ []) ∷ (x≤ (pos 3) ∷ y≤ (pos 3) ∷ []) ∷
    (x≤ (pos 4) ∷ y≤ (pos 2) ∷ []) ∷ (x≤ (pos 5) ∷ y≤ (pos 1) ∷ []) ∷ [])) ∷
    (case 2 ∶ how_many_solutions two ⇒ solutions_are 10) ∷
    (case 3 ∶ size three ⇒ sized (NMK 15 24 72)) ∷
    (case 3 ∶ rules_of three ⇒ clauses
    ((x≤ (neg 1) ∷ y≤ (neg 1) ∷ z> (pos 1) ∷ []) ∷ (x≤ (neg 1) ∷ y≤ (pos 0) ∷ z> (pos 2) ∷ []) ∷
    (x≤ (neg 1) ∷ y≤ (pos 1) ∷ z> (pos 3) ∷ []) ∷ (x≤ (pos 0) ∷ y≤ (neg 1) ∷ z> (pos 2) ∷ []) ∷
    (x≤ (pos 0) ∷ y≤ (pos 0) ∷ z> (pos 3) ∷ []) ∷ (x≤ (pos 1) ∷ y≤ (neg 1) ∷ z> (pos 3) ∷ []) ∷ [])) ∷
    (case 4 ∶ size four ⇒ sized (NMK 12 18 50)) ∷
    (case 4 ∶ rules_of four ⇒ clauses
    ((x≤ (neg 1) ∷ y> (pos 1) ∷ []) ∷ (x≤ (pos 0) ∷ y> (pos 2) ∷ []) ∷ (x≤ (pos 1) ∷ y> (pos 3) ∷ []) ∷
    (x≤ (pos 2) ∷ y> (pos 4) ∷ []) ∷ [])) ∷
    (case 4 ∶ decode four (0 ∷ 0 ∷ 0 ∷ 0 ∷ 1 ∷ 1 ∷ 0 ∷ 0 ∷ 0 ∷ 0 ∷ 0 ∷ 1 ∷ []) (pos 7 ∷ pos 7 ∷ []) [] ⇒
    decoded (refused 13 17 leaves (pos 7 ∷ pos 7 ∷ [], []))) ∷
    (case 4 ∶ judge four (pos 3 ∷ pos 4 ∷ []) [] ⇒ judged (refused 13 0)) ∷
    (case 4 ∶ judge four (pos 2 ∷ pos 4 ∷ []) [] ⇒ judged accept) ∷
    (case 5 ∶ rules_of five ⇒ clauses ([] ∷ [])) ∷
    (case 5 ∶ compile five (replicate 34 (pos 7)) ⇒ compiled (NMK 10 13 33 leaves
    (neg 1 ∷ pos 0 ∷ pos 5 ∷ pos 0 ∷ neg 1 ∷ pos 2 ∷ pos 0 ∷ neg 2 ∷ pos 3 ∷ pos 0 ∷ neg 3 ∷ pos 4 ∷ pos 0 ∷ neg 4 ∷ pos 5 ∷ pos 0 ∷
    neg 6 ∷ pos 0 ∷ pos 10 ∷ pos 0 ∷ neg 6 ∷ pos 7 ∷ pos 0 ∷ neg 7 ∷ pos 8 ∷ pos 0 ∷ neg 8 ∷ pos 9 ∷ pos 0 ∷ neg 9 ∷ pos 10 ∷ pos 0 ∷
    pos 0 ∷ pos 7 ∷ []))) ∷
    (case 5 ∶ print five ⇒ text (ascii "p cnf 10 13\n-1 0\n5 0\n-1 2 0\n-2 3 0\n-3 4 0\n-4 5 0\n-6 0\n10 0\n-6 7 0\n-7 8 0\n-8 9 0\n-9 10 0\n0\n")) ∷
    (case 5 ∶ rules_of five₀ ⇒ clauses ((x≤ (neg 1) ∷ y≤ (pos 0) ∷ []) ∷ (x≤ (pos 0) ∷ y≤ (neg 1) ∷ []) ∷ [])) ∷
    (case 6 ∶ how_many_rules six ⇒ written_different 6 4) ∷
    (case 7 ∶ size seven ⇒ sized (NMK 2 3 7)) ∷
    (case 7 ∶ compile seven (pos 7 ∷ pos 7 ∷ pos 7 ∷ pos 7 ∷ pos 7 ∷ pos 7 ∷ pos 7 ∷ pos 7 ∷ []) ⇒
    compiled (NMK 2 3 7 leaves (neg 1 ∷ pos 0 ∷ pos 2 ∷ pos 0 ∷ neg 1 ∷ pos 2 ∷ pos 0 ∷ pos 7 ∷ []))) ∷
    (case 8 ∶ how_many eight ⇒ models_solutions_plain 7 3 3) ∷
    (case 9 ∶ translation (record { coef = neg 3; var = 0 }) (neg 7) ⇒ literal (minus (order 0 (pos 2)))) ∷
    (case 9 ∶ translation (record { coef = pos 3; var = 0 }) (neg 7) ⇒ literal (plus (order 0 (neg 3)))) ∷
    (case 11 ∶ size eleven ⇒ sized (refused 7 26)) ∷
    (case 11 ∶ size eleven₉ ⇒ sized (refused 3 0)) ∷
    (case 12 ∶ compile two (replicate 52 (pos 7)) ⇒ compiled (refused 10 53 leaves replicate 52 (pos 7))) ∷
    (case 12 ∶ compile two (replicate 54 (pos 7)) ⇒ compiled (NMK 12 19 53 leaves
    (neg 1 ∷ pos 0 ∷ pos 6 ∷ pos 0 ∷ neg 1 ∷ pos 2 ∷ pos 0 ∷ neg 2 ∷ pos 3 ∷ pos 0 ∷ neg 3 ∷ pos 4 ∷ pos 0 ∷ neg 4 ∷ pos 5 ∷ pos 0 ∷ neg 5 ∷ pos 6 ∷ pos 0 ∷
    neg 7 ∷ pos 0 ∷ pos 12 ∷ pos 0 ∷ neg 7 ∷ pos 8 ∷ pos 0 ∷ neg 8 ∷ pos 9 ∷ pos 0 ∷ neg 9 ∷ pos 10 ∷ pos 0 ∷ neg 10 ∷ pos 11 ∷ pos 0 ∷ neg 11 ∷ pos 12 ∷ pos 0 ∷
    pos 1 ∷ pos 11 ∷ pos 0 ∷ pos 2 ∷ pos 10 ∷ pos 0 ∷ pos 3 ∷ pos 9 ∷ pos 0 ∷ pos 4 ∷ pos 8 ∷ pos 0 ∷ pos 5 ∷ pos 7 ∷ pos 0 ∷ pos 7 ∷ []))) ∷
    (case 13 ∶ how_long thirteen ⇒ long 44) ∷
    (case 13 ∶ size thirteen ⇒ sized (NMK 10 17 53)) ∷
    (case 13 ∶ numbers thirteen ⇒ numbered
    (order 0 (neg 1) ∷ order 0 (pos 0) ∷ order 0 (pos 1) ∷ order 0 (pos 2) ∷ order 1 (neg 1) ∷ order 1 (pos 0) ∷
    order 1 (pos 1) ∷ order 1 (pos 2) ∷ selector 0 ∷ selector 1 ∷ [])
    (1 ∷ 2 ∷ 3 ∷ 4 ∷ 5 ∷ 6 ∷ 7 ∷ 8 ∷ 9 ∷ 10 ∷ [])) ∷
    (case 13 ∶ print thirteen ⇒ text (ascii "p cnf 10 17\n-1 0\n4 0\n-1 2 0\n-2 3 0\n-3 4 0\n-5 0\n8 0\n-5 6 0\n-6 7 0\n-7 8 0\n9 10 0\n-9 1 -6 0\n-9 2 -7 0\n-9 3 -8 0\n-10 -4 7 0\n-10 -3 6 0\n-10 -2 5 0\n")) ∷
    (case 14 ∶ decode thirteen (0 ∷ 1 ∷ 1 ∷ 1 ∷ 0 ∷ 0 ∷ 1 ∷ 1 ∷ 1 ∷ 0 ∷ []) (pos 7 ∷ pos 7 ∷ []) [] ⇒
    decoded (accept leaves (pos 0 ∷ pos 1 ∷ [], []))) ∷
    (case 14 ∶ decode thirteen (0 ∷ 1 ∷ 1 ∷ 1 ∷ 0 ∷ 0 ∷ 1 ∷ 1 ∷ 1 ∷ 1 ∷ []) (pos 7 ∷ pos 7 ∷ []) [] ⇒
    decoded (refused 13 15 leaves (pos 7 ∷ pos 7 ∷ [], []))) ∷
    (case 13 ∶ judge thirteen (pos 0 ∷ pos 1 ∷ []) [] ⇒ judged accept) ∷
    (case 13 ∶ judge thirteen (pos 1 ∷ pos 1 ∷ []) [] ⇒ judged (refused 13 0)) ∷
    (case 13 ∶ image thirteen (pos 0 ∷ pos 1 ∷ []) [] (7 ∷ 7 ∷ 7 ∷ 7 ∷ 7 ∷ 7 ∷ 7 ∷ 7 ∷ 7 ∷ 7 ∷ []) ⇒
    imaged (accept leaves (0 ∷ 1 ∷ 1 ∷ 1 ∷ 0 ∷ 0 ∷ 1 ∷ 1 ∷ 1 ∷ 0 ∷ []))) ∷
    -- 1, 2 and 3: the length above 65,536 before all else, fewer than 5 bytes before the version, that before the stated length
    (refusal 1 detail 0 ∶ read_bytes (replicate 65537 0)) ∷  -- a byte too many; the version is wrong too
    (refusal 3 detail 0 ∶ read_bytes (replicate 65536 0)) ∷  -- not too long; version 0
    (refusal 2 detail 0 ∶ read "") ∷  -- no byte
    (refusal 2 detail 0 ∶ read "09 000000") ∷  -- 4 bytes; the version is wrong too
    (refusal 3 detail 0 ∶ read "09 00000000") ∷  -- 5 bytes, version 9
    (refusal 3 detail 0 ∶ read "02 00000007 0000 0000 0000") ∷  -- version 2; the stated length is wrong too
    (refusal 2 detail 0 ∶ read "01 00000007 0401 0000 0000") ∷  -- stated a byte too long; a count is wrong too
    (refusal 2 detail 0 ∶ read "01 00000005 0401 0000 0000") ∷  -- stated a byte too short
    -- 4: each count, its limits, and from left to right
    (refusal 4 detail 5 ∶ read "01 00000006 0401 1001 1001") ∷  -- 1,025 integer variables
    (refusal 4 detail 7 ∶ read "01 00000006 0400 1001 1001") ∷  -- 1,024 of them; 4,097 Boolean variables
    (refusal 4 detail 9 ∶ read "01 00000006 0400 1000 1001") ∷  -- 4,096 of them; 4,097 clauses
    (refusal 8 detail 11 ∶ read "01 00000006 0400 1000 1000") ∷  -- 4,096 of them; the first bound is missing
    (refusal 4 detail 11 ∶ read "01 00000007 0000 0000 0001 41") ∷  -- 65 literals
    (refusal 8 detail 12 ∶ read "01 00000007 0000 0000 0001 40") ∷  -- 64 literals; the first kind is missing
    (refusal 4 detail 13 ∶ read "01 00000009 0000 0000 0001 01 02 00") ∷  -- no term
    (refusal 4 detail 13 ∶ read "01 00000009 0000 0000 0001 01 02 04") ∷  -- 4 terms
    (refusal 8 detail 14 ∶ read "01 00000009 0000 0000 0001 01 02 03") ∷  -- 3 terms; the first coefficient is missing
    -- 5: each bound, its limits, an upper below its lower
    (refusal 5 detail 11 ∶ read "01 0000000A 0001 0000 0000 EFFF 1000") ∷  -- lower -4,097; the upper is wrong too
    (refusal 5 detail 11 ∶ read "01 0000000A 0001 0000 0000 1000 1000") ∷  -- lower 4,096
    (refusal 5 detail 13 ∶ read "01 0000000A 0001 0000 0000 F000 EFFF") ∷  -- lower -4,096; upper -4,097
    (refusal 5 detail 13 ∶ read "01 0000000A 0001 0000 0000 0FFF 1000") ∷  -- lower 4,095; upper 4,096
    (refusal 5 detail 13 ∶ read "01 0000000A 0001 0000 0000 0005 0004") ∷  -- upper 4 below lower 5
    (refusal 5 detail 17 ∶ read "01 0000000E 0002 0000 0000 0005 0005 0001 0000") ∷  -- the same of the second variable
    (follows∶ size "01 0000000E 0002 0000 0000 F000 F000 0FFF 0FFF" ⇒ sized (NMK 4 6 14)) ∷  -- each limit as lower and as upper
    -- 6: kind and Boolean number
    (refusal 6 detail 12 ∶ read "01 0000000A 0000 0001 0001 01 03 0000") ∷  -- kind 3; a Boolean number is wrong too
    (refusal 6 detail 12 ∶ read "01 0000000A 0000 0001 0001 01 FF 0001") ∷  -- kind 255
    (refusal 6 detail 13 ∶ read "01 0000000A 0000 0001 0001 01 00 0000") ∷  -- Boolean 0
    (refusal 6 detail 13 ∶ read "01 0000000A 0000 0001 0001 01 00 0002") ∷  -- Boolean 2 of 1
    (refusal 6 detail 13 ∶ read "01 0000000A 0000 0001 0001 01 01 0000") ∷  -- negated Boolean 0
    (refusal 6 detail 13 ∶ read "01 0000000A 0000 0001 0001 01 01 0002") ∷  -- negated Boolean 2 of 1
    (follows∶ size "01 0000000D 0000 0002 0001 02 00 0001 01 0002" ⇒ sized (NMK 2 1 3)) ∷  -- 1 and 2 of 2
    -- 7 of 01, and 15 to 17 of 02 for what 7 stood for there: coefficient, variable, constant; term by term and before the constant
    (refusal 7 detail 18 ∶ read "01 00000014 0001 0000 0001 0000 0003 01 02 01 00 0001 7FFFFFFF") ∷  -- coefficient 0; variable and constant are wrong too
    (refusal 7 detail 18 ∶ read "01 00000014 0001 0000 0001 0000 0003 01 02 01 41 0001 7FFFFFFF") ∷  -- coefficient 65
    (refusal 7 detail 18 ∶ read "01 00000014 0001 0000 0001 0000 0003 01 02 01 BF 0001 7FFFFFFF") ∷  -- coefficient -65
    (P 1 refuses 15 detail 19 ∶ read "01 00000014 0001 0000 0001 0000 0003 01 02 01 40 0001 7FFFFFFF") ∷  -- coefficient 64; variable 1 of one; the constant is wrong too
    (P 1 refuses 17 detail 21 ∶ read "01 00000014 0001 0000 0001 0000 0003 01 02 01 C0 0000 000F4241") ∷  -- coefficient -64; constant 1,000,001
    (P 1 refuses 17 detail 21 ∶ read "01 00000014 0001 0000 0001 0000 0003 01 02 01 C0 0000 FFF0BDBF") ∷  -- constant -1,000,001
    (follows∶ size "01 00000014 0001 0000 0001 0000 0003 01 02 01 01 0000 000F4240" ⇒ sized (NMK 5 6 16)) ∷  -- constant 1,000,000: it always holds
    (follows∶ size "01 00000014 0001 0000 0001 0000 0003 01 02 01 01 0000 FFF0BDC0" ⇒ sized (NMK 5 7 17)) ∷  -- constant -1,000,000: it never holds
    (P 1 refuses 16 detail 22 ∶ read "01 00000013 0001 0000 0001 0000 0003 01 02 02 01 0000 01 0000") ∷  -- variable 0 again; the constant is missing too
    (P 1 refuses 16 detail 29 ∶ read "01 0000001E 0002 0000 0001 0000 0003 0000 0003 01 02 03 01 0000 01 0001 01 0000 00000001") ∷  -- variable 0 again, after 1
    (P 1 refuses 16 detail 29 ∶ read "01 0000001E 0002 0000 0001 0000 0003 0000 0003 01 02 03 01 0000 01 0001 01 0001 00000001") ∷  -- variable 1 again
    (P 1 refuses 15 detail 29 ∶ read "01 0000001E 0002 0000 0001 0000 0003 0000 0003 01 02 03 01 0000 01 0001 01 FFFF 7FFFFFFF") ∷  -- variable 65,535 of two
    (P 1 refuses 15 detail 22 ∶ read "01 00000013 0001 0000 0001 0000 0003 01 02 02 01 0000 01 0001") ∷  -- variable 1 of one; the constant is missing too
    (P 1 refuses 15 detail 15 ∶ read "01 00000010 0000 0000 0001 01 02 01 01 0000 00000001") ∷  -- variable 0 of none
    (refusal 7 detail 25 ∶ read two₇) ∷  -- the second term's coefficient; its variable stands in the first
    -- each of the operations gives them, and leaves what it was lent
    (P 1 refuses 15 detail 26 ∶ read two₁₅) ∷
    (P 1 refuses 16 detail 26 ∶ to_compile two₁₆ (pos 7 ∷ [])) ∷
    (P 1 refuses 17 detail 28 ∶ to_decode two₁₇ (2 ∷ []) (pos 7 ∷ []) (7 ∷ [])) ∷
    (P 1 refuses 15 detail 26 ∶ to_judge two₁₅ (pos 7 ∷ []) (2 ∷ [])) ∷
    (P 1 refuses 16 detail 26 ∶ to_image two₁₆ (pos 7 ∷ []) (2 ∷ []) (7 ∷ [])) ∷
    (P 1 refuses 17 detail 28 ∶ to_closing two₁₇ 2 (2 ∷ [])) ∷
    -- 8: each field cut short, before its value (what is there would be out of range), and bytes left over
    (refusal 8 detail 5 ∶ read "01 00000000") ∷  -- no count
    (refusal 8 detail 5 ∶ read "01 00000001 FF") ∷  -- integer variables
    (refusal 8 detail 7 ∶ read "01 00000003 0000 FF") ∷  -- Boolean variables
    (refusal 8 detail 9 ∶ read "01 00000005 0000 0000 FF") ∷  -- clauses
    (refusal 8 detail 11 ∶ read "01 00000007 0001 0000 0000 7F") ∷  -- lower bound
    (refusal 8 detail 13 ∶ read "01 00000009 0001 0000 0000 0005 7F") ∷  -- upper bound
    (refusal 8 detail 11 ∶ read "01 00000006 0000 0000 0001") ∷  -- literal count
    (refusal 8 detail 12 ∶ read "01 00000007 0000 0001 0001 01") ∷  -- kind
    (refusal 8 detail 13 ∶ read "01 00000009 0000 0001 0001 01 00 FF") ∷  -- Boolean number
    (refusal 8 detail 13 ∶ read "01 00000009 0000 0001 0001 01 01 FF") ∷  -- of a negated Boolean
    (refusal 8 detail 13 ∶ read "01 00000008 0000 0000 0001 01 02") ∷  -- term count
    (refusal 8 detail 18 ∶ read "01 0000000D 0001 0000 0001 0000 0003 01 02 01") ∷  -- coefficient
    (refusal 8 detail 19 ∶ read "01 0000000F 0001 0000 0001 0000 0003 01 02 01 01 FF") ∷  -- variable
    (refusal 8 detail 21 ∶ read "01 00000013 0001 0000 0001 0000 0003 01 02 01 01 0000 7FFFFF") ∷  -- constant
    (refusal 8 detail 11 ∶ read "01 00000007 0000 0000 0000 00") ∷  -- a byte after the counts
    (refusal 8 detail 15 ∶ read "01 0000000C 0001 0000 0000 0005 0005 00 00") ∷  -- two bytes after the variable table: the first
    (refusal 8 detail 15 ∶ read "01 0000000B 0000 0001 0001 01 00 0001 01") ∷  -- a byte after the last clause
    -- 11 to 14. Decode: model, values, Booleans; then 12, 13
    (refusal 11 detail 6 ∶ to_decode flags (0 ∷ 0 ∷ 0 ∷ 0 ∷ 2 ∷ []) (pos 7 ∷ pos 7 ∷ []) (7 ∷ [])) ∷  -- model of 5; the other lengths and a byte are wrong too
    (refusal 11 detail 6 ∶ to_decode flags (0 ∷ 0 ∷ 0 ∷ 0 ∷ 2 ∷ 0 ∷ 0 ∷ []) (pos 7 ∷ pos 7 ∷ []) (7 ∷ [])) ∷  -- model of 7
    (refusal 11 detail 1 ∶ to_decode flags (0 ∷ 0 ∷ 0 ∷ 0 ∷ 2 ∷ 0 ∷ []) (pos 7 ∷ pos 7 ∷ []) (7 ∷ [])) ∷  -- 2 values
    (refusal 11 detail 2 ∶ to_decode flags (0 ∷ 0 ∷ 0 ∷ 0 ∷ 2 ∷ 0 ∷ []) (pos 7 ∷ []) (7 ∷ [])) ∷  -- 1 Boolean
    (refusal 12 detail 4 ∶ to_decode flags (0 ∷ 0 ∷ 0 ∷ 0 ∷ 2 ∷ 0 ∷ []) (pos 7 ∷ []) (7 ∷ 7 ∷ [])) ∷  -- byte 4; clause 1 does not hold either
    (refusal 13 detail 4 ∶ to_decode flags (0 ∷ 0 ∷ 0 ∷ 1 ∷ 1 ∷ 0 ∷ []) (pos 7 ∷ []) (7 ∷ 7 ∷ [])) ∷  -- the axioms hold; the first Boolean
    -- Judge: values, Booleans; then 12, 14, 13
    (refusal 11 detail 1 ∶ to_judge flags (pos 2 ∷ pos 2 ∷ []) (2 ∷ [])) ∷  -- 2 values; all else is wrong too
    (refusal 11 detail 2 ∶ to_judge flags (pos 2 ∷ []) (2 ∷ [])) ∷  -- 1 Boolean
    (refusal 12 detail 1 ∶ to_judge flags (pos 2 ∷ []) (0 ∷ 2 ∷ [])) ∷  -- byte 1
    (refusal 14 detail 0 ∶ to_judge flags (pos 2 ∷ []) (0 ∷ 1 ∷ [])) ∷  -- value 0 above its upper
    (refusal 14 detail 0 ∶ to_judge flags (neg 1 ∷ []) (0 ∷ 1 ∷ [])) ∷  -- and below its lower
    (refusal 13 detail 0 ∶ to_judge flags (pos 1 ∷ []) (0 ∷ 1 ∷ [])) ∷  -- neither clause holds: the first
    (refusal 13 detail 1 ∶ to_judge flags (pos 1 ∷ []) (1 ∷ 1 ∷ [])) ∷  -- the second
    (refusal 14 detail 1 ∶ to_judge thirteen (pos 1 ∷ pos 3 ∷ []) []) ∷  -- value 1 above its upper
    -- Image: values, Booleans, model; then as Judge
    (refusal 11 detail 1 ∶ to_image flags (pos 2 ∷ pos 2 ∷ []) (2 ∷ []) (7 ∷ [])) ∷  -- 2 values; all else is wrong too
    (refusal 11 detail 2 ∶ to_image flags (pos 2 ∷ []) (2 ∷ []) (7 ∷ [])) ∷  -- 1 Boolean
    (refusal 11 detail 6 ∶ to_image flags (pos 2 ∷ []) (0 ∷ 2 ∷ []) (7 ∷ [])) ∷  -- model of 1
    (refusal 12 detail 1 ∶ to_image flags (pos 2 ∷ []) (0 ∷ 2 ∷ []) (7 ∷ 7 ∷ 7 ∷ 7 ∷ 7 ∷ 7 ∷ [])) ∷  -- byte 1 of the Booleans; the model is not looked at
    (refusal 14 detail 0 ∶ to_image flags (pos 2 ∷ []) (0 ∷ 1 ∷ []) (7 ∷ 7 ∷ 7 ∷ 7 ∷ 7 ∷ 7 ∷ [])) ∷  -- value 0
    (refusal 13 detail 0 ∶ to_image flags (pos 1 ∷ []) (0 ∷ 1 ∷ []) (7 ∷ 7 ∷ 7 ∷ 7 ∷ 7 ∷ 7 ∷ [])) ∷  -- clause 0
    -- the board with Booleans, accepted
    (follows∶ print flags ⇒ text (ascii "p cnf 6 7\n-3 0\n5 0\n-3 4 0\n-4 5 0\n1 0\n-2 6 0\n-6 4 0\n")) ∷
    (follows∶ how_many flags ⇒ models_solutions_plain 4 3 3) ∷
    (follows∶ decode flags (1 ∷ 1 ∷ 0 ∷ 1 ∷ 1 ∷ 1 ∷ []) (pos 7 ∷ []) (7 ∷ 7 ∷ []) ⇒ decoded (accept leaves (pos 0 ∷ [], 1 ∷ 1 ∷ []))) ∷
    (follows∶ judge flags (pos 0 ∷ []) (1 ∷ 1 ∷ []) ⇒ judged accept) ∷
    (follows∶ image flags (pos 0 ∷ []) (1 ∷ 1 ∷ []) (7 ∷ 7 ∷ 7 ∷ 7 ∷ 7 ∷ 7 ∷ []) ⇒ imaged (accept leaves (1 ∷ 1 ∷ 0 ∷ 1 ∷ 1 ∷ 1 ∷ []))) ∷
    (P 9 ∶ closing makespan 0 [] ⇒ asks (pos 1000) (pos 1509) (pos 1509)) ∷
    (P 9 ∶ closing makespan 0 (1 ∷ []) ⇒ asks (pos 1000) (pos 1509) (pos 1254)) ∷
    (P 9 ∶ closing makespan 0 (1 ∷ 1 ∷ []) ⇒ asks (pos 1000) (pos 1254) (pos 1127)) ∷
    (P 9 ∶ closing makespan 0 (1 ∷ 1 ∷ 0 ∷ []) ⇒ asks (pos 1128) (pos 1254) (pos 1191)) ∷
    (P 9 ∶ closing makespan 0 (1 ∷ 1 ∷ 0 ∷ 1 ∷ []) ⇒ asks (pos 1128) (pos 1191) (pos 1159)) ∷
    (P 9 ∶ closing makespan 0 (1 ∷ 1 ∷ 0 ∷ 1 ∷ 0 ∷ []) ⇒ asks (pos 1160) (pos 1191) (pos 1175)) ∷
    (P 9 ∶ closing makespan 0 (1 ∷ 1 ∷ 0 ∷ 1 ∷ 0 ∷ 1 ∷ []) ⇒ asks (pos 1160) (pos 1175) (pos 1167)) ∷
    (P 9 ∶ closing makespan 0 (1 ∷ 1 ∷ 0 ∷ 1 ∷ 0 ∷ 1 ∷ 0 ∷ []) ⇒ asks (pos 1168) (pos 1175) (pos 1171)) ∷
    (P 9 ∶ closing makespan 0 (1 ∷ 1 ∷ 0 ∷ 1 ∷ 0 ∷ 1 ∷ 0 ∷ 1 ∷ []) ⇒ asks (pos 1168) (pos 1171) (pos 1169)) ∷
    (P 9 ∶ closing makespan 0 (1 ∷ 1 ∷ 0 ∷ 1 ∷ 0 ∷ 1 ∷ 0 ∷ 1 ∷ 1 ∷ []) ⇒ asks (pos 1168) (pos 1169) (pos 1168)) ∷
    (P 9 ∶ closing makespan 0 (1 ∷ 1 ∷ 0 ∷ 1 ∷ 0 ∷ 1 ∷ 0 ∷ 1 ∷ 1 ∷ 1 ∷ []) ⇒ finds (pos 1168)) ∷
    (P 9 ∶ closing makespan 0 (1 ∷ 1 ∷ 0 ∷ 1 ∷ 0 ∷ 1 ∷ 0 ∷ 1 ∷ 1 ∷ 1 ∷ 1 ∷ 0 ∷ []) ⇒ hour (refused 23 2)) ∷
    (P 9 ∶ closing around_zero 0 [] ⇒ asks (neg 4) (pos 3) (pos 3)) ∷
    (P 9 ∶ closing around_zero 0 (1 ∷ []) ⇒ asks (neg 4) (pos 3) (neg 1)) ∷
    (P 9 ∶ closing around_zero 0 (1 ∷ 1 ∷ []) ⇒ asks (neg 4) (neg 1) (neg 3)) ∷
    (P 9 ∶ closing around_zero 0 (1 ∷ 1 ∷ 0 ∷ []) ⇒ asks (neg 2) (neg 1) (neg 2)) ∷
    (P 9 ∶ closing around_zero 0 (1 ∷ 1 ∷ 0 ∷ 0 ∷ []) ⇒ finds (neg 1)) ∷
    (P 9 ∶ closing around_zero 0 (1 ∷ 0 ∷ []) ⇒ asks (pos 0) (pos 3) (pos 1)) ∷
    (P 9 ∶ closing around_zero 0 (0 ∷ []) ⇒ hour (done none)) ∷
    (P 9 ∶ closing around_zero 0 (0 ∷ 1 ∷ 1 ∷ []) ⇒ hour (refused 23 2)) ∷
    (P 9 ∶ closing seven 0 [] ⇒ asks (pos 5) (pos 5) (pos 5)) ∷
    (P 9 ∶ closing seven 0 (1 ∷ []) ⇒ finds (pos 5)) ∷
    (P 9 ∶ closing seven 0 (0 ∷ []) ⇒ hour (done none)) ∷
    (P 9 ∶ closing seven 0 (1 ∷ 0 ∷ []) ⇒ hour (refused 23 1)) ∷
    (P 9 ∶ closing widest 0 (1 ∷ 1 ∷ 1 ∷ 1 ∷ 1 ∷ 1 ∷ 1 ∷ 1 ∷ 1 ∷ 1 ∷ 1 ∷ 1 ∷ 1 ∷ []) ⇒ asks (neg 4096) (neg 4095) (neg 4096)) ∷
    (P 9 ∶ closing widest 0 (1 ∷ 1 ∷ 1 ∷ 1 ∷ 1 ∷ 1 ∷ 1 ∷ 1 ∷ 1 ∷ 1 ∷ 1 ∷ 1 ∷ 1 ∷ 1 ∷ []) ⇒ finds (neg 4096)) ∷
    (P 9 ∶ closing widest 0 (1 ∷ 0 ∷ 0 ∷ 0 ∷ 0 ∷ 0 ∷ 0 ∷ 0 ∷ 0 ∷ 0 ∷ 0 ∷ 0 ∷ 0 ∷ []) ⇒ asks (pos 4094) (pos 4095) (pos 4094)) ∷
    (P 9 ∶ closing widest 0 (1 ∷ 0 ∷ 0 ∷ 0 ∷ 0 ∷ 0 ∷ 0 ∷ 0 ∷ 0 ∷ 0 ∷ 0 ∷ 0 ∷ 0 ∷ 0 ∷ []) ⇒ finds (pos 4095)) ∷
    (P 9 ∶ closing seven 1 (2 ∷ []) ⇒ hour (refused 22 1)) ∷
    (P 9 ∶ closing one 0 [] ⇒ hour (refused 22 0)) ∷
    (P 9 ∶ closing seven 0 (1 ∷ 0 ∷ 2 ∷ []) ⇒ hour (refused 12 2)) ∷
    (P 9 ∶ closing version_nine 1 [] ⇒ hour (refused 3 0)) ∷
    []

abbrev pub Holds : Row → Type 0
Holds r = ask r.question ≡ r.document
