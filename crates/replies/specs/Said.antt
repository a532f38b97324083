-- What the parts of the reader answer, as Parts.antt has it, and where: not before `from`, nor past the text's end.
use Rattle.std.specs.Prelude as code
use Rattle.std.specs.Prelude.{Option, Some, None, Ok, Err, ◌<◌, ◌≤◌, ◌≡◌, max}
use Rattle.definitions.specs.Tools.{ℕ, List, drop, length}
use Rattle.definitions.specs.Result.{Result, done, refused}
use Rattle.definitions.specs.TextReading as reading
use Rattle.definitions.specs.TextReading.{number_read, Reply}
use Rattle.definitions.specs.Operations.{Sizes}
use Rattle.definitions.specs.declared.Got.{Got}
use Rattle.laws.specs.Stepping.{num}
use Rattle.replies.specs.Parts.{Found, ends, holds, sizes, reply_from, lines, Taken, last, more, Summary, without, literals}
use Rattle.replies.specs.declared.Bad.{Bad}
use Rattle.replies.specs.declared.Number.{Number}
use Rattle.replies.specs.declared.Next.{Next}
use Rattle.replies.specs.declared.Head.{Head}
use Rattle.replies.specs.declared.Literal.{Literal}
use Rattle.replies.specs.declared.Listed.{Listed}
use Rattle.replies.specs.declared.Heard.{Heard}

-- an answer, by what it means, or that the text is bad there
abbrev pub said : {A B : Type 0} → (A → B) → code.Result A Bad → Result B
said meaning (Ok a) = done (meaning a)
said meaning (Err bad) = refused 18 bad.place

-- ---- where: from a place on, or further, within the text if the place is
abbrev pub Onward : ℕ → List ℕ → ℕ → Type 0
Onward from t next = (from ≤ next) × (next ≤ max from (length t))

abbrev pub Past : ℕ → List ℕ → ℕ → Type 0
Past from t next = (from < next) × (next ≤ length t)

-- ---- what: each part's value, and what follows it
abbrev pub said_word : List ℕ → code.Result ℕ Bad → Result (ℕ × List ℕ)
said_word t r = said (λ next. (next, drop next t)) r

abbrev pub said_count : List ℕ → code.Result (Got ℕ) Bad → Result (ℕ × ℕ × List ℕ)
said_count t r = said (λ got. (got.value, got.next, drop got.next t)) r

abbrev pub number_said : Number → reading.Number
number_said p = num p.start p.minus p.size

abbrev pub said_grown : code.Result Number Bad → Result reading.Number
said_grown r = said number_said r

abbrev pub said_numeral : List ℕ → code.Result (Got Number) Bad → Result (reading.Number × ℕ × List ℕ)
said_numeral t r = said (λ got. (number_said got.value, got.next, drop got.next t)) r

abbrev pub next_said : List ℕ → Next → Found
next_said t (Next.End at) = ends at
next_said t (Next.Number got) = holds (number_said got.value) got.next (drop got.next t)

abbrev pub said_next : List ℕ → code.Result Next Bad → Result Found
said_next t r = said (next_said t) r

abbrev pub NextIn : ℕ → List ℕ → Next → Type 0
NextIn from t (Next.End at) = at ≡ max from (length t)
NextIn from t (Next.Number got) = Past from t got.next

abbrev pub said_head : List ℕ → code.Result Head Bad → Result (ℕ × ℕ × ℕ × List ℕ)
said_head t r = said (λ head. (head.n, head.m, head.next, drop head.next t)) r

abbrev pub said_counted : Head → code.Result ℕ Bad → Result Sizes
said_counted head r = said (sizes head.n head.m) r

abbrev pub value_said : List ℕ → Option Literal → Taken
value_said t (Some literal) = more (number_read (number_said literal.number)) literal.line literal.next (drop literal.next t)
value_said t None = last

abbrev pub said_value : List ℕ → code.Result (Option Literal) Bad → Result Taken
said_value t r = said (value_said t) r

abbrev pub ValueIn : ℕ → List ℕ → Option Literal → Type 0
ValueIn from t (Some literal) = Past from t literal.next
ValueIn from t None = Unit {0}

abbrev pub listed_said : Listed → Summary
listed_said listed = literals listed.count listed.rising

abbrev pub said_listed : code.Result Listed Bad → Result Summary
said_listed r = said listed_said r

abbrev pub said_nothing : code.Result (Unit {0}) Bad → Result Summary
said_nothing r = said (λ u. without) r

abbrev pub model_said : Heard → Summary
model_said heard = listed_said heard.listed

abbrev pub said_model : code.Result Heard Bad → Result Summary
said_model r = said model_said r

-- the lines of a model begin there
abbrev pub ModelIn : ℕ → List ℕ → Result Reply → Heard → Type 0
ModelIn N t m heard = (heard.from ≤ length t) × (m ≡ reply_from (lines N) heard.from (drop heard.from t))

abbrev pub heard_said : Option Heard → Summary
heard_said (Some heard) = model_said heard
heard_said None = without

abbrev pub said_heard : code.Result (Option Heard) Bad → Result Summary
said_heard r = said heard_said r

abbrev pub HeardIn : ℕ → List ℕ → Result Reply → Option Heard → Type 0
HeardIn N t m (Some heard) = ModelIn N t m heard
HeardIn N t m None = Unit {0}
