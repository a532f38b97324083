-- The reader's answers as the definitions have them.
use Rattle.std.specs.Prelude as code
use Rattle.std.specs.Prelude.{◌≡◌, Ok, Err}
use Rattle.definitions.specs.Tools.{ℕ, List}
use Rattle.definitions.specs.Board.{Literal, is_true, is_false, at_most}
use Rattle.definitions.specs.Result.{Result, done, refused}
use Rattle.definitions.specs.Reading.{Got, Context}
use Rattle.reader.specs.declared.Why.{Why}
use Rattle.reader.specs.declared.Fault.{Fault}
use Rattle.definitions.specs.declared.Got as found
use Rattle.fields.specs.Said.{got}
use Rattle.reader.specs.declared.Context as known
use Rattle.reader.specs.declared.Literal as literal
use Rattle.laws.specs.Reread.{comparison_at}

abbrev pub context_of : known.Context → Context
context_of k = record { version = k.version; ints = k.ints; bools = k.bools }

-- 01's and 02's number
abbrev pub number : Why → ℕ
number Why.Count = 4
number Why.Bound = 5
number Why.Literal = 6
number Why.Coefficient = 7
number Why.End = 8
number Why.Unknown = 15
number Why.Repeated = 16
number Why.Constant = 17

abbrev pub fault : {A : Type 0} → Fault → Result A
fault f = refused (number f.why) f.place

-- what was read, by what it means, or the fault
abbrev pub read_as : {A B : Type 0} → (A → B) → code.Result A Fault → Result B
read_as meaning (Ok a) = done (meaning a)
read_as meaning (Err f) = fault f

abbrev pub said_got : {A : Type 0} → code.Result (found.Got A) Fault → Result (Got A)
said_got r = read_as got r

abbrev pub said_step : code.Result ℕ Fault → Result ℕ
said_step r = read_as (λ place. place) r

-- rules: the bytes in which a comparison's place stands
abbrev pub literal_of : List ℕ → literal.Literal → Literal
literal_of rules (literal.Literal.Boolean b) = is_true b
literal_of rules (literal.Literal.Negated b) = is_false b
literal_of rules (literal.Literal.Comparison place constant) = at_most (comparison_at rules place constant)

abbrev pub said_literal : List ℕ → code.Result (found.Got literal.Literal) Fault → Result (Got Literal)
said_literal rules r = read_as (λ g. record { value = literal_of rules g.value; next = g.next }) r

-- a comparison's place is that of its term count
abbrev pub Begins : ℕ → literal.Literal → Type 0
Begins at (literal.Literal.Comparison place constant) = place ≡ at
Begins at (literal.Literal.Boolean b) = Unit {0}
Begins at (literal.Literal.Negated b) = Unit {0}

abbrev pub Placed : ℕ → code.Result (found.Got literal.Literal) Fault → Type 0
Placed at (Ok g) = Begins at g.value
Placed at (Err f) = Unit {0}
