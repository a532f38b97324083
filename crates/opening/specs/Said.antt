-- The answers as the definitions have them.
use Rattle.std.specs.Prelude as code
use Rattle.definitions.specs.Tools.{length}
use Rattle.definitions.specs.Board.{Board}
use Rattle.definitions.specs.Result.{Result, done, refused}
use Rattle.definitions.specs.Reading.{Context}
use Rattle.definitions.specs.declared.Refusal.{Refusal}
use Rattle.definitions.specs.Answers.{answered}
use Rattle.laws.specs.Reread.{the_version, table_start, table_end}
use Rattle.reader.specs.declared.Fault.{Fault}
use Rattle.reader.specs.Said.{read_as}
use Rattle.opening.specs.declared.Header.{Header}

abbrev pub map_done : {A B : Type 0} → (A → B) → Result A → Result B
map_done f (done a) = done (f a)
map_done f (refused n d) = refused n d

abbrev pub said_header : code.Result Header Fault → Result Header
said_header r = read_as (λ header. header) r

-- the version and the counts of a board, and where its variable table and its clauses begin
abbrev pub header_of : Board → Header
header_of B = record {
  version = the_version;
  ints = length B.bounds;
  bools = B.bools;
  clauses = length B.clauses;
  table = table_start;
  rules = table_end B;
}

-- what the readers of clauses have to know
abbrev pub context_in : Header → Context
context_in h = record { version = h.version; ints = h.ints; bools = h.bools }

abbrev pub said_opening : code.Result Header Refusal → Result Header
said_opening r = answered (λ header. header) r
