-- The answers as the definitions have them.
use Rattle.std.specs.Prelude as code
use Rattle.std.specs.Prelude.{map, length}
use Rattle.definitions.specs.Tools.{sum}
use Rattle.definitions.specs.Board.{Board}
use Rattle.definitions.specs.Encoding.{width, selected, axioms, rules, places, N, M, K}
use Rattle.definitions.specs.Result.{Result}
use Rattle.definitions.specs.declared.Refusal.{Refusal}
use Rattle.definitions.specs.declared.Sizes.{Sizes}
use Rattle.definitions.specs.Answers.{answered}
use Rattle.opening.specs.Said.{header_of}
use Rattle.measure.specs.declared.Kinds.{Kinds}
use Rattle.measure.specs.declared.Measured.{Measured}

-- the summands of N, M and K
abbrev pub kinds_of : Board → Kinds
kinds_of B = record {
  booleans = B.bools;
  orders = sum (map width B.bounds);
  selectors = sum (map (λ C. length (selected C)) B.clauses);
  axioms = record { clauses = sum (map length (axioms B)); places = sum (map places (axioms B)) };
  rules = record { clauses = sum (map length (rules B)); places = sum (map places (rules B)) };
}

abbrev pub totals_of : Board → Sizes
totals_of B = record { n = N B; m = M B; k = K B }

abbrev pub measured_of : Board → Measured
measured_of B = record { header = header_of B; sizes = totals_of B }

abbrev pub said_measured : code.Result Measured Refusal → Result Measured
said_measured r = answered (λ measured. measured) r
