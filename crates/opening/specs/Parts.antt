-- What follows the stated length, in the parts that the code has; Opened.antt puts them together again.
use Rattle.definitions.specs.Tools.{ℕ, List, length, eqb}
use Rattle.definitions.specs.Result.{Result, need, done}
use Rattle.definitions.specs.Result as result
use Rattle.definitions.specs.Reading.{Reader, ◌>>=◌, give, times, count, read_bounds, read_clause}
use Rattle.reader.specs.Parts.{past}
use Rattle.opening.specs.declared.Counts.{Counts}
use Rattle.opening.specs.declared.Header.{Header}
use Rattle.opening.specs.Said.{context_in}

unfoldable pub read_counts : Reader Counts
read_counts = do
  v ← count 0 1024 2
  m ← count 0 4096 2
  c ← count 0 4096 2
  give (record { ints = v; bools = m; clauses = c })

-- where the clauses end, and nothing after them
unfoldable pub rules_from : Header → List ℕ → Result ℕ
rules_from h s =
    result.◌>>=◌ (past (times h.clauses (read_clause (context_in h)) s h.rules)) λ end.
    result.◌>>=◌ (need 8 end (eqb end (length s))) λ _.
    done end

abbrev pub headed : ℕ → Counts → ℕ → ℕ → Header
headed version z table rules =
    record { version = version; ints = z.ints; bools = z.bools; clauses = z.clauses; table = table; rules = rules }

-- the counts, the variable table, the clauses
unfoldable pub header_from : ℕ → List ℕ → ℕ → Result Header
header_from version s at =
    result.◌>>=◌ (read_counts s at) λ g.
    result.◌>>=◌ (past (times g.value.ints read_bounds s g.next)) λ rules.
    result.◌>>=◌ (rules_from (headed version g.value g.next rules) s) λ _.
    done (headed version g.value g.next rules)
