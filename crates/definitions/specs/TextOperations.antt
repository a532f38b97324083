-- The writer, the reader of text and the reader of a reply: what they answer and leave (02, P2).
use Rattle.std.specs.Prelude.{◌∷◌, ◌++◌, if◌then◌else◌}
use Rattle.definitions.specs.Tools.{ℕ, suc, Bool, true, false, List, [], map, length, drop, leb, eqb, ℤ, pos, nat_abs, any, count_up, eq_z}
use Rattle.definitions.specs.Board.{Board}
use Rattle.definitions.specs.Result.{Result, ◌>>=◌, ◌>>◌, need, each, done}
use Rattle.definitions.specs.Encoding.{clause_list}
use Rattle.definitions.specs.Operations.{accepted, Outcome, lending, long, Sizes, sizes_of}
use Rattle.definitions.specs.Dimacs.{shown}
use Rattle.definitions.specs.TextReading.{Reply, model, unsatisfiable, read_text, read_reply}

-- an accepted record's text, as the program prints it
unfoldable pub text_of : Board → List ℕ
text_of B = shown (done (sizes_of B)) (clause_list B)

-- the answer is the text's length
unfoldable pub write_text_outcome : List ℕ → List ℕ → Outcome ℕ (List ℕ)
write_text_outcome s lent = lending lent do
  B ← accepted s
  need 10 (length (text_of B)) (leb (length (text_of B)) (length lent))
  done (length (text_of B), text_of B ++ drop (length (text_of B)) lent)

unfoldable pub read_text_outcome : List ℕ → List ℤ → Outcome Sizes (List ℤ)
read_text_outcome t lent = lending lent do
  r ← read_text t
  need 10 (length r.list) (leb (length r.list) (length lent))
  done (record { n = r.n; m = r.m; k = length r.list }, r.list ++ drop (length r.list) lent)

-- how often a variable stands in literals, with either sign
abbrev pub often : ℕ → List ℤ → ℕ
often v [] = 0
often v (n ∷ ns) = if eqb (nat_abs n) v then suc (often v ns) else often v ns

-- byte v - 1 is of variable v
abbrev pub model_of : ℕ → List ℤ → List ℕ
model_of N ns = map (λ v. if any (eq_z (pos v)) ns then 1 else 0) (count_up 1 N)

-- true: a model; false: 'none', without 19 or 11
abbrev pub taken : ℕ → List ℕ → Reply → Result (Bool × List ℕ)
taken N lent unsatisfiable = done (false, lent)
taken N lent (model ns) = do
  each 19 1 (map (λ v. eqb (often v ns) 1) (count_up 1 N))
  long N lent
  done (true, model_of N ns)

unfoldable pub read_reply_outcome : ℕ → List ℕ → List ℕ → Outcome Bool (List ℕ)
read_reply_outcome N t lent = lending lent (read_reply N t >>= taken N lent)
