-- Text and replies read byte by byte (02, P2): 18 at a byte that no good text has there, or at the number that goes beyond N.
use Rattle.std.specs.Prelude.{◌+◌, ◌*◌, ◌-◌, ◌&&◌, ◌||◌, ◌∷◌, ◌++◌, if◌then◌else◌}
use Rattle.definitions.specs.Tools.{ℕ, suc, Bool, true, false, not, List, [], length, leb, ltb, eqb, ℤ, pos, neg}
use Rattle.definitions.specs.Result.{Result, ◌>>=◌, ◌>>◌, need, done, refused}
use Rattle.definitions.specs.Dimacs.{ascii}
use Rattle.definitions.specs.Texts.{blank, zeros, most}

-- ---- a number that is being read
abbrev pub digit : ℕ → Bool
digit b = leb 48 b && leb b 57

-- where it began, whether with a minus, and what its digits say so far: 0 also where there is none
pub record Number : Type 0 where
  pub start : ℕ
  pub minus : Bool
  pub size : ℕ

abbrev pub number_read : Number → ℤ
number_read p = if p.minus then neg p.size else pos p.size

-- it may end here: a minus alone is no number
abbrev pub whole : Number → Bool
whole p = ltb 0 p.size || not p.minus

-- its first byte: with N = 0 a minus begins no number
abbrev pub begun : ℕ → ℕ → ℕ → Result Number
begun N at b =
    if eqb b 45 then need 18 at (leb 1 N) >> done (record { start = at; minus = true; size = 0 })
    else need 18 at (digit b && leb (b - 48) N) >> done (record { start = at; minus = false; size = b - 48 })

-- a further digit: none after a 0, no 0 after the minus; beyond N the place is the number's
abbrev pub further : Number → ℕ → Bool
further p b = digit b && (ltb 0 p.size || (p.minus && ltb 48 b))

abbrev pub longer : Number → ℕ → Number
longer p b = record { start = p.start; minus = p.minus; size = 10 * p.size + (b - 48) }

abbrev pub grown : ℕ → Number → ℕ → ℕ → Result Number
grown N p at b = need 18 at (further p b) >> (need 18 p.start (leb (longer p b).size N) >> done (longer p b))

-- ---- what is being read
-- a count of the first line: N, or M with N read
pub data Count : Type 0 where
  count_N : Count
  count_M : ℕ → Count

-- text with this N and M, or a reply for this N
pub data Kind : Type 0 where
  text : ℕ → ℕ → Kind
  reply : ℕ → Kind

-- what a reply says: the literals, or that there is no model
pub data Reply : Type 0 where
  model : List ℤ → Reply
  unsatisfiable : Reply

-- what comes next; a list is of the numbers read before
pub data State : Type 0 where
  word : ℕ → List ℕ → State → State  -- these bytes, one or more
  count : Count → State  -- a count's first digit
  count_on : Count → ℕ → State  -- a further one, or what stands after the count
  verdict : ℕ → State  -- `UNSATISFIABLE` or `SATISFIABLE`
  at_number : Kind → List ℤ → State  -- a number's first byte
  in_number : Kind → List ℤ → Number → State  -- a further one, or what stands after the number
  over : Reply → State  -- nothing

-- these bytes, and then what follows them
abbrev pub awaits : List ℕ → State → State
awaits [] s = s
awaits (c ∷ cs) s = word c cs s

-- what stands after a count: one space, or a newline
abbrev pub counted : Count → ℕ → ℕ → ℕ → Result State
counted count_N v at b = need 18 at (eqb b 32) >> done (count (count_M v))
counted (count_M N) v at b = need 18 at (eqb b 10) >> done (at_number (text N v) [])

-- a number begins: of text before clause M ends, after spaces and newlines
abbrev pub starts : Kind → List ℤ → ℕ → ℕ → Result State
starts (text N M) ns at b =
    if blank b then done (at_number (text N M) ns)
    else need 18 at (ltb (zeros ns) M) >> (begun N at b >>= λ p. done (in_number (text N M) ns p))
starts (reply N) ns at b = begun N at b >>= λ p. done (in_number (reply N) ns p)

-- a number has ended with a space or a newline: a reply's 0 with a newline, after which nothing comes
abbrev pub stops : Kind → List ℤ → Number → ℕ → ℕ → Result State
stops (text N M) ns p at b = done (at_number (text N M) (ns ++ (number_read p ∷ [])))
stops (reply N) ns p at b =
    if eqb p.size 0 then need 18 at (eqb b 10) >> done (over (model ns))
    else done (awaits (if eqb b 10 then ascii "v " else []) (at_number (reply N) (ns ++ (number_read p ∷ []))))

abbrev pub beyond : Kind → ℕ
beyond (text N M) = N
beyond (reply N) = N

-- a byte more, at its place
abbrev pub step : State → ℕ → ℕ → Result State
step (word c cs s) at b = need 18 at (eqb b c) >> done (awaits cs s)
step (count c) at b = need 18 at (digit b) >> done (count_on c (b - 48))
step (count_on c v) at b =
    if ltb 0 v && digit b then need 18 at (leb (10 * v + (b - 48)) most) >> done (count_on c (10 * v + (b - 48)))
    else counted c v at b
step (verdict N) at b =
    if eqb b 85 then done (awaits (ascii "NSATISFIABLE\n") (over unsatisfiable))
    else need 18 at (eqb b 83) >> done (awaits (ascii "ATISFIABLE\nv ") (at_number (reply N) []))
step (at_number k ns) at b = starts k ns at b
step (in_number k ns p) at b =
    if blank b then need 18 at (whole p) >> stops k ns p at b
    else grown (beyond k) p at b >>= λ q. done (in_number k ns q)
step (over r) at b = refused 18 at

abbrev pub fed : State → ℕ → List ℕ → Result State
fed s at [] = done s
fed s at (b ∷ t) = step s at b >>= λ s'. fed s' (suc at) t

-- ---- the end, at the length
pub record Read : Type 0 where
  pub n : ℕ
  pub m : ℕ
  pub list : List ℤ

abbrev pub end_text : ℕ → State → Result Read
end_text at (at_number (text N M) ns) = need 18 at (eqb (zeros ns) M) >> done (record { n = N; m = M; list = ns })
end_text at (in_number (text N M) ns p) =
    let all = ns ++ (number_read p ∷ []) in
    need 18 at (whole p && eqb (zeros all) M) >> done (record { n = N; m = M; list = all })
end_text at (at_number (reply N) ns) = refused 18 at
end_text at (in_number (reply N) ns p) = refused 18 at
end_text at (word c cs s) = refused 18 at
end_text at (count c) = refused 18 at
end_text at (count_on c v) = refused 18 at
end_text at (verdict N) = refused 18 at
end_text at (over r) = refused 18 at

abbrev pub end_reply : ℕ → State → Result Reply
end_reply at (over r) = done r
end_reply at (word c cs s) = refused 18 at
end_reply at (count c) = refused 18 at
end_reply at (count_on c v) = refused 18 at
end_reply at (verdict N) = refused 18 at
end_reply at (at_number k ns) = refused 18 at
end_reply at (in_number k ns p) = refused 18 at

unfoldable pub read_text : List ℕ → Result Read
read_text t = fed (awaits (ascii "p cnf ") (count count_N)) 0 t >>= end_text (length t)

unfoldable pub read_reply : ℕ → List ℕ → Result Reply
read_reply N t = fed (awaits (ascii "s ") (verdict N)) 0 t >>= end_reply (length t)
