-- What the header of an accepted record says of its board. Assumes nothing.
use Rattle.std.specs.Prelude.{◌≡◌, List, ℕ, ◌≤◌, length, drop}
use Rattle.std.proofs.Common.{ap, ◌∙◌, arith}
use Rattle.laws.specs.Admitted.{Admitted}
use Rattle.laws.specs.Boards.{board_of, Opens, opens_board, opens_admitted, opens_recorded}
use Rattle.laws.specs.Reread.{Recorded, context_of, table_start, table_end}
use Rattle.laws.specs.Written.{rest, rest-drop}
use Rattle.opening.specs.declared.Header.{Header}
use Rattle.opening.specs.Said.{header_of, context_in}

-- the rules of an accepted record
abbrev pub tail_of : List ℕ → List ℕ
tail_of s = drop (table_end (board_of s)) s

pub record Opened (s : List ℕ) (h : Header) : Type 0 where
  pub opens : Opens s
  pub header : h ≡ header_of (board_of s)

module _ {s : List ℕ} {h : Header} (o : Opened s h) where
  pub ints_is : h.ints ≡ length (board_of s).bounds
  ints_is = ap (λ z. z.ints) o.header

  pub bools_is : h.bools ≡ (board_of s).bools
  bools_is = ap (λ z. z.bools) o.header

  pub clauses_is : h.clauses ≡ length (board_of s).clauses
  clauses_is = ap (λ z. z.clauses) o.header

  pub table_is : h.table ≡ table_start
  table_is = ap (λ z. z.table) o.header

  pub rules_is : h.rules ≡ table_end (board_of s)
  rules_is = ap (λ z. z.rules) o.header

  pub context_is : context_in h ≡ context_of (board_of s)
  context_is = ap context_in o.header

  pub recorded : Recorded (board_of s)
  recorded = opens_recorded s o.opens

  pub admitted : Admitted (board_of s)
  admitted = opens_admitted s o.opens

  pub counts_small : (h.ints ≤ 1024) × (h.bools ≤ 4096)
  counts_small = omega (arith, ints_is, bools_is, admitted.ints, admitted.bools)

  -- the rules are the record's tail
  pub rules_inside : h.rules ≤ length s
  rules_inside = omega (arith, rules_is, (opens_board s o.opens).room)

  pub tail_is : rest s h.rules ≡ drop (table_end (board_of s)) s
  tail_is = rest-drop s h.rules ∙ ap (λ n. drop n s) rules_is
