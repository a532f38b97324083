-- What a pass through the rules is given: an accepted record and its tail. Where the pass starts. Assumes nothing.
use Rattle.std.specs.Prelude.{◌≡◌, refl, List, ℕ, length, drop}
use Rattle.std.proofs.Common.{sym, ap, ◌∙◌, arith}
use Rattle.definitions.specs.Result.{done}
use Rattle.definitions.specs.Reading.{times, read_clause}
use Rattle.laws.specs.Boards.{Opens, board_of, opens_board, opens_admitted}
use Rattle.laws.specs.Reread.{context_of, table_end}
use Rattle.laws.specs.Pieces.{pieces_from}
use Rattle.laws.specs.Again.{clauses_at, clauses_are}
use Rattle.laws.specs.Ahead.{coming-start}
use Rattle.rules.specs.Cursors.{Sound, at_start, coming_at}

pub record Known (s rules : List ℕ) : Type 0 where
  pub opens : Opens s
  pub tail : rules ≡ drop (table_end (board_of s)) s

pub start-coming : (t : List ℕ) (n : ℕ) → coming_at t (at_start n) ≡ pieces_from 0 (clauses_at t n 0).value
unfolding coming_at
start-coming t n = coming-start t n

module _ {s rules : List ℕ} (k : Known s rules) {n : ℕ} (e : n ≡ length (board_of s).clauses) where
  read : times n (read_clause (context_of (board_of s))) rules 0 ≡ done (record { value = (board_of s).clauses; next = length rules })
  read = rw (e, k.tail) (opens_board s k.opens).clauses

  pub clauses_known : (clauses_at rules n 0).value ≡ (board_of s).clauses
  clauses_known = sym (ap (λ g. g.value) (clauses_are (context_of (board_of s)) rules n 0 _ read))

  pub starts : Sound (context_of (board_of s)) rules (at_start n)
  starts = record {
    readable = record { literals = refl; clauses = read ∙ ap done (clauses_are (context_of (board_of s)) rules n 0 _ read) };
    few = omega (arith, (opens_admitted s k.opens).rules);
    short = omega arith;
  }

  pub all-coming : coming_at rules (at_start n) ≡ pieces_from 0 (board_of s).clauses
  all-coming = start-coming rules n ∙ ap (pieces_from 0) clauses_known
