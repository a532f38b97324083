-- The search over the rules, piece by piece and in each piece tuple by tuple. Assumes nothing.
use Rattle.std.specs.Prelude.{◌≡◌, refl, Bool, true, false, ℕ, ◌+◌, ◌^◌, ◌≤◌, ◌<◌, length, ℤ, Option, Some, None, Result, Ok, Err}
use Rattle.std.proofs.Common.{sym, ◌∙◌, add-zero, arith, length-append}
use Rattle.std.proofs.Math.Path.{ap}
use mathlib.Core.List.{List, [], ◌∷◌, ◌++◌, map, flatten, map-append, append_assoc}
use Rattle.std.proofs.lemmas.List.{length-map}
use Rattle.definitions.specs.Tools.{All}
use Rattle.definitions.specs.Board.{Board, bounds_of}
use Rattle.definitions.specs.Result.{done, refused, each}
use Rattle.definitions.specs.Encoding.{SatClause, N, axioms, rules, clauses}
use Rattle.laws.specs.Lists.{append-all}
use Rattle.laws.specs.Sizes.{M_is}
use Rattle.laws.specs.Fits.{M_fits}
use Rattle.laws.specs.Boards.{board_of, opens_admitted}
use Rattle.laws.specs.Reread.{Recorded, context_of}
use Rattle.laws.specs.Pieces.{Piece, piece_clauses, clauses_in, rules-pieces}
use Rattle.laws.specs.Mentions as Mentions
use Rattle.rules.specs.declared.Cursor.{Cursor}
use Rattle.rules.specs.Cursors.{at_start, coming_at, Sound}
use Rattle.rules.specs.Known.{Known, starts, all-coming}
use Rattle.walk.specs.declared.Comparison.{Comparison}
use Rattle.walk.specs.declared.Walk.{Walk}
use Rattle.walk.specs.Comparisons.{Walking, to_come, literals_of, none_left}
use Rattle.walk.specs.Rows.{row_clauses, After, row_some}
use Rattle.decode.specs.Truth.{true_tail, true_clause, tests}
use Rattle.decode.specs.Goes.{Sought, sought-all, Goes, goes_start, goes_end, goes_part, goes_fails}
use Rattle.decode.specs.Sums.{Shown}
use Rattle.decode.specs.Tails.{clause_test, lead_of, passed_by, walked_by, passed_most, Tails, tails_tests, tails_numbered}

-- the tests of the clauses of the pieces at the cursor, and of all the rules' clauses
abbrev tests_at : Board → List ℕ → List ℕ → Cursor → List Bool
tests_at B model t c = tests B model (clauses_in (bounds_of B) (coming_at t c))

abbrev pub rule_tests : Board → List ℕ → List Bool
rule_tests B model = tests B model (flatten (rules B))

module _ (B : Board) (model t : List ℕ) where
  -- the clauses before number n hold, and the pieces at the cursor are left
  pub record Passing (i n : ℕ) (c : Cursor) : Type 0 where
    pub goes : Goes i (rule_tests B model) n (tests_at B model t c)
    pub sound : All (Mentions.Sound B) (coming_at t c)
    pub readable : Sound (context_of B) t c

  -- in a piece that is not shown to hold, and whose lead does not, the tuples at `at` are left, and then the pieces at the cursor
  pub record Walks (i n : ℕ) (q : Comparison) (at : Option Walk) (c : Cursor) : Type 0 where
    pub goes : Goes i (rule_tests B model) n (map (true_tail model) (to_come q at) ++ tests_at B model t c)
    pub walking : Walking q at
    pub numbered : All (All (Mentions.InList (length model))) (to_come q at)

module _ {B : Board} {model t : List ℕ} {i n : ℕ} {c : Cursor} (h : Passing B model t i n c) where
  pub passing-end : coming_at t c ≡ [] → done tt ≡ each 13 i (rule_tests B model)
  unfolding flatten
  passing-end e = (goes_end h.goes (rw e)).0

  -- a piece comes next
  module _ {p : Piece} (c' : Cursor) (e : coming_at t c ≡ p ∷ coming_at t c') where
    pub sound_next : Mentions.Sound B p × All (Mentions.Sound B) (coming_at t c')
    sound_next = let s = rw e at h.sound in (s.0, s.1)

    -- its clauses, and then those of the pieces behind it
    abbrev own : List SatClause
    own = piece_clauses (bounds_of B) p

    begins_with : tests_at B model t c ≡ tests B model own ++ tests_at B model t c'
    unfolding flatten
    begins_with = ap (λ ps. tests B model (clauses_in (bounds_of B) ps)) e ∙ map-append (true_clause B model) own (clauses_in (bounds_of B) (coming_at t c'))

    module _ (r : Bool) (q : Comparison) (f : Shown B model p r) (d : Tails B p q) where
      how_many_lem : length own ≡ length (literals_of q)
      how_many_lem =
          sym (length-map own (true_clause B model)) ∙ ap length (tails_tests B model p q d sound_next.0) ∙ length-map (literals_of q) (clause_test model (true_clause B model (lead_of p)))

      pub passed_room : n + passed_by r q ≤ i + length (rule_tests B model)
      passed_room =
          omega (arith, passed_most r q, how_many_lem, h.goes.count, ap length begins_with, length-append (tests B model own) (tests_at B model t c'), length-map own (true_clause B model))

    -- where it is shown to hold, none of its clauses is walked
    pub walks_start : (r : Bool) (q : Comparison) (m : ℕ) (at : Option Walk) → length model ≡ N B → Shown B model p r → Tails B p q
        → m ≡ passed_by r q → Walking q at × (to_come q at ≡ walked_by r q) → Walks B model t i (n + m) q at c'
    walks_start true q m at l f d k w =
        let g = goes_part h.goes (tests B model own) (tests_at B model t c') begins_with (Ok (n + length own)) (sought-all (true_clause B model) n own (f.held refl)) refl in
        record { goes = rw (k, w.1, ← how_many_lem true q f d) g; walking = w.0; numbered = rw w.1 tt }
    walks_start false q m at l f d k w =
        let tails = tails_tests B model p q d sound_next.0 ∙ ap (λ b. map (clause_test model b) (literals_of q)) (f.left refl) in record {
          goes = rw (k, add-zero n, w.1) (rw (begins_with, tails) at h.goes);
          walking = w.0;
          numbered = rw w.1 (tails_numbered B model p q d sound_next.0 l);
        }

module _ {B : Board} {model t : List ℕ} {i n : ℕ} {q : Comparison} {at : Option Walk} {c : Cursor} (h : Walks B model t i n q at c) where
  pub walks_end : at ≡ None → All (Mentions.Sound B) (coming_at t c) → Sound (context_of B) t c → Passing B model t i n c
  walks_end e a s = record { goes = rw (e, none_left q) at h.goes; sound = a; readable = s }

  module _ {w : Walk} (e : at ≡ Some w) where
    pub walks_at : Walking q (Some w)
    walks_at = rw e at h.walking

    -- the clauses of the present row
    abbrev row : List (List ℤ)
    row = row_clauses q w

    module _ (r : Option Walk) (o : After q w r) where
      onward : Walking q r × (to_come q at ≡ row ++ to_come q r)
      onward = rw e o

      split : map (true_tail model) (to_come q at) ++ tests_at B model t c ≡ map (true_tail model) row ++ (map (true_tail model) (to_come q r) ++ tests_at B model t c)
      split =
          ap (λ l. map (true_tail model) l ++ tests_at B model t c) onward.1
          ∙ ap (λ l. l ++ tests_at B model t c) (map-append (true_tail model) row (to_come q r))
          ∙ append_assoc (map (true_tail model) row) (map (true_tail model) (to_come q r)) (tests_at B model t c)

      numbered_both : All (All (Mentions.InList (length model))) row × All (All (Mentions.InList (length model))) (to_come q r)
      numbered_both = append-all (All (Mentions.InList (length model))) row (to_come q r) (rw onward.1 at h.numbered)

      pub walks_numbered : All (All (Mentions.InList (length model))) row
      walks_numbered = numbered_both.0

      pub walks_less : length (to_come q r) < length (to_come q at)
      walks_less = omega (arith, ap length onward.1, length-append row (to_come q r), row_some q w)

      -- its last number is one of the rules' clauses
      pub walks_room : n + length row ≤ i + length (rule_tests B model)
      walks_room =
          omega (arith, h.goes.count, ap length split, length-append (map (true_tail model) row) (map (true_tail model) (to_come q r) ++ tests_at B model t c), length-map row (true_tail model))

      -- what was found in the row
      module _ {a : Result ℕ ℕ} (s : Sought n (map (true_tail model) row) a) where
        pub walks_next : {k : ℕ} → a ≡ Ok k → Walks B model t i k q r c
        walks_next f = record { goes = goes_part h.goes _ _ split a s f; walking = onward.0; numbered = numbered_both.1 }

        pub walks_stop : {k : ℕ} → a ≡ Err k → refused 13 k ≡ each 13 i (rule_tests B model)
        walks_stop f = goes_fails h.goes (map (true_tail model) row) (map (true_tail model) (to_come q r) ++ tests_at B model t c) split a s f

-- where the pass begins
pub passing-start : {s t : List ℕ} (k : Known s t) {n : ℕ} → n ≡ length (board_of s).clauses → (model : List ℕ) (i : ℕ) → Passing (board_of s) model t i i (at_start n)
unfolding rules
passing-start {s} k e model i = record {
  goes = rw (all-coming k e, rules-pieces (bounds_of (board_of s)) 0 (board_of s).clauses) (goes_start i _);
  sound = rw (all-coming k e) (Mentions.pieces_sound (board_of s) (opens_admitted s k.opens));
  readable = starts k e;
}

-- ---- the axioms, and then the rules
module _ (B : Board) (model : List ℕ) where
  pub clauses_split : tests B model (clauses B) ≡ tests B model (flatten (axioms B)) ++ rule_tests B model
  unfolding clauses
  clauses_split = map-append (true_clause B model) (flatten (axioms B)) (flatten (rules B))

  pub clauses_fit : Recorded B → length (tests B model (clauses B)) < 2 ^ 63
  clauses_fit g = omega (arith, length-map (clauses B) (true_clause B model), M_is B, M_fits B g)
