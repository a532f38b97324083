-- The clauses of a piece of the rules: its lead, and the literals of a tuple behind it. Assumes nothing.
use Rattle.std.specs.Prelude.{◌≡◌, refl, Bool, true, false, not, ◌||◌, ℕ, ◌≤◌, length, ℤ, pos, negsuc, ◌≤ℤ◌, ◌<ℤ◌, if◌then◌else◌}
use Rattle.std.proofs.Math.Path.{sym, ap}
use Rattle.std.proofs.Common.{◌∙◌, arith}
use Rattle.std.proofs.Math.Bool.{or-false}
use mathlib.Core.List.{List, [], ◌∷◌, ◌++◌, map, zip_with, append-nil, map-map}
use Rattle.definitions.specs.Tools.{All}
use Rattle.definitions.specs.Board.{Board, bounds_of}
use Rattle.definitions.specs.Board as board
use Rattle.definitions.specs.Encoding.{SatClause, minus, selector, least, tuples, tuples_of, sharp, clauses_under, number, N, literal_number}
use Rattle.definitions.specs.Meaning.{on, satisfies, in_model}
use Rattle.laws.specs.Whole.{whole, le_test, gt_test}
use Rattle.laws.specs.Some.{any_append}
use Rattle.laws.specs.Lists.{all_impl, all_map, map-all, append-all, map_same}
use Rattle.laws.specs.Pieces.{Piece, line, under, piece_clauses, line_from}
use Rattle.laws.specs.Layout.{number-range}
use Rattle.laws.specs.Mentions.{atom_of, Mentions, InList, Sound, piece_mentions, literal_size}
use Rattle.walk.specs.declared.Comparison.{Comparison}
use Rattle.walk.specs.Comparisons.{FairComparison, least_of, over_least, over_sign, literals_of, shows_least, shows_literals}
use Rattle.slots.specs.Ready.{ReadyFor}
use Rattle.decode.specs.Truth.{selector_number, true_tail, true_clause, Numbered, clause_true}

-- one tuple, without literals
pub record Single (c : Comparison) : Type 0 where
  pub fair : FairComparison c
  pub reached : pos 0 ≤ℤ over_least c
  pub one : literals_of c ≡ [] ∷ []

pub single_is : (c : Comparison) → c.n ≡ 0 → c.constant ≡ negsuc 0 → Single c
unfolding literals_of tuples zip_with over_least least_of
single_is c e k = record {
  fair = record { few = omega arith; counted = rw e; slots = rw e tt; near = rw k (omega arith) };
  reached = rw (e, k) (omega whole);
  one = rw (e, k) refl;
}

-- a clause holds where its lead does or some literal of its tuple
abbrev pub clause_test : List ℕ → Bool → List ℤ → Bool
clause_test model lead zs = lead || true_tail model zs

-- what leads each clause of a piece: a line is a lead with nothing behind it
abbrev pub lead_of : Piece → SatClause
lead_of (line j C) = line_from j C
lead_of (under lead q) = lead

-- of a piece's clauses, which may be known to hold: how many need no look, and those that are left to walk
abbrev pub passed_by : Bool → Comparison → ℕ
passed_by held q = if held then length (literals_of q) else 0

pub passed_most : (held : Bool) (q : Comparison) → passed_by held q ≤ length (literals_of q)
passed_most true q = omega arith
passed_most false q = omega arith

abbrev pub walked_by : Bool → Comparison → List (List ℤ)
walked_by held q = if held then [] else literals_of q

-- what stands behind the lead are the literals of the tuples of c
pub record Tails (B : Board) (p : Piece) (c : Comparison) : Type 0 where
  pub fair : FairComparison c
  pub reached : pos 0 ≤ℤ over_least c
  pub tails : List SatClause
  pub clauses : piece_clauses (bounds_of B) p ≡ map (λ t. lead_of p ++ t) tails
  pub literals : literals_of c ≡ map (map (literal_number B)) tails

module _ (B : Board) where
  pub line_tails : (j : ℕ) (C : board.Clause) (c : Comparison) → Single c → Tails B (line j C) c
  unfolding piece_clauses
  line_tails j C c s = record { fair = s.fair; reached = s.reached; tails = [] ∷ []; clauses = ap (λ z. z ∷ []) (sym (append-nil (line_from j C))); literals = s.one }

  module _ (lead : SatClause) (q : board.Comparison) (c : Comparison) where
    pub below_tails : q.constant <ℤ least (bounds_of B) q.terms → Single c → Tails B (under lead q) c
    unfolding piece_clauses clauses_under
    below_tails e s = record { fair = s.fair; reached = s.reached; tails = [] ∷ []; clauses = rw (gt_test _ _ e) (ap (λ z. z ∷ []) (sym (append-nil lead))); literals = s.one }

    pub above_tails : least (bounds_of B) q.terms ≤ℤ q.constant → ReadyFor B q c → Tails B (under lead q) c
    unfolding piece_clauses clauses_under
    above_tails e r =
        let bss = tuples_of (bounds_of B) q in
        let ts = zip_with sharp q.terms in record {
          fair = r.fair;
          reached = over_sign c (rw (shows_least B q c r.shows, r.shows.constant) e);
          tails = map ts bss;
          clauses = rw (le_test _ _ e) (sym (map-map (λ t. lead ++ t) ts bss));
          literals = shows_literals B q c r.shows ∙ sym (map-map (map (literal_number B)) ts bss);
        }

-- the same for a comparison under any lead
abbrev pub TailsOf : Board → board.Comparison → Comparison → Type 0
TailsOf B q c = (lead : SatClause) → Tails B (under lead q) c

module _ (B : Board) (model : List ℕ) (p : Piece) (c : Comparison) (h : Tails B p c) (s : Sound B p) where
  tails_mention : All (All (Mentions B)) h.tails
  tails_mention =
      all_impl (λ t. All (Mentions B) (lead_of p ++ t)) (All (Mentions B)) (λ t a. (append-all (Mentions B) (lead_of p) t a).1) h.tails
      (map-all (All (Mentions B)) (λ t. lead_of p ++ t) h.tails (rw h.clauses at (piece_mentions B p s)))

  tail-test : (t : SatClause) → All (Mentions B) t
      → true_clause B model (lead_of p ++ t) ≡ clause_test model (true_clause B model (lead_of p)) (map (literal_number B) t)
  tail-test t a =
      any_append (satisfies (in_model B model)) (lead_of p) t
      ∙ ap (λ b. true_clause B model (lead_of p) || b) (clause_true B model t (all_impl (Mentions B) (Numbered B) (λ l m. (number-range B (atom_of l) m).0) t a))

  -- the tests of the piece's clauses, by the tuples' literals
  pub tails_tests : map (true_clause B model) (piece_clauses (bounds_of B) p) ≡ map (clause_test model (true_clause B model (lead_of p))) (literals_of c)
  tails_tests =
      ap (map (true_clause B model)) h.clauses
      ∙ map-map (true_clause B model) (λ t. lead_of p ++ t) h.tails
      ∙ map_same (λ t. true_clause B model (lead_of p ++ t)) (λ t. clause_test model (true_clause B model (lead_of p)) (map (literal_number B) t)) h.tails
      (all_impl (All (Mentions B)) _ tail-test h.tails tails_mention)
      ∙ sym (map-map (clause_test model (true_clause B model (lead_of p))) (map (literal_number B)) h.tails)
      ∙ ap (map (clause_test model (true_clause B model (lead_of p)))) (sym h.literals)

  pub tails_numbered : length model ≡ N B → All (All (InList (length model))) (literals_of c)
  tails_numbered e =
      rw h.literals
      (all_map (All (InList (length model))) (map (literal_number B)) h.tails
      (all_impl (All (Mentions B)) (λ t. All (InList (length model)) (map (literal_number B) t))
      (λ t a. all_map (InList (length model)) (literal_number B) t (all_impl (Mentions B) (λ l. InList (length model) (literal_number B l)) (λ l k. rw (literal_size B l, e) (number-range B (atom_of l) k)) t a))
      h.tails tails_mention))

-- a negated selector
module _ (B : Board) (model : List ℕ) (j : ℕ) where
  pub negated_true : true_clause B model (minus (selector j) ∷ []) ≡ not (on model (selector_number B j))
  unfolding satisfies in_model number
  negated_true = or-false _

  pub selector_numbered : length model ≡ N B → Mentions B (minus (selector j)) → (1 ≤ selector_number B j) × (selector_number B j ≤ length model)
  unfolding number
  selector_numbered e h = rw e (number-range B (selector j) h)
