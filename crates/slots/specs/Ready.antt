-- A comparison made ready to walk. Assumes nothing.
use Rattle.std.specs.Prelude.{◌≡◌, List, ℕ, ◌≤◌, ◌<◌, length, ℤ, pos}
use Rattle.std.proofs.Common.{sym, ap, ◌∙◌, arith, to_z, of_z, to_z-of_z}
use Rattle.std.proofs.lemmas.List.{length-map}
use Rattle.std.specs.Int.{w32}
use Rattle.definitions.specs.Board.{Board, bounds_of}
use Rattle.definitions.specs.Board as board
use Rattle.definitions.specs.Encoding.{first}
use Rattle.laws.specs.Limits.{firsts_limit}
use Rattle.laws.specs.Whole.{whole, abs_le, abs_law, ne_in}
use Rattle.laws.specs.Lists.{all_map, all_impl, map_same}
use Rattle.laws.specs.Admitted.{Admitted, GoodTerm, GoodComparison}
use Rattle.laws.specs.Terms.{good_bounds}
use Rattle.laws.specs.Fits.{first-most, good-constant}
use Rattle.laws.specs.Boards.{Opens, board_of, opens_admitted}
use Rattle.laws.specs.Reread.{comparison_at, Stands}
use Rattle.walk.specs.declared.Comparison.{Comparison}
use Rattle.walk.specs.Slots.{FairSlot, slot_of}
use Rattle.walk.specs.Comparisons.{ShowsBy, FairComparison}
use Rattle.slots.specs.Variables.{numbered, FirstsOf}

-- a table gives no variable too large a number to walk with
abbrev pub Small : Board → List ℕ → Type 0
Small B firsts = (x : ℕ) → x < length B.bounds → numbered firsts x ≤ firsts_limit

-- the board's comparison q, ready to walk, where f numbers the variables
pub record ReadyBy (B : Board) (f : ℕ → ℕ) (q : board.Comparison) (c : Comparison) : Type 0 where
  pub shows : ShowsBy B f q c
  pub fair : FairComparison c

-- under the board's own numbers
abbrev pub ReadyFor : Board → board.Comparison → Comparison → Type 0
ReadyFor B = ReadyBy B (first B)

module _ (B : Board) (g : Admitted B) where
  pub firsts_small : (firsts : List ℕ) → FirstsOf B firsts → Small B firsts
  firsts_small firsts e x h = omega (arith, e x (omega arith), first-most B g x)

  module _ (f : ℕ → ℕ) (small : (x : ℕ) → x < length B.bounds → f x ≤ firsts_limit) where
    slot_fair : (t : board.Term) → GoodTerm (length B.bounds) t → FairSlot (slot_of B f t)
    unfolding slot_of
    slot_fair t h =
        let b = good_bounds B g.bounds t.var h.known in
        record {
          some = omega (whole, abs_law t.coef, ne_in t.coef (pos 0) h.some);
          few = abs_le t.coef (omega (whole, h.least, h.most));
          lowest = abs_le (bounds_of B t.var).lo (omega (whole, b.lowest, b.ordered, b.highest));
          highest = abs_le (bounds_of B t.var).hi (omega (whole, b.lowest, b.ordered, b.highest));
          ordered = b.ordered;
          numbered = small t.var h.known;
        }

    pub shows_ready : (q : board.Comparison) (c : Comparison) → GoodComparison (length B.bounds) q → ShowsBy B f q c → ReadyBy B f q c
    shows_ready q c h e = record {
      shows = e;
      fair = record {
        few = omega (arith, h.few, e.counted);
        counted = ap length e.terms ∙ length-map q.terms (slot_of B f) ∙ sym e.counted;
        slots = rw e.terms (all_map FairSlot (slot_of B f) q.terms (all_impl _ _ slot_fair q.terms h.terms));
        near = rw e.constant (abs_le q.constant (omega (whole, h.least, h.most)));
      };
    }

-- a comparison numbered by such a table is numbered by the board
pub firsts_ready : (B : Board) (firsts : List ℕ) → FirstsOf B firsts → (q : board.Comparison) (c : Comparison) → GoodComparison (length B.bounds) q → ReadyBy B (numbered firsts) q c → ReadyFor B q c
unfolding slot_of
firsts_ready B firsts e q c h r =
    let same : (t : board.Term) → GoodTerm (length B.bounds) t → slot_of B (numbered firsts) t ≡ slot_of B (first B) t = λ t k. rw (e t.var (omega (arith, k.known))) in
    let terms = map_same (slot_of B (numbered firsts)) (slot_of B (first B)) q.terms (all_impl _ _ same q.terms h.terms) in
    record { shows = record { counted = r.shows.counted; terms = r.shows.terms ∙ terms; constant = r.shows.constant }; fair = r.fair }

-- a comparison that stands in the rules of an accepted record, as `ready` is asked for it and as it answers
module _ (s : List ℕ) (o : Opens s) (firsts : List ℕ) (e : FirstsOf (board_of s) firsts) {rules : List ℕ} {place : ℕ} {k : ℤ} (h : Stands (length (board_of s).bounds) rules place k) where
  pub to_ready : Opens s × Small (board_of s) firsts × Stands (length (board_of s).bounds) rules place (to_z w32 (of_z w32 k))
  to_ready = (o, firsts_small (board_of s) (opens_admitted s o) firsts e, rw (to_z-of_z (good-constant h.good)) h)

  pub is_ready : {c : Comparison} → ReadyBy (board_of s) (numbered firsts) (comparison_at rules place (to_z w32 (of_z w32 k))) c → ReadyFor (board_of s) (comparison_at rules place k) c
  is_ready {c} r = firsts_ready (board_of s) firsts e (comparison_at rules place k) c h.good (rw (to_z-of_z (good-constant h.good)) at r)
