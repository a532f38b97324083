-- What the pieces of an accepted record's rules add to its sizes. Assumes nothing.
use Rattle.std.specs.Prelude.{◌≡◌, List, map, ℕ, ◌+◌, ◌<◌, ◌^◌, length}
use Rattle.definitions.specs.Tools.{sum}
use Rattle.definitions.specs.Board.{Bounds, Comparison}
use Rattle.definitions.specs.Encoding.{SatClause}
use Rattle.laws.specs.Pieces.{Piece, under}
use Rattle.laws.specs.Sizes.{piece_count, piece_places, piece_selectors}
use Rattle.measure.specs.declared.Share.{Share}

pub record ShareOf (of : ℕ → Bounds) (p : Piece) (r : Share) : Type 0 where
  pub clauses : r.clauses ≡ piece_count of p
  pub places : r.places ≡ piece_places of p
  pub selectors : r.selectors ≡ piece_selectors p

-- a comparison's share under any lead of n literals
abbrev pub ShareUnder : (ℕ → Bounds) → ℕ → Comparison → Share → Type 0
ShareUnder of n q r = (lead : SatClause) → length lead ≡ n → ShareOf of (under lead q) r

-- the total of some pieces, and the shares of those that are coming, are the shares of all
pub record Adding (of : ℕ → Bounds) (all coming : List Piece) (total : Share) : Type 0 where
  pub clauses : total.clauses + sum (map (piece_count of) coming) ≡ sum (map (piece_count of) all)
  pub places : total.places + sum (map (piece_places of) coming) ≡ sum (map (piece_places of) all)
  pub selectors : total.selectors + sum (map piece_selectors coming) ≡ sum (map piece_selectors all)

abbrev pub plus : Share → Share → Share
plus a b = record { clauses = a.clauses + b.clauses; places = a.places + b.places; selectors = a.selectors + b.selectors }

pub record Fit (a : Share) : Type 0 where
  pub clauses : a.clauses < 2 ^ 63
  pub places : a.places < 2 ^ 63
  pub selectors : a.selectors < 2 ^ 63
