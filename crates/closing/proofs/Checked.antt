-- Closing's checks one after another, and where each of its answers comes from. Assumes nothing.
use Rattle.std.proofs.Common.{◌≡◌, refl, sym, Bool, true, false, List, ℕ, ◌<◌, ltb, length, ltb-true}
use Rattle.definitions.specs.Board.{Board, bounds_of}
use Rattle.definitions.specs.Result.{Result, done, refused, need, ◌>>◌}
use Rattle.definitions.specs.Operations.{accepted, bits}
use Rattle.definitions.specs.Closing.{Earliest, unfinished, after, closing_outcome}
use Rattle.laws.specs.Readings.{never}
use Rattle.closing.specs.Checks.{lent_allowed}

-- ---- 22, then 12
pub lent_is : (ints x : ℕ) (replies : List ℕ) {p q : Result (Unit {0})} → need 22 x (ltb x ints) ≡ p → bits replies ≡ q → (p >> q) ≡ lent_allowed ints x replies
lent_is ints x replies e f = rw (e, f)

pub known_then : (ints x : ℕ) (replies : List ℕ) → lent_allowed ints x replies ≡ done tt → x < ints
known_then ints x replies = go (ltb x ints) refl
  where
    go : (t : Bool) → ltb x ints ≡ t → (need 22 x t >> bits replies) ≡ done tt → x < ints
    go true q e = ltb-true x ints q
    go false q e = never e

-- ---- the whole
gather : (a b : Result (Unit {0})) (c : Result Earliest) → (a >> (b >> c)) ≡ ((a >> b) >> c)
gather (refused n i) b c = refl
gather (done u) b c = refl

module _ (s : List ℕ) (x : ℕ) (replies : List ℕ) where
  pub record_refused : {n d : ℕ} → accepted s ≡ refused n d → refused n d ≡ closing_outcome s x replies
  unfolding closing_outcome
  record_refused e = rw e

  pub closing_is : (B : Board) {p : Result (Unit {0})} → accepted s ≡ done B → lent_allowed (length B.bounds) x replies ≡ p
      → closing_outcome s x replies ≡ (p >> after (unfinished (bounds_of B x) (bounds_of B x).hi) replies)
  unfolding closing_outcome
  closing_is B {p} e f =
      rw (e, sym f) (gather (need 22 x (ltb x (length B.bounds))) (bits replies) (after (unfinished (bounds_of B x) (bounds_of B x).hi) replies))
