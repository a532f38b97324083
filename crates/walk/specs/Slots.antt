-- A slot is a term with its variable's bounds and first number: where its bounds lie, and the number of its literal. Assumes nothing.
use Rattle.std.specs.Prelude.{◌≡◌, refl, Bool, true, false, ℕ, ◌+◌, ◌≤◌, ◌<◌, ℤ, pos, nat_abs, ◌+ℤ◌, ◌-ℤ◌, ◌*ℤ◌, ◌≤ℤ◌, if◌then◌else◌}
use Rattle.std.specs.Int.Signed.{lt_z}
use Rattle.definitions.specs.Tools.{size, floor, ceil, neg}
use Rattle.definitions.specs.Board.{Bounds, Term, Board, bounds_of}
use Rattle.definitions.specs.Encoding.{plus, minus, term_bounds, sharp, first, number, literal_number}
use Rattle.definitions.specs.Encoding as Encoding
use Rattle.laws.specs.Limits.{firsts_limit}
use Rattle.walk.specs.declared.Slot.{Slot}

-- ℓ(ax) and u(ax)
unfoldable pub value_bounds : Slot → Bounds
value_bounds s =
    if lt_z (pos 0) s.coefficient
    then record { lo = s.coefficient *ℤ s.lower; hi = s.coefficient *ℤ s.upper }
    else record { lo = s.coefficient *ℤ s.upper; hi = s.coefficient *ℤ s.lower }

-- from (least of the term) - 1 to (greatest of the term)
unfoldable pub slot_bounds : Slot → Bounds
slot_bounds s = record { lo = (value_bounds s).lo -ℤ pos 1; hi = (value_bounds s).hi }

-- the number of p(x,c)
unfoldable pub order_number : Slot → ℤ → ℕ
order_number s c = s.first + size (c -ℤ s.lower +ℤ pos 1)

-- the number of the literal at a bound
unfoldable pub slot_literal : Slot → ℤ → ℤ
slot_literal s b =
    if lt_z (pos 0) s.coefficient
    then pos (order_number s (floor b s.coefficient))
    else neg (order_number s (ceil b s.coefficient -ℤ pos 1))

-- what 01 admits of them
pub record FairSlot (s : Slot) : Type 0 where
  pub some : 0 < nat_abs s.coefficient
  pub few : nat_abs s.coefficient ≤ 64
  pub lowest : nat_abs s.lower ≤ 4096
  pub highest : nat_abs s.upper ≤ 4096
  pub ordered : s.lower ≤ℤ s.upper
  pub numbered : s.first ≤ firsts_limit

-- ---- what they are of a board's term, where f numbers the variables
unfoldable pub slot_of : Board → (ℕ → ℕ) → Term → Slot
slot_of B f t = record {
  coefficient = t.coef;
  lower = (bounds_of B t.var).lo;
  upper = (bounds_of B t.var).hi;
  first = f t.var;
}

pub value_bounds_lem : (B : Board) (f : ℕ → ℕ) (t : Term) → value_bounds (slot_of B f t) ≡ term_bounds (bounds_of B) t
unfolding value_bounds slot_of term_bounds
value_bounds_lem B f t = refl

-- under the board's own numbers
pub slot_literal_lem : (B : Board) (t : Term) (b : ℤ) → slot_literal (slot_of B (first B) t) b ≡ literal_number B (sharp t b)
unfolding slot_literal order_number slot_of sharp number literal_number
slot_literal_lem B t b = go (lt_z (pos 0) t.coef)
  where
    go : (positive : Bool) → (if positive then pos (order_number (slot_of B (first B) t) (floor b t.coef)) else neg (order_number (slot_of B (first B) t) (ceil b t.coef -ℤ pos 1)))
        ≡ literal_number B (if positive then plus (Encoding.order t.var (floor b t.coef)) else minus (Encoding.order t.var (ceil b t.coef -ℤ pos 1)))
    go true = refl
    go false = refl
