-- The order variables' bytes from a variable on. Assumes nothing.
use Rattle.std.specs.Prelude.{◌≡◌, ℕ, ◌+◌, ◌-◌, ◌≤◌, ◌<◌, length, get_or, ℤ, pos, nat_abs}
use Rattle.std.proofs.Common.{sym, ap, ap₂, ◌∙◌}
use mathlib.Core.List.{List, [], ◌++◌, map, flatten}
use Rattle.definitions.specs.Tools.{count_up}
use Rattle.definitions.specs.Board.{Board, bounds_of}
use Rattle.definitions.specs.Encoding.{width}
use Rattle.definitions.specs.Meaning.{Assignment, assigned}
use Rattle.laws.specs.Whole.{whole, abs_le}
use Rattle.laws.specs.Lists.{count_up-first, count_up_none}
use Rattle.laws.specs.Admitted.{GoodBounds}
use Rattle.slots.specs.declared.Bounds.{Bounds}
use Rattle.slots.specs.Variables.{bounds_read, BoundsOf, bounds_same}
use Rattle.image.specs.Parts.{order_bytes, order_from, orders-from}

unfoldable pub orders_from : Board → Assignment → ℕ → List ℕ
orders_from B a x = flatten (map (order_bytes B a) (count_up x (length B.bounds - x)))

pub orders-end : (B : Board) (a : Assignment) (x : ℕ) → length B.bounds ≤ x → orders_from B a x ≡ []
unfolding orders_from flatten
orders-end B a x h = ap (λ l. flatten (map (order_bytes B a) l)) (count_up_none x (length B.bounds) h)

orders-more : (B : Board) (a : Assignment) (x : ℕ) → x < length B.bounds
    → orders_from B a x ≡ order_from (a.α x) (bounds_of B x).lo (width (bounds_of B x)) ++ orders_from B a (x + 1)
unfolding orders_from flatten
orders-more B a x h =
    ap (λ l. flatten (map (order_bytes B a) l)) (count_up-first x (length B.bounds) h) ∙ ap (λ l. l ++ orders_from B a (x + 1)) (orders-from B a x)

-- those of the next variable, from its value and its bounds as they are read
pub orders_next : (B : Board) (values : List ℤ) (x : ℕ) → x < length B.bounds → (b : Bounds) (w : ℕ) → BoundsOf B x b → w ≡ width (bounds_read b)
    → orders_from B (assigned values []) x ≡ order_from (get_or values x (pos 0)) b.lower w ++ orders_from B (assigned values []) (x + 1)
unfolding assigned
orders_next B values x h b w o e =
    let a = assigned values [] in
    orders-more B a x h
    ∙ ap₂ (λ lo w. order_from (get_or values x (pos 0)) lo w ++ orders_from B a (x + 1)) (sym o.lower) (ap width (sym (bounds_same B x b o)) ∙ sym e)

pub lower_small : (b : Bounds) → GoodBounds (bounds_read b) → nat_abs b.lower ≤ 4096
lower_small b g = abs_le b.lower (omega (whole, g.lowest, g.ordered, g.highest))
