-- The model's parts, one after another, are the plain model, and fill it. Assumes nothing.
use Rattle.std.proofs.Common.{◌≡◌, refl, sym, ap, ap₂, ◌∙◌, List, [], ◌++◌, map, append_assoc, ℕ, ◌+◌, ◌-◌, ◌≤◌, arith, length, length-append, ℤ}
use mathlib.Core.List.{flatten}
use lib.ListN.{length-map}
use Rattle.definitions.specs.Tools.{count_up}
use Rattle.definitions.specs.Board.{Board, variables}
use Rattle.definitions.specs.Encoding.{selections, atoms}
use Rattle.definitions.specs.Meaning.{assigned, compares, plain_model}
use Rattle.laws.specs.Boards.{board_of}
use Rattle.laws.specs.Layout.{N_is}
use Rattle.laws.specs.Written.{written, rest, back, rest-length, written_all}
use Rattle.laws.specs.Filling.{Filling, begun, room, room_for, part, last}
use Rattle.image.specs.Parts.{bit, boolean_bytes, order_bytes, selector_bytes, booleans_length, plain_parts}
use Rattle.image.specs.Variables.{orders_from}
use Rattle.image.specs.Checks.{Writable}

abbrev orders_of : Board → List ℤ → List ℕ
orders_of B values = orders_from B (assigned values []) 0

abbrev selectors_of : Board → List ℤ → List ℕ
selectors_of B values = selector_bytes (assigned values []) (selections B)

-- a Boolean's byte looks at the Booleans alone, the others at the values alone
parts_are : (B : Board) (values : List ℤ) (booleans : List ℕ) → length booleans ≡ B.bools
    → boolean_bytes booleans ++ (orders_of B values ++ selectors_of B values) ≡ plain_model B (assigned values booleans)
unfolding assigned compares orders_from variables
parts_are B values booleans e =
    let a = assigned values booleans in
    let ours : ℕ → List ℕ = λ m. map (λ i. bit (a.β i)) (count_up 1 m) in
    let these : ℕ → List ℕ = λ n. flatten (map (order_bytes B a) (count_up 0 n)) in
    let n : length B.bounds - 0 ≡ length B.bounds = omega arith in
    ap₂ (λ m n. ours m ++ (these n ++ selectors_of B values)) e n
    ∙ sym (append_assoc (ours B.bools) (these (length B.bounds)) (selectors_of B values))
    ∙ sym (plain_parts B a)

-- ---- a model that is written part by part
module _ {s : List ℕ} {values : List ℤ} {booleans old : List ℕ} (g : Writable s values booleans old) where
  abbrev B : Board
  B = board_of s

  abbrev orders : List ℕ
  orders = orders_of B values

  abbrev selectors : List ℕ
  selectors = selectors_of B values

  abbrev parts : List ℕ
  parts = boolean_bytes booleans ++ (orders ++ selectors)

  parts_fit : length parts ≡ length old
  unfolding plain_model
  parts_fit = ap length (parts_are B values booleans g.lists.bools) ∙ length-map (atoms B) _ ∙ sym (N_is B) ∙ sym g.room

  selectors-length : length selectors ≡ length (selections B)
  selectors-length = length-map (selections B) (λ q. bit (compares (assigned values []) q))

  pub booleans_room : length booleans ≤ length old
  booleans_room = omega (arith, parts_fit, booleans_length booleans, length-append (boolean_bytes booleans) (orders ++ selectors))

  pub after_booleans : {out : List ℕ} {at : ℕ} → (at ≡ length booleans) × (out ≡ written (boolean_bytes booleans) old) → Filling parts (orders ++ selectors) old out at
  after_booleans w = begun (boolean_bytes booleans) _ old _ _ (omega (arith, parts_fit)) (w.0 ∙ sym (booleans_length booleans)) w.1

  module _ {out : List ℕ} {at : ℕ} (inv : Filling parts (orders ++ selectors) old out at) where
    pub orders_room : length orders ≤ length (rest out at)
    orders_room = omega (arith, rest-length out at, room_for inv orders selectors refl)

    pub after-orders : {n : ℕ} {ys : List ℕ} → (n ≡ length orders) × (ys ≡ written orders (rest out at)) → Filling parts selectors old (back out at ys) (at + n)
    after-orders w = part inv orders selectors refl _ _ w.0 w.1

  module _ {out : List ℕ} {at : ℕ} (inv : Filling parts selectors old out at) where
    pub selectors_room : length (selections B) ≤ length (rest out at)
    selectors_room = omega (arith, rest-length out at, room inv, selectors-length)

    pub after-selectors : {n : ℕ} {ys : List ℕ} → (n ≡ length (selections B)) × (ys ≡ written selectors (rest out at))
        → (back out at ys ≡ plain_model B (assigned values booleans)) × (length (back out at ys) ≡ length old)
    after-selectors w =
        let d = last inv _ _ (w.0 ∙ sym selectors-length) w.1 in
        (d.1 ∙ written_all parts old parts_fit ∙ parts_are B values booleans g.lists.bools, d.2)
