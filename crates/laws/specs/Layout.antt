-- The numbering (01, "Numbering of SAT variables"): the board's atoms have the numbers 1 to N, each once, and N counts them.
use Rattle.std.specs.Prelude.{◌≡◌, refl, ℕ, zero, suc, ◌+◌, ◌-◌, ◌≤◌, ◌<◌, length, get_or, take, drop, ℤ, pos, ◌+ℤ◌, ◌-ℤ◌, ◌≤ℤ◌}
use Rattle.std.proofs.Common.{sym, ap, ap₂, ◌∙◌, inl, inr, add-zero, arith, take-append-drop, drop_of_length-le, drop-cons}
use mathlib.Core.List.{[], List, ◌∷◌, ◌++◌, map, flatten, map-map, map-append, map-id, cons≢nil, head-eq_of_cons-eq, tail-eq_of_cons-eq}
use Rattle.std.proofs.Math.Nat.{sub_self}
use Rattle.std.proofs.lemmas.List.{length-map}
use Rattle.std.proofs.Math.Seq.{take-length}
use Rattle.std.proofs.Math.IntN.{suc_ℤ}
use Rattle.definitions.specs.Tools.{Any, count_up, sum, size}
use Rattle.definitions.specs.Board.{Board, Bounds, bounds_of, variables}
use Rattle.definitions.specs.Encoding.{Atom, bool, order, selector, orders, selected, selections, atoms, width, first, number, N}
use Rattle.laws.specs.Whole.{whole, add_law, sub_law, suc_law, part_law}
use Rattle.laws.specs.Lists.{length-flat-map, sum-append, sum-take, length-count_up, count_up-append, count_up-shift}
use Rattle.laws.specs.Some.{any_left, any_right, any-flatten, any-map, any-count_up}
use Rattle.laws.specs.Ranges.{range-shift}

-- ---- variable by variable
pub first_next : (B : Board) (x : ℕ) → x < length B.bounds → first B (suc x) ≡ first B x + width (bounds_of B x)
unfolding first bounds_of
first_next B x h = omega (arith, sum-take width (record { lo = pos 0; hi = pos 0 }) B.bounds x h)

-- how far p(x,c) is from p(x,ℓ(x)-1), and how many there are
offset : (lo : ℤ) (i : ℕ) → lo -ℤ pos 1 +ℤ pos i -ℤ lo +ℤ pos 1 ≡ pos i
offset lo i =
    let c = lo -ℤ pos 1 +ℤ pos i in
    omega (whole, add_law (c -ℤ lo) (pos 1), sub_law c lo, add_law (lo -ℤ pos 1) (pos i), sub_law lo (pos 1))

pub orders-count : (b : Bounds) → size (suc_ℤ b.hi -ℤ (b.lo -ℤ pos 1)) ≡ width b
unfolding width
orders-count b =
    let l = b.lo in
    let u = b.hi in
    let e : suc_ℤ u -ℤ (l -ℤ pos 1) ≡ u -ℤ l +ℤ pos 2 = omega (whole, sub_law (suc_ℤ u) (l -ℤ pos 1), suc_law u, sub_law l (pos 1), add_law (u -ℤ l) (pos 2), sub_law u l) in
    ap size e

-- one more than there are values
pub width-range : (b : Bounds) → b.lo ≤ℤ b.hi → width b ≡ suc (size (suc_ℤ b.hi -ℤ b.lo))
unfolding width
width-range b h =
    let l = b.lo in
    let u = b.hi in
    omega (whole, add_law (u -ℤ l) (pos 2), sub_law u l, sub_law (suc_ℤ u) l, suc_law u, part_law (u -ℤ l +ℤ pos 2), part_law (suc_ℤ u -ℤ l))

orders_are : (B : Board) (x : ℕ) → orders (bounds_of B) x ≡ map (λ i. order x ((bounds_of B x).lo -ℤ pos 1 +ℤ pos i)) (count_up 0 (width (bounds_of B x)))
unfolding orders
orders_are B x =
    let b = bounds_of B x in
    let l = b.lo -ℤ pos 1 in
    ap (map (order x)) (range-shift l b.hi)
    ∙ map-map (order x) (λ i. l +ℤ pos i) (count_up 0 (size (suc_ℤ b.hi -ℤ l)))
    ∙ ap (λ n. map (λ i. order x (l +ℤ pos i)) (count_up 0 n)) (orders-count b)

orders-numbered : (B : Board) (x : ℕ) → map (number B) (orders (bounds_of B) x) ≡ count_up (first B x) (width (bounds_of B x))
unfolding number
orders-numbered B x =
    let b = bounds_of B x in
    let n = width b in
    ap (map (number B)) (orders_are B x)
    ∙ map-map (number B) (λ i. order x (b.lo -ℤ pos 1 +ℤ pos i)) (count_up 0 n)
    ∙ simp (offset b.lo) (count_up-shift (first B x) 0 n)
    ∙ ap (λ k. count_up k n) (add-zero (first B x))

orders-from : (B : Board) (n x : ℕ) → x + n ≡ length B.bounds
    → map (number B) (flatten (map (orders (bounds_of B)) (count_up x n))) ≡ count_up (first B x) (sum (map width (drop x B.bounds)))
unfolding flatten bounds_of
orders-from B zero x e = ap (λ l. count_up (first B x) (sum (map width l))) (sym (drop_of_length-le B.bounds {i = x} (omega arith)))
orders-from B (suc n) x e =
    let h : x < length B.bounds = omega arith in
    let e' : suc x + n ≡ length B.bounds = omega arith in
    let rest = sum (map width (drop (suc x) B.bounds)) in
    map-append (number B) (orders (bounds_of B) x) (flatten (map (orders (bounds_of B)) (count_up (suc x) n)))
    ∙ ap₂ ◌++◌ (orders-numbered B x) (orders-from B n (suc x) e' ∙ ap (λ k. count_up k rest) (first_next B x h))
    ∙ sym (count_up-append (first B x) (width (bounds_of B x)) rest)
    ∙ ap (λ l. count_up (first B x) (sum (map width l))) (sym (drop-cons B.bounds x (record { lo = pos 0; hi = pos 0 }) h))

-- ---- all of them
bools_numbered : (B : Board) (l : List ℕ) → map (number B) (map bool l) ≡ l
unfolding number
bools_numbered B l = map-map (number B) bool l ∙ map-id l

selectors-numbered : (B : Board) (n : ℕ) → map (number B) (map selector (count_up 0 n)) ≡ count_up (first B (length B.bounds)) n
unfolding number
selectors-numbered B n =
    let f = first B (length B.bounds) in
    map-map (number B) selector (count_up 0 n) ∙ count_up-shift f 0 n ∙ ap (λ k. count_up k n) (add-zero f)

pub first_selector : (B : Board) → first B (length B.bounds) ≡ 1 + (B.bools + sum (map width B.bounds))
unfolding first
first_selector B = omega (arith, ap (λ l. sum (map width l)) (take-length B.bounds))

pub numbers_are : (B : Board) → map (number B) (atoms B) ≡ count_up 1 (N B)
unfolding atoms variables selections first N
numbers_are B =
    let bs = map bool (count_up 1 B.bools) in
    let os = flatten (map (orders (bounds_of B)) (count_up 0 (length B.bounds))) in
    let w = sum (map width B.bounds) in
    let s = length (flatten (map selected B.clauses)) in
    let e : first B 0 ≡ 1 + B.bools = omega arith in
    map-append (number B) (bs ++ os) (map selector (count_up 0 s))
    ∙ ap₂ ◌++◌
    (map-append (number B) bs os
    ∙ ap₂ ◌++◌ (bools_numbered B (count_up 1 B.bools)) (orders-from B (length B.bounds) 0 (omega arith) ∙ ap (λ k. count_up k w) e)
    ∙ sym (count_up-append 1 B.bools w))
    (selectors-numbered B s ∙ ap (λ k. count_up k s) (first_selector B))
    ∙ sym (count_up-append 1 (B.bools + w) s)
    ∙ ap (λ k. count_up 1 (B.bools + w + k)) (length-flat-map selected (λ C. length (selected C)) (λ C. refl) B.clauses)

pub N_is : (B : Board) → N B ≡ length (atoms B)
N_is B = sym (sym (length-map (atoms B) (number B)) ∙ (ap length (numbers_are B) ∙ length-count_up 1 (N B)))

-- ---- the atoms that a board has
abbrev pub Has : Board → Atom → Type 0
Has B (bool i) = (1 ≤ i) × (i ≤ B.bools)
Has B (order x c) = (x < length B.bounds) × (((bounds_of B x).lo -ℤ pos 1) ≤ℤ c) × (c ≤ℤ (bounds_of B x).hi)
Has B (selector j) = j < length (selections B)

-- c as a distance from ℓ(x) - 1
apart : (lo c : ℤ) → (lo -ℤ pos 1) ≤ℤ c → lo -ℤ pos 1 +ℤ pos (size (c -ℤ lo +ℤ pos 1)) ≡ c
apart lo c h =
    let i = size (c -ℤ lo +ℤ pos 1) in
    omega (whole, add_law (lo -ℤ pos 1) (pos i), sub_law lo (pos 1), add_law (c -ℤ lo) (pos 1), sub_law c lo, part_law (c -ℤ lo +ℤ pos 1))

within-width : (b : Bounds) (c : ℤ) → (b.lo -ℤ pos 1) ≤ℤ c → c ≤ℤ b.hi → size (c -ℤ b.lo +ℤ pos 1) < width b
unfolding width
within-width b c h k =
    let z = c -ℤ b.lo +ℤ pos 1 in
    let w = b.hi -ℤ b.lo +ℤ pos 2 in
    omega (
      whole,
      sub_law b.lo (pos 1),
      add_law (c -ℤ b.lo) (pos 1),
      sub_law c b.lo,
      part_law z,
      add_law (b.hi -ℤ b.lo) (pos 2),
      sub_law b.hi b.lo,
      part_law w,
    )

-- each stands in the list
order_listed : (B : Board) (x : ℕ) (c : ℤ) → Has B (order x c) → Any (λ v. v ≡ order x c) (orders (bounds_of B) x)
order_listed B x c h =
    let b = bounds_of B x in
    let at : ℕ → Atom = λ i. order x (b.lo -ℤ pos 1 +ℤ pos i) in
    let i = size (c -ℤ b.lo +ℤ pos 1) in
    rw (orders_are B x)
    (any-map (λ v. v ≡ order x c) at (count_up 0 (width b))
    (any-count_up (λ i. at i ≡ order x c) 0 (width b) i (omega arith) (omega (arith, within-width b c h.1 h.2))
    (ap (order x) (apart b.lo c h.1))))

listed : (B : Board) (a : Atom) → Has B a → Any (λ v. v ≡ a) (atoms B)
unfolding atoms variables
listed B a h = go a h
  where
    bs : List Atom
    bs = map bool (count_up 1 B.bools)

    os : List (List Atom)
    os = map (orders (bounds_of B)) (count_up 0 (length B.bounds))

    ss : List Atom
    ss = map selector (count_up 0 (length (selections B)))

    go : (a : Atom) → Has B a → Any (λ v. v ≡ a) (bs ++ flatten os ++ ss)
    go (bool i) h =
        let is : Atom → Type 0 = λ v. v ≡ bool i in
        any_left is (bs ++ flatten os) ss (any_left is bs (flatten os)
        (any-map is bool (count_up 1 B.bools) (any-count_up (λ j. bool j ≡ bool i) 1 B.bools i h.0 (omega arith) refl)))
    go (order x c) h =
        let is : Atom → Type 0 = λ v. v ≡ order x c in
        let n = length B.bounds in
        any_left is (bs ++ flatten os) ss (any_right is bs (flatten os) (any-flatten is os
        (any-map (Any is) (orders (bounds_of B)) (count_up 0 n)
        (any-count_up (λ y. Any is (orders (bounds_of B) y)) 0 n x (omega arith) (omega arith) (order_listed B x c h)))))
    go (selector j) h =
        let is : Atom → Type 0 = λ v. v ≡ selector j in
        let n = length (selections B) in
        any_right is (bs ++ flatten os) ss
        (any-map is selector (count_up 0 n) (any-count_up (λ i. selector i ≡ selector j) 0 n j (omega arith) (omega arith) refl))

-- an entry whose numbers are counted up stands where its number says
counted-at : {A : Type 0} (f : A → ℕ) (d : A) (l : List A) (i n : ℕ) → map f l ≡ count_up i n → (a : A) → Any (λ v. v ≡ a) l
    → (i ≤ f a) × (f a < i + n) × (get_or l (f a - i) d ≡ a)
counted-at f d [] i n e a h = elim h [ ]
counted-at f d (x ∷ l) i zero e a h = absurd (cons≢nil e)
counted-at f d (x ∷ l) i (suc n) e a (inl h) =
    let k : f a ≡ i = ap f (sym h) ∙ head-eq_of_cons-eq e in
    (omega arith, omega arith, rw (k, sub_self i) h)
counted-at f d (x ∷ l) i (suc n) e a (inr h) =
    let r = counted-at f d l (suc i) n (tail-eq_of_cons-eq e) a h in
    let k : f a - i ≡ suc (f a - suc i) = omega (arith, r.0) in
    (omega (arith, r.0), omega (arith, r.1), rw k r.2)

pub number-range : (B : Board) (a : Atom) → Has B a → (1 ≤ number B a) × (number B a ≤ N B)
number-range B a h = let r = counted-at (number B) a (atoms B) 1 (N B) (numbers_are B) a (listed B a h) in (r.0, omega (arith, r.1))

pub atom_at : (B : Board) (d a : Atom) → Has B a → get_or (atoms B) (number B a - 1) d ≡ a
atom_at B d a h = (counted-at (number B) d (atoms B) 1 (N B) (numbers_are B) a (listed B a h)).2

-- the order variables of x
pub orders-range : (B : Board) (x : ℕ) → x < length B.bounds → (1 ≤ first B x) × (first B x + width (bounds_of B x) ≤ N B + 1)
unfolding first N
orders-range B x h =
    let bs = B.bounds in
    (omega arith, omega (arith, first_next B x h, sum-append width (take (suc x) bs) (drop (suc x) bs), ap (λ l. sum (map width l)) (take-append-drop (suc x) bs)))
