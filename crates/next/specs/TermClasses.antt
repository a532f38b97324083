-- A term's literals by the offset of their bound: what they say, and where they change. Assumes nothing.
use Rattle.std.specs.Prelude.{◌≡◌, refl, ◌↔◌, ◌≢◌, Bool, true, false, ℕ, suc, ◌*◌, ◌/◌, ◌%◌, ◌≤◌, ◌<◌, T, eqb, ℤ, pos, negsuc, neg_ℤ, nat_abs, ◌+ℤ◌, ◌-ℤ◌, ◌*ℤ◌, ◌≤ℤ◌, ◌<ℤ◌, if◌then◌else◌}
use Rattle.std.proofs.Common.{sym, ap, ◌∙◌, subst, inl, inr, eqb→eq}
use Rattle.std.proofs.Math.Nat.{div-add-mod, mul-mod_right}
use Rattle.std.specs.Int.Signed.{lt_z}
use Rattle.definitions.specs.Tools.{floor, ceil, size}
use Rattle.definitions.specs.Board.{Bounds, Term}
use Rattle.definitions.specs.Encoding.{SatLiteral, plus, minus, bool, order, selector, term_bounds, sharp}
use Rattle.laws.specs.Decide.{equals}
use Rattle.laws.specs.Whole.{whole, add_law, sub_law, mul_law, neg_law, abs_mul, mul_add, le_or_lt, ne_in, part_law, eq_in}
use Rattle.laws.specs.Division.{below_floor, not-below-ceil}
use Rattle.next.specs.Classes.{Place, Parted}

-- what a literal of order variables says of its variable's value
abbrev Means : ℤ → SatLiteral → Type 0
Means x (plus (bool i)) = Unit {0}
Means x (plus (order v c)) = x ≤ℤ c
Means x (plus (selector j)) = Unit {0}
Means x (minus (bool i)) = Unit {0}
Means x (minus (order v c)) = ¬ (x ≤ℤ c)
Means x (minus (selector j)) = Unit {0}

negative : (a : ℤ) → a ≢ pos 0 → lt_z (pos 0) a ≡ false → a <ℤ pos 0
negative a n e = omega (whole, ne_in a (pos 0) n, part_law a)

-- (ax ≤ b)^# says ax ≤ b
sharp_means : (t : Term) (b x : ℤ) → t.coef ≢ pos 0 → ((t.coef *ℤ x) ≤ℤ b) ↔ Means x (sharp t b)
unfolding sharp
sharp_means t b x n = go (lt_z (pos 0) t.coef) refl
  where
    go : (s : Bool) → lt_z (pos 0) t.coef ≡ s
        → ((t.coef *ℤ x) ≤ℤ b) ↔ Means x (if s then plus (order t.var (floor b t.coef)) else minus (order t.var (ceil b t.coef -ℤ pos 1)))
    go true e = below_floor t.coef b x (omega whole)
    go false e = not-below-ceil t.coef b x (negative t.coef n e)

-- ---- multiples
multiple : (a : ℤ) (j : ℕ) → j % nat_abs a ≡ 0 → (s : ℤ) × (a *ℤ s ≡ pos j)
multiple (pos n) j e = (pos (j / n), (let d = div-add-mod j n in omega whole))
multiple (negsuc n) j e = (
  neg_ℤ (pos (j / suc n)),
  (let d = div-add-mod j (suc n) in let l = neg_law (pos (j / suc n)) in
      omega (whole, mul_law (negsuc n) (neg_ℤ (pos (j / suc n))), ap (λ z. suc n * z) l.0, ap (λ z. suc n * z) l.1)),
)

divides : (a x e : ℤ) (k : ℕ) → a *ℤ x ≡ (a *ℤ e) +ℤ pos k → k % nat_abs a ≡ 0
divides a x e k h =
    let q : e +ℤ (x -ℤ e) ≡ x = omega (whole, add_law e (x -ℤ e), sub_law x e) in
    let m : a *ℤ x ≡ (a *ℤ e) +ℤ (a *ℤ (x -ℤ e)) = rw q at (mul_add a e (x -ℤ e)) in
    let p : pos k ≡ a *ℤ (x -ℤ e) = omega (whole, eq_in _ _ m, add_law (a *ℤ e) (a *ℤ (x -ℤ e)), add_law (a *ℤ e) (pos k)) in
    let r : k ≡ nat_abs a * nat_abs (x -ℤ e) = ap nat_abs p ∙ abs_mul a (x -ℤ e) in
    rw r (mul-mod_right (nat_abs a) (nat_abs (x -ℤ e)))

-- ---- a bound that is no multiple is as good as the one below
floor-same : (a b c : ℤ) → pos 0 <ℤ a → c ≡ b +ℤ pos 1 → ((x : ℤ) → a *ℤ x ≢ c) → floor c a ≡ floor b a
floor-same a b c s e n =
    let l = (below_floor a c (floor c a) s).1 (omega whole) in
    let k = (below_floor a b (floor c a) s).0 (omega (whole, add_law b (pos 1), ne_in _ _ (n (floor c a)))) in
    let u = (below_floor a b (floor b a) s).1 (omega whole) in
    let v = (below_floor a c (floor b a) s).0 (omega (whole, add_law b (pos 1))) in
    omega whole

ceil-same : (a b c : ℤ) → a <ℤ pos 0 → c ≡ b +ℤ pos 1 → ((x : ℤ) → a *ℤ x ≢ c) → ceil c a ≡ ceil b a
ceil-same a b c s e n = omega (whole, one, two, sub_law (ceil c a) (pos 1), sub_law (ceil b a) (pos 1))
  where
    f : ℤ
    f = ceil b a -ℤ pos 1

    g : ℤ
    g = ceil c a -ℤ pos 1

    -- at g it is above c, and so above b
    one : (ceil c a -ℤ pos 1) ≤ℤ (ceil b a -ℤ pos 1)
    one = elim (le_or_lt g f) [
      | inl k ↦ k
      | inr k ↦ (let r = (not-below-ceil a b g s).1 (λ h. omega whole) in absurd ((not-below-ceil a c g s).0 (omega (whole, add_law b (pos 1))) (omega whole)))
    ]

    two : (ceil b a -ℤ pos 1) ≤ℤ (ceil c a -ℤ pos 1)
    two = elim (le_or_lt f g) [
      | inl k ↦ k
      | inr k ↦ (let r = (not-below-ceil a c f s).1 (λ h. omega whole) in
          absurd ((not-below-ceil a b f s).0 (omega (whole, add_law b (pos 1), ne_in _ _ (n f))) (omega whole)))
    ]

sharp-same : (t : Term) (b c : ℤ) → t.coef ≢ pos 0 → c ≡ b +ℤ pos 1 → ((x : ℤ) → t.coef *ℤ x ≢ c) → sharp t c ≡ sharp t b
unfolding sharp
sharp-same t b c n e m = go (lt_z (pos 0) t.coef) refl
  where
    go : (s : Bool) → lt_z (pos 0) t.coef ≡ s
        → (if s then plus (order t.var (floor c t.coef)) else minus (order t.var (ceil c t.coef -ℤ pos 1)))
        ≡ (if s then plus (order t.var (floor b t.coef)) else minus (order t.var (ceil b t.coef -ℤ pos 1)))
    go true q = ap (λ z. plus (order t.var z)) (floor-same t.coef b c (omega whole) e m)
    go false q = ap (λ z. minus (order t.var (z -ℤ pos 1))) (ceil-same t.coef b c (negative t.coef n q) e m)

-- ---- a term as a place: a class ends at each multiple of the coefficient
abbrev pub place_of : (ℕ → Bounds) → Term → Place SatLiteral
place_of of t = record {
  width = size ((term_bounds of t).hi -ℤ ((term_bounds of t).lo -ℤ pos 1));
  cut = λ k. eqb (k % nat_abs t.coef) 0;
  lit = λ k. sharp t (((term_bounds of t).lo -ℤ pos 1) +ℤ pos k);
}

lowest : (of : ℕ → Bounds) (t : Term) → (e : ℤ) × ((term_bounds of t).lo ≡ t.coef *ℤ e)
unfolding term_bounds
lowest of t = go (lt_z (pos 0) t.coef)
  where
    b : Bounds
    b = of t.var

    low_of : Bounds → Type 0
    low_of r = (e : ℤ) × (r.lo ≡ t.coef *ℤ e)

    go : (s : Bool) → low_of (if s then record { lo = t.coef *ℤ b.lo; hi = t.coef *ℤ b.hi } else record { lo = t.coef *ℤ b.hi; hi = t.coef *ℤ b.lo })
    go true = (b.lo, refl)
    go false = (b.hi, refl)

pub parted : (of : ℕ → Bounds) (t : Term) → t.coef ≢ pos 0 → Parted (place_of of t)
parted of t n = record { flat = flat; jump = jump }
  where
    a : ℤ
    a = t.coef

    lo : ℤ
    lo = (term_bounds of t).lo

    at : ℕ → ℤ
    at k = ((term_bounds of t).lo -ℤ pos 1) +ℤ pos k

    low : (e : ℤ) × ((term_bounds of t).lo ≡ t.coef *ℤ e)
    low = lowest of t

    flat : (k : ℕ) → k < size ((term_bounds of t).hi -ℤ ((term_bounds of t).lo -ℤ pos 1)) → eqb (k % nat_abs t.coef) 0 ≡ false
        → sharp t (((term_bounds of t).lo -ℤ pos 1) +ℤ pos (suc k)) ≡ sharp t (((term_bounds of t).lo -ℤ pos 1) +ℤ pos k)
    flat k w e =
        let z = lo -ℤ pos 1 in
        sharp-same t (z +ℤ pos k) (z +ℤ pos (suc k)) n (omega (whole, add_law z (pos (suc k)), add_law z (pos k), add_law (z +ℤ pos k) (pos 1)))
        (λ x h. subst T e ((equals (k % nat_abs a) 0).full (divides a x low.0 k
        (let q = low.1 in omega (whole, h, eq_in _ _ q, sub_law lo (pos 1), add_law z (pos (suc k)), add_law (a *ℤ low.0) (pos k))))))

    jump : (k j k' : ℕ) → k ≤ j → j < k' → k' ≤ size ((term_bounds of t).hi -ℤ ((term_bounds of t).lo -ℤ pos 1)) → eqb (j % nat_abs t.coef) 0 ≡ true
        → sharp t (((term_bounds of t).lo -ℤ pos 1) +ℤ pos k) ≢ sharp t (((term_bounds of t).lo -ℤ pos 1) +ℤ pos k')
    jump k j k' kj jk w c h =
        let z = lo -ℤ pos 1 in
        let m = multiple a j (eqb→eq (j % nat_abs a) 0 (subst T (sym c) tt)) in
        let x = low.0 +ℤ m.0 in
        let q = mul_add a low.0 m.0 in
        let v : a *ℤ x ≡ lo +ℤ pos j = omega (whole, eq_in _ _ q, eq_in _ _ m.1, eq_in _ _ low.1, add_law (a *ℤ low.0) (a *ℤ m.0), add_law lo (pos j)) in
        let up = (sharp_means t (z +ℤ pos k') x n).0 (omega (whole, eq_in _ _ v, add_law lo (pos j), sub_law lo (pos 1), add_law z (pos k'))) in
        let down = (sharp_means t (z +ℤ pos k) x n).1 (rw h up) in
        omega (whole, down, eq_in _ _ v, add_law lo (pos j), sub_law lo (pos 1), add_law z (pos k))
