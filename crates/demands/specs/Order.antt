-- A(x) holds exactly where p(x,c) says x ≤ c of one value of x, the least c whose p(x,c) is true (000, Proposition 2). Assumes nothing.
use Rattle.std.specs.Prelude.{◌≡◌, ◌↔◌, ◌⊎◌, Bool, true, false, not, T, ◌+ℤ◌, ◌-ℤ◌, ◌≤ℤ◌, ◌<ℤ◌, if◌then◌else◌}
use Rattle.std.proofs.Math.Path.{refl}
use Rattle.std.proofs.Math.Logic.{inl}
use Rattle.std.proofs.Common.{inr}
use mathlib.Core.List.{[], ◌∷◌}
use Prim.Native.Nat.{ℕ, zero, suc}
use Rattle.std.proofs.Math.Dec.{T_not, not_T}
use Rattle.std.proofs.Math.IntN.{ℤ, pos, suc_ℤ}
use Rattle.definitions.specs.Tools.{size, up_from, range}
use Rattle.definitions.specs.Board.{Bounds}
use Rattle.definitions.specs.Encoding.{Atom, SatClause, order, plus, minus, axioms_of}
use Rattle.definitions.specs.Meaning.{satisfies, least_true}
use Rattle.laws.specs.Whole.{whole, add_law, sub_law, suc_law, part_law, le_or_lt}
use Rattle.laws.specs.Lists.{all_map, map-all}
use Rattle.laws.specs.Ranges.{range_size, all-range, range_all}
use Rattle.demands.specs.Truth.{Holds, Satisfied, Tells, only}

-- ---- z is the least number from c to hi whose p is true
pub record LeastTrue (p : ℤ → Bool) (c hi z : ℤ) : Type 0 where
  pub least : c ≤ℤ z
  pub most : z ≤ℤ hi
  pub there : T (p z)
  pub none_before : (d : ℤ) → c ≤ℤ d → d <ℤ z → ¬ T (p d)

module _ (p : ℤ → Bool) (hi : ℤ) where
  least-from : (c z : ℤ) (s : Bool) → p c ≡ s → c ≤ℤ hi → (¬ T (p c) → LeastTrue p (suc_ℤ c) hi z) → LeastTrue p c hi (if s then c else z)
  least-from c z true e h f = record { least = omega whole; most = h; there = rw e tt; none_before = λ d l u t. omega whole }
  least-from c z false e h f =
      let no-c : ¬ T (p c) = λ t. rw e at t in
      let r = f no-c in
      record {
        least = omega (whole, r.least, suc_law c);
        most = r.most;
        there = r.there;
        none_before = λ d l u t. elim (le_or_lt d c) [
          | inl k ↦ no-c (let q : d ≡ c = omega whole in rw q at t)
          | inr k ↦ r.none_before d (omega (whole, suc_law c)) u t
        ];
      }

  found : (n : ℕ) (c : ℤ) → T (p hi) → c +ℤ pos n ≡ hi → LeastTrue p c hi (least_true p hi (up_from c (suc n)))
  unfolding least_true
  found zero c t e = least-from c hi (p c) refl (omega (whole, add_law c (pos 0))) (λ f. absurd (f (let q : hi ≡ c = omega (whole, add_law c (pos 0)) in rw q at t)))
  found (suc n) c t e =
      least-from c (least_true p hi (up_from (suc_ℤ c) (suc n))) (p c) refl (omega (whole, add_law c (pos (suc n))))
      (λ f. found n (suc_ℤ c) t (omega (whole, add_law c (pos (suc n)), add_law (suc_ℤ c) (pos n), suc_law c)))

  least_true_lem : (lo : ℤ) → lo ≤ℤ hi → T (p hi) → LeastTrue p lo hi (least_true p hi (range lo hi))
  least_true_lem lo h t =
      let n = size (hi -ℤ lo) in
      rw (range_size lo hi h) (found n lo t (omega (whole, add_law lo (pos n), sub_law hi lo, part_law (hi -ℤ lo))))

-- ---- what A(x) says
record Rising (p : ℤ → Bool) (lo hi : ℤ) : Type 0 where
  before : ¬ T (p (lo -ℤ pos 1))
  last : T (p hi)
  step : (c : ℤ) → lo ≤ℤ c → c ≤ℤ hi → T (p (c -ℤ pos 1)) → T (p c)

if_then : (b c : Bool) → (T (not b) ⊎ (T c ⊎ ⊥)) ↔ (T b → T c)
if_then true c = (λ h t. elim h [ inl k ↦ absurd k | inr k ↦ only k ], λ f. inr (inl (f tt)))
if_then false c = (λ h t. absurd t, λ f. inl tt)

module _ (of : ℕ → Bounds) (v : Atom → Bool) (x : ℕ) where
  abbrev p : ℤ → Bool
  p c = v (order x c)

  abbrev lo : ℤ
  lo = (of x).lo

  abbrev hi : ℤ
  hi = (of x).hi

  axioms_rise : Satisfied v (axioms_of of x) ↔ Rising p lo hi
  unfolding axioms_of satisfies
  axioms_rise =
      let step : ℤ → SatClause = λ c. minus (order x (c -ℤ pos 1)) ∷ plus (order x c) ∷ [] in (
        λ a. record {
          before = T_not (p (lo -ℤ pos 1)) (only a.0);
          last = only a.1.0;
          step = λ c l u. (if_then (p (c -ℤ pos 1)) (p c)).0 (range_all (λ c. Holds v (step c)) lo hi (map-all (Holds v) step (range lo hi) a.1.1) c l u);
        },
        λ r. (
          inl (not_T (p (lo -ℤ pos 1)) r.before),
          (
            inl r.last,
            all_map (Holds v) step (range lo hi)
                (all-range (λ c. Holds v (step c)) lo hi (λ c l u. (if_then (p (c -ℤ pos 1)) (p c)).1 (r.step c l u))),
          ),
        ),
      )

  -- from c on it stays true
  stays : Rising p lo hi → (c : ℤ) (n : ℕ) → (lo -ℤ pos 1) ≤ℤ c → (c +ℤ pos n) ≤ℤ hi → T (p c) → T (p (c +ℤ pos n))
  stays r c zero l u t = let e : c +ℤ pos 0 ≡ c = omega (whole, add_law c (pos 0)) in rw e t
  stays r c (suc n) l u t =
      let d = c +ℤ pos (suc n) in
      let e : d -ℤ pos 1 ≡ c +ℤ pos n = omega (whole, add_law c (pos (suc n)), add_law c (pos n), sub_law d (pos 1)) in
      r.step d (omega (whole, add_law c (pos (suc n)), sub_law lo (pos 1))) u (rw e (stays r c n l (omega (whole, add_law c (pos (suc n)), add_law c (pos n))) t))

  pub axioms-least : (of x).lo ≤ℤ (of x).hi → Satisfied v (axioms_of of x)
      → LeastTrue (λ c. v (order x c)) (of x).lo (of x).hi (least_true (λ c. v (order x c)) (of x).hi (range (of x).lo (of x).hi))
  axioms-least h a = least_true_lem p hi lo h (axioms_rise.0 a).last

  axioms_tell : lo ≤ℤ hi → Satisfied v (axioms_of of x) → Tells of v x (least_true p hi (range lo hi))
  axioms_tell h a = record { least = z.least; most = z.most; says = λ c l u. (to c l u, from c u) }
    where
      r : Rising p lo hi
      r = axioms_rise.0 a

      z : LeastTrue p lo hi (least_true p hi (range lo hi))
      z = axioms-least h a

      to : (c : ℤ) → (lo -ℤ pos 1) ≤ℤ c → c ≤ℤ hi → T (p c) → least_true p hi (range lo hi) ≤ℤ c
      to c l u t = elim (le_or_lt (least_true p hi (range lo hi)) c) [
        | inl k ↦ k
        | inr k ↦ absurd (elim (le_or_lt lo c) [
          | inl b ↦ z.none_before c b k t
          | inr b ↦ r.before (let e : c ≡ lo -ℤ pos 1 = omega (whole, sub_law lo (pos 1)) in rw e at t)
        ])
      ]

      from : (c : ℤ) → c ≤ℤ hi → least_true p hi (range lo hi) ≤ℤ c → T (p c)
      from c u k =
          let d = least_true p hi (range lo hi) in
          let n = size (c -ℤ d) in
          let e : d +ℤ pos n ≡ c = omega (whole, add_law d (pos n), sub_law c d, part_law (c -ℤ d)) in
          rw e at (stays r d n (omega (whole, z.least, sub_law lo (pos 1))) (rw e u) z.there)

  pub tells-axioms : (z : ℤ) → Tells of v x z → Satisfied v (axioms_of of x)
  tells-axioms z t =
      axioms_rise.1 (record {
        before = λ u. (let k = (t.says (lo -ℤ pos 1) (omega whole) (omega (whole, sub_law lo (pos 1)))).0 u in omega (whole, k, sub_law lo (pos 1)));
        last = (t.says hi (omega (whole, sub_law lo (pos 1))) (omega whole)).1 t.most;
        step = λ c l u k.
            let k' = (t.says (c -ℤ pos 1) (omega (whole, sub_law c (pos 1), sub_law lo (pos 1))) (omega (whole, sub_law c (pos 1)))).0 k in
            (t.says c (omega (whole, sub_law lo (pos 1))) u).1 (omega (whole, k', sub_law c (pos 1)));
      })

  -- of one value only
  once : (y z : ℤ) → Tells of v x y → Tells of v x z → y ≤ℤ z
  once y z s t = (s.says z (omega (whole, sub_law lo (pos 1))) t.most).0 ((t.says z (omega (whole, sub_law lo (pos 1))) t.most).1 (omega whole))

  pub proposition_2 : lo ≤ℤ hi → Satisfied v (axioms_of of x) ↔ Tells of v x (least_true p hi (range lo hi))
  proposition_2 h = (axioms_tell h, tells-axioms (least_true p hi (range lo hi)))

  pub tells-least : (z : ℤ) → Tells of v x z → least_true p hi (range lo hi) ≡ z
  tells-least z t =
      let s = axioms_tell (omega (whole, t.most)) (tells-axioms z t) in
      omega (whole, once _ z s t, once z _ t s)
