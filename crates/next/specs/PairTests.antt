-- The first tuples of two and three places as lists of numbers that pass a test, and what may be stepped over. Assumes nothing.
use Rattle.std.specs.Prelude.{◌≡◌, Bool, ◌&&◌, ◌||◌, if◌then◌else◌}
use Rattle.std.proofs.Math.Path.{refl, ap}
use Rattle.std.proofs.Common.{sym, ap₂, ◌∙◌}
use Rattle.std.proofs.Math.Bool.{true, false}
use mathlib.Core.List.{List, [], ◌∷◌, ◌++◌, map, flatten, append-nil}
use Prim.Native.Nat.{ℕ, zero, suc, min, ◌+◌, ◌-◌, ◌≤◌, ◌<◌}
use Rattle.std.proofs.Math.Decide.{dec_le}
use native.Mathlib.Omega.{arith}
use Rattle.definitions.specs.Tools.{count_up}
use Rattle.laws.specs.Runs.{over, over-same, over_none, over_window}
use Rattle.laws.specs.Offsets.{offsets}
use Rattle.next.specs.Once.{keep}
use Rattle.next.specs.Classes.{Place, is_low, is_high, pick}

-- ---- the numbers of a run that pass a test: what fails may be stepped over
pub keep_skip : (f : ℕ → Bool) (b m n : ℕ) → ((k : ℕ) → b ≤ k → k < b + m → f k ≡ false) → keep f (count_up b (m + n)) ≡ keep f (count_up (b + m) n)
keep_skip f b zero n h = let e : 0 + n ≡ n = omega arith in let e' : b + 0 ≡ b = omega arith in ap₂ (λ i j. keep f (count_up i j)) (sym e') e
keep_skip f b (suc m) n h =
    let e : suc m + n ≡ suc (m + n) = omega arith in
    let e' : suc b + m ≡ b + suc m = omega arith in
    ap (λ j. keep f (count_up b j)) e
    ∙ ap (λ c. if c then b ∷ keep f (count_up (suc b) (m + n)) else keep f (count_up (suc b) (m + n))) (h b (omega arith) (omega arith))
    ∙ keep_skip f (suc b) m n (λ k l u. h k (omega arith) (omega arith))
    ∙ ap (λ i. keep f (count_up i n)) e'

-- from b to before the end: the next one that passes is j
pub keep_next : (f : ℕ → Bool) (b j end : ℕ) → b ≤ j → j < end → ((k : ℕ) → b ≤ k → k < j → f k ≡ false) → f j ≡ true
    → keep f (count_up b (end - b)) ≡ j ∷ keep f (count_up (suc j) (end - suc j))
keep_next f b j end l u h t =
    let e : end - b ≡ (j - b) + suc (end - suc j) = omega arith in
    let e' : b + (j - b) ≡ j = omega arith in
    ap (λ n. keep f (count_up b n)) e
    ∙ keep_skip f b (j - b) (suc (end - suc j)) (λ k p q. h k p (omega arith))
    ∙ ap (λ i. keep f (count_up i (suc (end - suc j)))) e'
    ∙ ap (λ c. if c then j ∷ keep f (count_up (suc j) (end - suc j)) else keep f (count_up (suc j) (end - suc j))) t

-- none is left
pub keep-end : (f : ℕ → Bool) (b end : ℕ) → ((k : ℕ) → b ≤ k → k < end → f k ≡ false) → keep f (count_up b (end - b)) ≡ []
keep-end f b end h =
    let e : end - b ≡ (end - b) + 0 = omega arith in
    ap (λ n. keep f (count_up b n)) e ∙ keep_skip f b (end - b) 0 (λ k l u. h k l (omega arith))

-- ---- two places with the sum s: where all before were at their least, and where not
abbrev pub good : {L : Type 0} → Bool → Place L → Place L → ℕ → ℕ → Bool
good true b c s k = is_low b k || is_high c (s - k)
good false b c s k = is_high b k && is_high c (s - k)

-- the first place's offsets run from s less the second's width to its own width or s
abbrev pub pairs : {L : Type 0} → Bool → Place L → Place L → ℕ → List (List ℕ)
pairs f b c s = map (λ k. k ∷ (s - k) ∷ []) (keep (good f b c s) (count_up (s - c.width) (suc (min b.width s) - (s - c.width))))

over_kept : {A : Type 0} (f : ℕ → Bool) (g : ℕ → A) (b n : ℕ) → over (λ k. if f k then g k ∷ [] else []) b n ≡ map g (keep f (count_up b n))
unfolding over flatten
over_kept f g b zero = refl
over_kept f g b (suc n) = go (f b) (over_kept f g (suc b) n)
  where
    go : (t : Bool) → over (λ k. if f k then g k ∷ [] else []) (suc b) n ≡ map g (keep f (count_up (suc b) n))
        → (if t then g b ∷ [] else []) ++ over (λ k. if f k then g k ∷ [] else []) (suc b) n ≡ map g (if t then b ∷ keep f (count_up (suc b) n) else keep f (count_up (suc b) n))
    go true e = ap (λ z. g b ∷ z) e
    go false e = e

-- none but the last number of a run gives something
over_last : {A : Type 0} (f : ℕ → List A) (m : ℕ) → ((k : ℕ) → k < m → f k ≡ []) → over f 0 (suc m) ≡ f m
unfolding over flatten
over_last f m h = over_window f 0 (suc m) m 1 (omega arith) (omega arith) (λ k l u. h k u) (λ k l u. absurd (omega arith)) ∙ append-nil (f m)

no_offset : (r : ℕ) → 0 < r → offsets [] r ≡ []
unfolding offsets
no_offset zero h = absurd (omega arith)
no_offset (suc r) h = refl

module _ {L : Type 0} (c : Place L) where
  last_true : (r : ℕ) → r ≤ c.width → pick true (c ∷ []) r ≡ (r ∷ []) ∷ []
  unfolding pick offsets
  last_true r h =
      let e : min c.width r ≡ r = omega arith in
      let z : r - r ≡ 0 = omega arith in
      ap (λ m. over (λ k. map (λ ks. k ∷ ks) (offsets [] (r - k))) 0 (suc m)) e
      ∙ over_last (λ k. map (λ ks. k ∷ ks) (offsets [] (r - k))) r (λ k l. ap (map (λ ks. k ∷ ks)) (no_offset (r - k) (omega arith)))
      ∙ ap (λ x. map (λ ks. r ∷ ks) (offsets [] x)) z

  last_false : (r : ℕ) → r ≤ c.width → pick false (c ∷ []) r ≡ (if is_high c r then (r ∷ []) ∷ [] else [])
  unfolding pick offsets
  last_false r h =
      let e : min c.width r ≡ r = omega arith in
      let z : r - r ≡ 0 = omega arith in
      ap (λ m. over (λ k. if is_high c k then map (λ ks. k ∷ ks) (offsets [] (r - k)) else []) 0 (suc m)) e
      ∙ over_last (λ k. if is_high c k then map (λ ks. k ∷ ks) (offsets [] (r - k)) else []) r (λ k l. off (is_high c k) _ (ap (map (λ ks. k ∷ ks)) (no_offset (r - k) (omega arith))))
      ∙ ap (λ x. if is_high c r then map (λ ks. r ∷ ks) (offsets [] x) else []) z
    where
      off : (t : Bool) (l : List (List ℕ)) → l ≡ [] → (if t then l else []) ≡ []
      off true l e = e
      off false l e = refl

  last_none : (f : Bool) (r : ℕ) → c.width < r → pick f (c ∷ []) r ≡ []
  unfolding pick
  last_none true r h = over_none _ 0 (suc (min c.width r)) (λ k l u. ap (map (λ ks. k ∷ ks)) (no_offset (r - k) (omega arith)))
  last_none false r h = over_none _ 0 (suc (min c.width r)) (λ k l u. off (is_high c k) _ (ap (map (λ ks. k ∷ ks)) (no_offset (r - k) (omega arith))))
    where
      off : (t : Bool) (l : List (List ℕ)) → l ≡ [] → (if t then l else []) ≡ []
      off true l e = e
      off false l e = refl

module _ {L : Type 0} (b c : Place L) (s : ℕ) where
  abbrev single : Bool → ℕ → List (List ℕ)
  single f k = if good f b c s k then (k ∷ (s - k) ∷ []) ∷ [] else []

  -- in the window, or nowhere
  windowed : (f : Bool) (g : ℕ → List (List ℕ)) → ((k : ℕ) → s - c.width ≤ k → k < suc (min b.width s) → g k ≡ single f k) → ((k : ℕ) → k < s - c.width → g k ≡ [])
      → over g 0 (suc (min b.width s)) ≡ pairs f b c s
  windowed f g inside outside = elim (dec_le (s - c.width) (suc (min b.width s))) [ yes y ↦ some y | no n ↦ none (omega arith) ]
    where
      lo : ℕ
      lo = s - c.width

      hi : ℕ
      hi = suc (min b.width s)

      some : s - c.width ≤ suc (min b.width s) → over g 0 (suc (min b.width s)) ≡ pairs f b c s
      some y =
          over_window g 0 hi lo (hi - lo) (omega arith) (omega arith) (λ k l u. outside k u) (λ k l u. absurd (omega arith))
          ∙ over-same g (single f) lo (hi - lo) (λ k l u. inside k l (omega arith))
          ∙ over_kept (good f b c s) (λ k. k ∷ (s - k) ∷ []) lo (hi - lo)

      none : suc (min b.width s) - (s - c.width) ≡ 0 → over g 0 (suc (min b.width s)) ≡ pairs f b c s
      none e = over_none g 0 hi (λ k l u. outside k (omega arith)) ∙ ap (λ n. map (λ k. k ∷ (s - k) ∷ []) (keep (good f b c s) (count_up lo n))) (sym e)

  pub pick_two : (f : Bool) → pick f (b ∷ c ∷ []) s ≡ pairs f b c s
  unfolding pick
  pick_two true =
      windowed true (λ k. map (λ ks. k ∷ ks) (pick (is_low b k) (c ∷ []) (s - k)))
      (λ k l u. go (is_low b k) k (omega arith)) (λ k u. ap (map (λ ks. k ∷ ks)) (last_none c (is_low b k) (s - k) (omega arith)))
    where
      go : (t : Bool) (k : ℕ) → s - k ≤ c.width → map (λ ks. k ∷ ks) (pick t (c ∷ []) (s - k)) ≡ (if t || is_high c (s - k) then (k ∷ (s - k) ∷ []) ∷ [] else [])
      go true k h = ap (map (λ ks. k ∷ ks)) (last_true c (s - k) h)
      go false k h = ap (map (λ ks. k ∷ ks)) (last_false c (s - k) h) ∙ out (is_high c (s - k))
        where
          out : (t : Bool) → map (λ ks. k ∷ ks) (if t then ((s - k) ∷ []) ∷ [] else []) ≡ (if t then (k ∷ (s - k) ∷ []) ∷ [] else [])
          out true = refl
          out false = refl
  pick_two false =
      windowed false (λ k. if is_high b k then map (λ ks. k ∷ ks) (pick false (c ∷ []) (s - k)) else [])
      (λ k l u. go (is_high b k) k (omega arith)) (λ k u. off (is_high b k) _ (ap (map (λ ks. k ∷ ks)) (last_none c false (s - k) (omega arith))))
    where
      off : (t : Bool) (l : List (List ℕ)) → l ≡ [] → (if t then l else []) ≡ []
      off true l e = e
      off false l e = refl

      go : (t : Bool) (k : ℕ) → s - k ≤ c.width → (if t then map (λ ks. k ∷ ks) (pick false (c ∷ []) (s - k)) else []) ≡ (if t && is_high c (s - k) then (k ∷ (s - k) ∷ []) ∷ [] else [])
      go true k h = ap (map (λ ks. k ∷ ks)) (last_false c (s - k) h) ∙ out (is_high c (s - k))
        where
          out : (t : Bool) → map (λ ks. k ∷ ks) (if t then ((s - k) ∷ []) ∷ [] else []) ≡ (if t then (k ∷ (s - k) ∷ []) ∷ [] else [])
          out true = refl
          out false = refl
      go false k h = refl

-- three places
pub pick-three : {L : Type 0} (a b c : Place L) (t : ℕ) → pick true (a ∷ b ∷ c ∷ []) t ≡ over (λ k. map (λ ks. k ∷ ks) (pairs (is_low a k) b c (t - k))) 0 (suc (min a.width t))
unfolding pick
pick-three a b c t = over-same _ _ 0 (suc (min a.width t)) (λ k l u. ap (map (λ ks. k ∷ ks)) (pick_two b c (t - k) (is_low a k)))

-- places in front that stand for no term
pub pick_padded : {L : Type 0} (p : Place L) (ps : List (Place L)) (t : ℕ) → p.width ≡ 0 → pick true (p ∷ ps) t ≡ map (λ ks. 0 ∷ ks) (pick true ps t)
unfolding pick
pick_padded p ps t e =
    let m : min p.width t ≡ 0 = omega arith in
    let z : t - 0 ≡ t = omega arith in
    ap (λ n. over (λ k. map (λ ks. k ∷ ks) (pick (is_low p k) ps (t - k))) 0 (suc n)) m
    ∙ over_last (λ k. map (λ ks. k ∷ ks) (pick (is_low p k) ps (t - k))) 0 (λ k l. absurd (omega arith))
    ∙ ap (λ s. map (λ ks. 0 ∷ ks) (pick true ps s)) z
