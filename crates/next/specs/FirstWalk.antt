-- A walk over the first tuples of three places: what is left, and how a step changes it. Assumes nothing.
use Rattle.std.specs.Prelude.{◌≡◌, Bool, true, false, if◌then◌else◌}
use Rattle.std.proofs.Common.{sym, ◌∙◌}
use Rattle.std.proofs.Math.Path.{ap}
use mathlib.Core.List.{List, [], ◌∷◌, ◌++◌, map, flatten}
use Prim.Native.Nat.{ℕ, suc, min, ◌+◌, ◌-◌, ◌%◌, ◌≤◌, ◌<◌}
use native.Mathlib.Omega.{arith}
use Rattle.definitions.specs.Tools.{count_up}
use Rattle.laws.specs.Runs.{over, over-more, over_none, over_window}
use Rattle.next.specs.Once.{keep}
use Rattle.next.specs.Classes.{Place, is_low, is_high, pick}
use Rattle.next.specs.Remainders.{Least}
use Rattle.next.specs.ClassEnds.{Every}
use Rattle.next.specs.PairTests.{good, pairs, pick-three, keep_next, keep_skip}
use Rattle.next.specs.PairSteps.{step_to, fresh_start, fresh_step, fresh-end, ahead, full_entry, Inside_none, full_last, full_end, full_leap}

module _ {L : Type 0} (a b c : Place L) (t : ℕ) where
  -- the second place's offsets that may follow k, from lo on
  abbrev pub seconds : ℕ → ℕ → List ℕ
  seconds k lo = keep (good (is_low a k) b c (t - k)) (count_up lo (suc (min b.width (t - k)) - lo))

  abbrev pub tuple : ℕ → ℕ → List ℕ
  tuple k j = k ∷ j ∷ (t - k - j) ∷ []

  abbrev block : ℕ → List (List ℕ)
  block k = map (λ ks. k ∷ ks) (pairs (is_low a k) b c (t - k))

  -- what is left: those that begin with k, the second place from lo on, and those that begin with more
  unfoldable pub left : ℕ → ℕ → List (List ℕ)
  left k lo = map (λ ks. k ∷ ks) (map (λ j. j ∷ (t - k - j) ∷ []) (seconds k lo)) ++ over block (suc k) (min a.width t - k)

  -- where a second place's offsets begin
  abbrev pub entry : ℕ → ℕ
  entry k = t - k - c.width

  entered : (k : ℕ) → k ≤ min a.width t → over block k (suc (min a.width t) - k) ≡ left k (entry k)
  unfolding left
  entered k h = let e : suc (min a.width t) - k ≡ suc (min a.width t - k) = omega arith in ap (over block k) e ∙ over-more block k (min a.width t - k)

  -- nothing begins with less than what the others cannot hold
  block_none : (k : ℕ) → k < t - (b.width + c.width) → block k ≡ []
  block_none k h =
      let e : suc (min b.width (t - k)) - (t - k - c.width) ≡ 0 = omega arith in
      ap (λ n. map (λ ks. k ∷ ks) (map (λ j. j ∷ (t - k - j) ∷ []) (keep (good (is_low a k) b c (t - k)) (count_up (t - k - c.width) n)))) e

  -- the first: where the sum is not above the widths
  pub start : t ≤ a.width + (b.width + c.width) → pick true (a ∷ b ∷ c ∷ []) t ≡ left (t - (b.width + c.width)) (entry (t - (b.width + c.width)))
  start h =
      let k = t - (b.width + c.width) in
      pick-three a b c t
      ∙ over_window block 0 (suc (min a.width t)) k (suc (min a.width t) - k) (omega arith) (omega arith) (λ i l u. block_none i u) (λ i l u. absurd (omega arith))
      ∙ entered k (omega arith)

  pub start_none : a.width + (b.width + c.width) < t → pick true (a ∷ b ∷ c ∷ []) t ≡ []
  start_none h = pick-three a b c t ∙ over_none block 0 (suc (min a.width t)) (λ k l u. block_none k (omega arith))

  -- a step with the first place as it is
  pub stays : (k lo j : ℕ) → seconds k lo ≡ j ∷ seconds k (suc j) → left k lo ≡ tuple k j ∷ left k (suc j)
  unfolding left
  stays k lo j e = ap (λ l. map (λ ks. k ∷ ks) (map (λ j. j ∷ (t - k - j) ∷ []) l) ++ over block (suc k) (min a.width t - k)) e

  -- a step of the first place, and the end
  pub moves : (k lo : ℕ) → seconds k lo ≡ [] → k < min a.width t → left k lo ≡ left (suc k) (entry (suc k))
  unfolding left
  moves k lo e h =
      let n : min a.width t - k ≡ suc (min a.width t) - suc k = omega arith in
      ap (λ l. map (λ ks. k ∷ ks) (map (λ j. j ∷ (t - k - j) ∷ []) l) ++ over block (suc k) (min a.width t - k)) e
      ∙ ap (over block (suc k)) n
      ∙ entered (suc k) h

  -- over rows that have none
  pub passes_rows : (k j lo : ℕ) → k < j → j ≤ min a.width t → seconds k lo ≡ [] → ((i : ℕ) → k < i → i < j → seconds i (entry i) ≡ []) → left k lo ≡ left j (entry j)
  unfolding left
  passes_rows k j lo l h e n =
      let m = min a.width t in
      let q : m - k ≡ suc m - suc k = omega arith in
      ap (λ r. map (λ ks. k ∷ ks) (map (λ j. j ∷ (t - k - j) ∷ []) r) ++ over block (suc k) (m - k)) e
      ∙ ap (over block (suc k)) q
      ∙ over_window block (suc k) (suc m - suc k) j (suc m - j) l (omega arith) (λ i p u. ap (λ r. map (λ ks. i ∷ ks) (map (λ j. j ∷ (t - i - j) ∷ []) r)) (n i p u)) (λ i p u. absurd (omega arith))
      ∙ entered j h

  pub ends : (k lo : ℕ) → seconds k lo ≡ [] → min a.width t ≤ k → left k lo ≡ []
  unfolding left over flatten
  ends k lo e h =
      let n : min a.width t - k ≡ 0 = omega arith in
      ap (λ l. map (λ ks. k ∷ ks) (map (λ j. j ∷ (t - k - j) ∷ []) l) ++ over block (suc k) (min a.width t - k)) e ∙ ap (over block (suc k)) n

-- ---- a row, its first place at k: straight from one first tuple to the next
module _ {L : Type 0} (a b c : Place L) (t B C : ℕ) (hb : Every B b) (hc : Every C c) (pb : 0 < B) (pc : 0 < C) (k : ℕ) where
  abbrev s : ℕ
  s = t - k

  abbrev end : ℕ
  end = suc (min b.width (t - k))

  -- the seconds are those that pass the test of the row
  as_row : (f : Bool) → is_low a k ≡ f → (lo : ℕ) → seconds a b c t k lo ≡ keep (good f b c s) (count_up lo (end - lo))
  as_row f e lo = ap (λ g. keep (good g b c s) (count_up lo (end - lo))) e

  -- one step of a row
  stepped : (f : Bool) → is_low a k ≡ f → (lo j : ℕ) → keep (good f b c s) (count_up lo (end - lo)) ≡ j ∷ keep (good f b c s) (count_up (suc j) (end - suc j))
      → left a b c t k lo ≡ tuple a b c t k j ∷ left a b c t k (suc j)
  stepped f e lo j q = stays a b c t k lo j (as_row f e lo ∙ q ∙ ap (λ l. j ∷ l) (sym (as_row f e (suc j))))

  -- at the least of its class: a first tuple where the row begins, and each step is one
  module _ (low : is_low a k ≡ true) where
    pub low_begins : entry a b c t k ≤ min b.width s → left a b c t k (entry a b c t k) ≡ tuple a b c t k (entry a b c t k) ∷ left a b c t k (suc (entry a b c t k))
    low_begins h =
        stepped true low (s - c.width) (s - c.width)
        (keep_next (good true b c s) (s - c.width) (s - c.width) end (omega arith) (omega arith) (λ i p q. absurd (omega arith)) (fresh_start B C b c hb hc pb pc s))

    pub low_goes_on : (j : ℕ) → j < s → s - j ≤ c.width → step_to B C b c hb hc pb pc s j ≤ min b.width s
        → left a b c t k (suc j) ≡ tuple a b c t k (step_to B C b c hb hc pb pc s j) ∷ left a b c t k (suc (step_to B C b c hb hc pb pc s j))
    low_goes_on j l w u = stepped true low (suc j) (step_to B C b c hb hc pb pc s j) (fresh_step B C b c hb hc pb pc s j end l w (omega arith))

    pub low_ends : (j : ℕ) → j < s → s - j ≤ c.width → min b.width s < step_to B C b c hb hc pb pc s j → seconds a b c t k (suc j) ≡ []
    low_ends j l w u = as_row true low (suc j) ∙ fresh-end B C b c hb hc pb pc s j end l w (omega arith)

  -- not at the least of its class: where the row begins if that is a greatest one, then from one pair of multiples to the next, then the width
  module _ (risen : is_low a k ≡ false) where
    pub risen_begins : c.width ≤ s → s - c.width ≤ b.width → is_high b (s - c.width) ≡ true
        → left a b c t k (entry a b c t k) ≡ tuple a b c t k (entry a b c t k) ∷ left a b c t k (suc (entry a b c t k))
    risen_begins h u e =
        stepped false risen (s - c.width) (s - c.width)
        (keep_next (good false b c s) (s - c.width) (s - c.width) end (omega arith) (omega arith) (λ i p q. absurd (omega arith)) (full_entry B C b c hb hc s h ∙ e))

    pub risen_passes : c.width ≤ s → s - c.width ≤ b.width → is_high b (s - c.width) ≡ false → seconds a b c t k (entry a b c t k) ≡ seconds a b c t k (suc (entry a b c t k))
    risen_passes h u e =
        let lo = s - c.width in
        let n : end - lo ≡ 1 + (end - suc lo) = omega arith in
        let m : lo + 1 ≡ suc lo = omega arith in
        as_row false risen lo
        ∙ ap (λ x. keep (good false b c s) (count_up lo x)) n
        ∙ keep_skip (good false b c s) lo 1 (end - suc lo) (λ i p q. (let z : i ≡ lo = omega arith in ap (good false b c s) z ∙ full_entry B C b c hb hc s h ∙ e))
        ∙ ap (λ x. keep (good false b c s) (count_up x (end - suc lo))) m
        ∙ sym (as_row false risen (suc lo))

    module _ (P : ℕ) (least : Least B C P) (k0 : ℕ) (small : k0 < P) (first : k0 % B ≡ 0) (second : k0 % C ≡ s % C) where
      pub risen_leaps : (lo : ℕ) → s < lo + c.width → ahead P k0 lo < min b.width (suc s)
          → left a b c t k lo ≡ tuple a b c t k (ahead P k0 lo) ∷ left a b c t k (suc (ahead P k0 lo))
      risen_leaps lo l u = stepped false risen lo (ahead P k0 lo) (full_leap B C b c hb hc s P least k0 small first second lo end l u (omega arith))

    -- no more inside: `no_start` and `none_ahead` give that
    pub risen_last : (lo : ℕ) → Inside_none B C b c hb hc s lo → lo ≤ b.width → b.width ≤ s
        → seconds a b c t k lo ≡ (if is_high c (s - b.width) then b.width ∷ [] else [])
    risen_last lo n v u =
        let e : end ≡ suc b.width = omega arith in
        as_row false risen lo ∙ ap (λ x. keep (good false b c s) (count_up lo (x - lo))) e ∙ full_last B C b c hb hc s lo n v u

    pub risen_ends : (lo : ℕ) → Inside_none B C b c hb hc s lo → s < b.width → seconds a b c t k lo ≡ []
    risen_ends lo n u =
        let e : end ≡ suc s = omega arith in
        as_row false risen lo ∙ ap (λ x. keep (good false b c s) (count_up lo (x - lo))) e ∙ full_end B C b c hb hc s lo n u

  -- past the row's end
  pub row-over : (lo : ℕ) → min b.width s < lo → seconds a b c t k lo ≡ []
  row-over lo h = let e : end - lo ≡ 0 = omega arith in ap (λ n. keep (good (is_low a k) b c s) (count_up lo n)) e
