-- Marks of variables, window by window: how often each stands in a reply, up to twice; and the least that does not stand there once. Assumes nothing.
use Rattle.std.specs.Prelude.{◌≡◌, refl, Bool, true, false, List, [], ◌∷◌, ◌++◌, map, ℕ, zero, suc, ◌+◌, ◌-◌, ◌≤◌, ◌<◌, min, ltb, leb, eqb, length, get_or, take, drop, set, replicate, ℤ, nat_abs, if◌then◌else◌}
use Rattle.std.proofs.Common.{sym, ap, ◌∙◌, inl, inr, add-one, arith, length-set, drop-cons, take_at, get_or-set_same, get_or-set_other, ext_get_or, eq-eqb, ne_eqb, eqb-true, le-leb, leb-true, leb-false, lt-ltb, le-ltb, ltb-true, ltb-false}
use Rattle.std.proofs.lemmas.List.{map-append, length-map, set-get_or}
use Rattle.std.proofs.Math.Seq.{set_out}
use Rattle.std.proofs.lemmas.Bool.{eqb-false, lt-leb}
use Rattle.definitions.specs.Tools.{count_up}
use Rattle.definitions.specs.Result.{Result, ◌>>◌, done, refused, each}
use Rattle.laws.specs.Lists.{counted-at, length-count_up, count_up-append, all-count_up, map_same}
use Rattle.laws.specs.Search.{seek-append}
use Rattle.definitions.specs.TextReading.{number_read}
use Rattle.definitions.specs.TextOperations.{often}
use Rattle.laws.specs.Stepping.{num, cases}
use Rattle.demands.specs.Reached.{value-size}
use Rattle.demands.specs.ReplyModels.{every_passes}
use Rattle.replies.specs.Parts.{in_order}
use Rattle.replies.specs.Bytes.{nothing_left}
use Rattle.replies.specs.Replied.{often-once}

-- ---- a list of the variables from a first one on
abbrev pub Cleared : List ℕ → Type 0
Cleared l = l ≡ replicate (length l) 0

-- the entry of a variable, if there is one, made anew
abbrev pub changed : (ℕ → ℕ) → ℕ → ℕ → List ℕ → List ℕ
changed g first v l = if leb first v then set l (v - first) (g (get_or l (v - first) 0)) else l

pub none_yet : (first k : ℕ) → replicate {A = ℕ} k 0 ≡ map (λ v. 0) (count_up first k)
none_yet first zero = refl
none_yet first (suc k) = ap (λ l. 0 ∷ l) (none_yet (suc first) k)

module _ (g : ℕ → ℕ) (first v : ℕ) (l : List ℕ) where
  pub changed-before : v < first → l ≡ changed g first v l
  changed-before h = rw (lt-leb first v h)

  pub changed-past : first ≤ v → length l ≤ v - first → l ≡ changed g first v l
  changed-past h m = rw (le-leb first v h) (sym (set_out l (v - first) (g (get_or l (v - first) 0)) m))

  pub changed_there : first ≤ v → {x : ℕ} → x ≡ g (get_or l (v - first) 0) → set l (v - first) x ≡ changed g first v l
  changed_there h e = rw (le-leb first v h) (ap (set l (v - first)) e)

  pub changed_kept : first ≤ v → g (get_or l (v - first) 0) ≡ get_or l (v - first) 0 → l ≡ changed g first v l
  changed_kept h e = rw (le-leb first v h, e) (sym (set-get_or l (v - first) 0))

pub as_many : {A : Type 0} (f : ℕ → A) (first k : ℕ) → length (map f (count_up first k)) ≡ k
as_many f first k = length-map (count_up first k) f ∙ length-count_up first k

module _ (f f' g : ℕ → ℕ) (first k v : ℕ) (same : (w : ℕ) → first ≤ w → (v ≡ w → ⊥) → f w ≡ f' w) where
  abbrev before : List ℕ
  before = map f (count_up first k)

  pub unchanged : (first ≤ v → f v ≡ f' v) → map f (count_up first k) ≡ map f' (count_up first k)
  unchanged h = map_same f f' (count_up first k) (all-count_up (λ w. f w ≡ f' w) first k (λ w l m. elim (cases (eqb v w)) [
    | inl e ↦ (let y = eqb-true v w e in rw (← y) (h (omega (arith, y))))
    | inr e ↦ same w l (eqb-false v w e)
  ]))

  -- one entry changes, and no other
  pub one-changed : g (f v) ≡ f' v → changed g first v (map f (count_up first k)) ≡ map f' (count_up first k)
  one-changed h = elim (cases (leb first v)) [
    | inl e ↦ rw e (ext_get_or 0 _ _ (length-set before (v - first) _ ∙ as_many f first k ∙ sym (as_many f' first k)) (λ j l. entry (leb-true first v e) j (omega (arith, length-set before (v - first) (g (get_or before (v - first) 0)), as_many f first k))))
    | inr e ↦ rw e (unchanged (λ l. absurd (omega (arith, leb-false first v e))))
  ]
    where
      entry : first ≤ v → (j : ℕ) → j < k → get_or (set before (v - first) (g (get_or before (v - first) 0))) j 0 ≡ get_or (map f' (count_up first k)) j 0
      entry l j m = elim (cases (eqb j (v - first))) [
        | inl e ↦ (let y = eqb-true j (v - first) e in
            let z : first + (v - first) ≡ v = omega arith in
            rw y (get_or-set_same before (v - first) (g (get_or before (v - first) 0)) 0 (omega (arith, as_many f first k))
            ∙ ap g (counted-at f 0 first k (v - first) (omega arith) ∙ ap f z)
            ∙ h
            ∙ ap f' (sym z)
            ∙ sym (counted-at f' 0 first k (v - first) (omega arith))))
        | inr e ↦ (let y = eqb-false j (v - first) e in
            get_or-set_other before (v - first) j (g (get_or before (v - first) 0)) 0 y
            ∙ counted-at f 0 first k j m
            ∙ same (first + j) (omega arith) (λ z. y (omega (arith, z)))
            ∙ sym (counted-at f' 0 first k j m))
      ]

-- ---- marks
abbrev pub raised : ℕ → ℕ
raised m = if ltb m 2 then m + 1 else m

pub raised-more : (m : ℕ) → m < 2 → m + 1 ≡ raised m
raised-more m h = rw (lt-ltb m 2 h)

pub raised_full : (m : ℕ) → 2 ≤ m → raised m ≡ m
raised_full m h = rw (le-ltb m 2 h)

abbrev pub marks_of : ℕ → ℕ → List ℤ → List ℕ
marks_of first k ns = map (λ v. min (often v ns) 2) (count_up first k)

often_snoc : (v : ℕ) (ns : List ℤ) (z : ℤ) → often v (ns ++ (z ∷ [])) ≡ (if eqb (nat_abs z) v then suc (often v ns) else often v ns)
often_snoc v [] z = refl
often_snoc v (n ∷ ns) z = ap (λ o. if eqb (nat_abs n) v then suc o else o) (often_snoc v ns z) ∙ go (eqb (nat_abs n) v) (eqb (nat_abs z) v) (often v ns)
  where
    go : (a b : Bool) (o : ℕ) → (if a then suc (if b then suc o else o) else (if b then suc o else o)) ≡ (if b then suc (if a then suc o else o) else (if a then suc o else o))
    go true true o = refl
    go true false o = refl
    go false true o = refl
    go false false o = refl

raised-once-more : (o : ℕ) → raised (min o 2) ≡ min (suc o) 2
raised-once-more o = elim (cases (ltb o 2)) [
  | inl e ↦ (let l = ltb-true o 2 e in let y : min o 2 ≡ o = omega arith in rw (y, e) (omega arith))
  | inr e ↦ (let l = ltb-false o 2 e in let y : min o 2 ≡ 2 = omega arith in rw y (omega arith))
]

pub marks_more : (first k : ℕ) (ns : List ℤ) (minus : Bool) (size : ℕ) → changed raised first size (marks_of first k ns) ≡ marks_of first k (ns ++ (number_read (num 0 minus size) ∷ []))
marks_more first k ns minus size = one-changed (λ v. min (often v ns) 2) (λ v. min (often v (ns ++ (z ∷ []))) 2) raised first k size
    (λ w l h. ap (λ o. min o 2) (sym (often_snoc w ns z ∙ ap (λ b. if b then suc (often w ns) else often w ns) (ne_eqb (nat_abs z) w (λ y. h (sym (value-size (num 0 minus size)) ∙ y))))))
    (raised-once-more (often size ns) ∙ ap (λ o. min o 2) (sym (often_snoc size ns z ∙ ap (λ b. if b then suc (often size ns) else often size ns) (eq-eqb (nat_abs z) size (value-size (num 0 minus size))))))
  where
    z : ℤ
    z = number_read (num 0 minus size)

-- ---- the least that is not there once
-- of marks
abbrev pub ones_from : ℕ → List ℕ → Result (Unit {0})
ones_from first marks = each 19 first (map (λ m. eqb m 1) marks)

-- of the k variables from a first one on
abbrev pub once_from : ℕ → ℕ → List ℤ → Result (Unit {0})
once_from first k ns = each 19 first (map (λ v. eqb (often v ns) 1) (count_up first k))

module _ (first : ℕ) (l : List ℕ) (i : ℕ) where
  module _ (h : i < length l) where
    ones_step : ones_from (first + i) (drop i l) ≡ (if eqb (get_or l i 0) 1 then ones_from (suc (first + i)) (drop (suc i) l) else refused 19 (first + i))
    ones_step = ap (ones_from (first + i)) (drop-cons l i 0 h)

    pub ones_fails : (get_or l i 0 ≡ 1 → ⊥) → ones_from (first + i) (drop i l) ≡ refused 19 (first + i)
    ones_fails e = ones_step ∙ rw (ne_eqb (get_or l i 0) 1 e)

    pub ones_goes : get_or l i 0 ≡ 1 → ones_from (first + i) (drop i l) ≡ ones_from (first + (i + 1)) (drop (i + 1) l)
    ones_goes e = let y : suc (first + i) ≡ first + suc i = omega arith in ones_step ∙ rw (eq-eqb (get_or l i 0) 1 e, y, add-one i)

pub ones_end : (first : ℕ) (l : List ℕ) (i : ℕ) → length l ≤ i → ones_from (first + i) (drop i l) ≡ done tt
ones_end first l i h = ap (ones_from (first + i)) (nothing_left l i h)

marked_once : (o : ℕ) → eqb (min o 2) 1 ≡ eqb o 1
marked_once o = elim (cases (eqb o 1)) [
  | inl e ↦ (let y = eqb-true o 1 e in rw y)
  | inr e ↦ (let y = eqb-false o 1 e in rw e (ne_eqb (min o 2) 1 (λ z. y (omega (arith, z)))))
]

marks_tell : (ns : List ℤ) (first k : ℕ) → ones_from first (marks_of first k ns) ≡ once_from first k ns
marks_tell ns first zero = refl
marks_tell ns first (suc k) = rw (marked_once (often first ns)) (ap (λ r. if eqb (often first ns) 1 then r else refused 19 first) (marks_tell ns (suc first) k))

fewer_marks : (ns : List ℤ) (first k n : ℕ) → k ≤ n → take k (marks_of first n ns) ≡ marks_of first k ns
fewer_marks ns first k n h =
    let f : ℕ → ℕ = λ v. min (often v ns) 2 in
    let e : n ≡ k + (n - k) = omega arith in
    ap (λ j. take k (marks_of first j ns)) e
    ∙ ap (λ l. take k (map f l)) (count_up-append first k (n - k))
    ∙ ap (take k) (map-append f (count_up first k) (count_up (first + k) (n - k)))
    ∙ take_at (marks_of first k ns) _ k (as_many f first k)

pub window_tells : (ns : List ℤ) (first k n : ℕ) (marks : List ℕ) → marks ≡ marks_of first n ns → k ≤ n → ones_from first (take k marks) ≡ once_from first k ns
window_tells ns first k n marks e h = ap (λ l. ones_from first (take k l)) e ∙ ap (ones_from first) (fewer_marks ns first k n h) ∙ marks_tell ns first k

-- one window after another
module _ (ns : List ℤ) (first k end : ℕ) (h : k ≤ end - first) where
  abbrev later : Result (Unit {0})
  later = once_from (first + k) (end - (first + k)) ns

  windows : once_from first (end - first) ns ≡ (once_from first k ns >> later)
  windows =
      let e : end - first ≡ k + (end - (first + k)) = omega arith in
      let cut = count_up-append first k (end - (first + k)) in
      rw (e, cut, seek-append 19 (λ v. eqb (often v ns) 1) first (count_up first k) (count_up (first + k) (end - (first + k))), length-count_up first k)

  pub window_passes : once_from first k ns ≡ done tt → once_from first (end - first) ns ≡ once_from (first + k) (end - (first + k)) ns
  window_passes e = windows ∙ ap (λ r. r >> later) e

  pub window_fails : {d : ℕ} → once_from first k ns ≡ refused 19 d → once_from first (end - first) ns ≡ refused 19 d
  window_fails e = windows ∙ ap (λ r. r >> later) e

pub no_window : (ns : List ℤ) (first end : ℕ) → end ≤ first → once_from first (end - first) ns ≡ done tt
no_window ns first end h = let e : end - first ≡ 0 = omega arith in ap (λ k. once_from first k ns) e

-- ---- literals of 1, 2, .. in this order
abbrev pub sought_from : ℕ → ℕ → Bool → ℕ
sought_from N count rising = if rising then min N count + 1 else 1

pub sought-within : (N count : ℕ) (rising : Bool) → sought_from N count rising ≤ N + 1
sought-within N count true = omega arith
sought-within N count false = omega arith

pub sought-all : (N : ℕ) (ns : List ℤ) (rising : Bool) → in_order 1 ns ≡ rising → let first = sought_from N (length ns) rising in once_from first ((N + 1) - first) ns ≡ once_from 1 N ns
sought-all N ns false h = let e : (N + 1) - 1 ≡ N = omega arith in ap (λ k. once_from 1 k ns) e
sought-all N ns true h =
    let m = min N (length ns) in
    let e : (N + 1) - 1 ≡ N = omega arith in
    let f : 1 + m ≡ m + 1 = omega arith in
    let once : once_from 1 m ns ≡ done tt = every_passes (λ v. eqb (often v ns) 1) 1 m (λ v l k. eq-eqb (often v ns) 1 (often-once 1 v ns h l (omega arith))) in
    ap (λ j. once_from j ((N + 1) - j) ns) (sym f) ∙ sym (window_passes ns 1 m (N + 1) (omega arith) once) ∙ ap (λ k. once_from 1 k ns) e
