-- Text is read as N, M and a list exactly if it is good for them (02, P2). Assumes nothing.
use Rattle.std.specs.Prelude.{◌≡◌, refl, ◌↔◌, Bool, true, false, ◌&&◌, ℕ, zero, suc, ◌+◌, ◌≤◌, ◌<◌, T, eqb, length, ℤ, pos, negsuc, nat_abs}
use Rattle.std.proofs.Common.{sym, ap, ◌∙◌, subst, inl, inr, arith, lt-ltb, le-leb, eq-eqb, eqb-true, length-append}
use mathlib.Core.List.{List, [], ◌∷◌, ◌++◌, append_assoc}
use Rattle.definitions.specs.Tools.{All}
use Rattle.definitions.specs.Result.{◌>>=◌, done}
use Rattle.definitions.specs.Dimacs.{ascii, decimal}
use Rattle.laws.specs.Readings.{same, never}
use Rattle.laws.specs.Lists.{all_append, append-all}
use Rattle.definitions.specs.Texts.{numeral, blank, Spaced, nothing, gap, number, zeros, Ended, most, first_line, GoodText}
use Rattle.definitions.specs.TextReading.{digit, Number, number_read, whole, Count, count_N, count_M, Kind, text, reply, State, word, count, count_on, verdict, in_number, over, awaits, counted, beyond, step, fed, Read, end_text, read_text, at_number}
use Rattle.laws.specs.Stepping.{fed-on, fed-awaits, count-fed, num, free, negative, numeral-fed}
use Rattle.demands.specs.Reached.{passed, made, both, wide, bytes, whole-bytes, value-size, zeros-append, more_room, of_text, Reached, all_kept}

abbrev pub text_start : State
text_start = awaits (ascii "p cnf ") (count count_N)

-- ---- only good text is read
module _ (t : List ℕ) (r : Read) where
  abbrev Good : Read → Type 0
  Good r = GoodText r.n r.m r.list t

  ends_good : (s : State) → Reached of_text s t → end_text (length t) s ≡ done r → Good r
  ends_good (at_number (text N M) ns) i h =
      let k = passed (length t) (eqb (zeros ns) M) (done (record { n = N; m = M; list = ns })) h in
      let z = eqb-true (zeros ns) M k.0 in
      let b = i.1 in
      subst Good (same k.1) (record { small = b.small; body = b.body; lined = b.lined; free = true; spaced = b.spaced; known = b.known; clauses = z; ended = b.room.ended z })
  ends_good (in_number (text N M) ns p) i h =
      let n = number_read p in
      let all : List ℤ = ns ++ (n ∷ []) in
      let k = passed (length t) (whole p && eqb (zeros all) M) (done (record { n = N; m = M; list = all })) h in
      let l = both (whole p) (eqb (zeros all) M) k.0 in
      let z = eqb-true (zeros all) M l.1 in
      let b = i.before.1 in
      subst Good (same k.1) (record {
        small = b.small;
        body = b.body ++ numeral n;
        lined = i.is ∙ ap (λ x. x ++ bytes p) b.lined ∙ ap (λ x. (first_line N M ++ b.body) ++ x) (whole-bytes p l.0) ∙ append_assoc (first_line N M) b.body (numeral n);
        free = false;
        spaced = number n b.spaced;
        known = all_append (λ n. nat_abs n ≤ N) ns (n ∷ []) b.known (rw (value-size p) i.small, tt);
        clauses = z;
        ended = (more_room M ns n i.more).ended z;
      })
  ends_good (at_number (reply N) ns) i h = never h
  ends_good (in_number (reply N) ns p) i h = never h
  ends_good (word c cs s) i h = never h
  ends_good (count c) i h = never h
  ends_good (count_on c v) i h = never h
  ends_good (verdict N) i h = never h
  ends_good (over r') i h = never h

  pub only_good_text_is_read : read_text t ≡ done r → GoodText r.n r.m r.list t
  unfolding read_text
  only_good_text_is_read h =
      let m = made (fed text_start 0 t) (end_text (length t)) h in
      ends_good m.0 (all_kept of_text (λ N o. absurd o) t text_start [] m.0 (tt, refl) m.1.0) m.1.1

-- ---- good text is read
pub count_ends : (c : Count) (v at b : ℕ) → digit b ≡ false → step (count_on c v) at b ≡ counted c v at b
count_ends c zero at b e = refl
count_ends c (suc v) at b e = rw (lt-ltb 0 (suc v) (omega arith), e)

line-parts : (N M : ℕ) → first_line N M ≡ ascii "p cnf " ++ (decimal N ++ (32 ∷ (decimal M ++ (10 ∷ []))))
line-parts N M = simp append_assoc

pub line-fed : (N M : ℕ) → N ≤ most → M ≤ most → fed text_start 0 (first_line N M) ≡ done (at_number (text N M) [])
line-fed N M n m =
    let after_m : List ℕ = 10 ∷ [] in
    let afterN : List ℕ = 32 ∷ (decimal M ++ after_m) in
    let atM : ℕ = suc (6 + length (decimal N)) in
    ap (fed text_start 0) (line-parts N M)
    ∙ fed-on (ascii "p cnf ") (decimal N ++ afterN) text_start 0 (fed-awaits (ascii "p cnf ") (count count_N) 0)
    (fed-on (decimal N) afterN (count count_N) 6 (count-fed count_N 6 N N (omega arith) n)
    (ap (λ r. r >>= λ s. fed s atM (decimal M ++ after_m)) (count_ends count_N N (6 + length (decimal N)) 32 refl)
    ∙ fed-on (decimal M) after_m (count (count_M N)) atM (count-fed (count_M N) atM M M (omega arith) m)
    (ap (λ r. r >>= λ s. fed s (suc (atM + length (decimal M))) []) (count_ends (count_M N) M (atM + length (decimal M)) 10 refl))))

-- a number, when it has been read
abbrev pub number_at : ℕ → ℤ → Number
number_at at x = num at (negative x) (nat_abs x)

pub numeral-whole : (at : ℕ) (x : ℤ) → (whole (number_at at x) ≡ true) × (number_read (number_at at x) ≡ x)
numeral-whole at (pos zero) = (refl, refl)
numeral-whole at (pos (suc v)) = (rw (lt-ltb 0 (suc v) (omega arith)), refl)
numeral-whole at (negsuc v) = (rw (lt-ltb 0 (suc v) (omega arith)), refl)

pub number_read_lem : (k : Kind) (ns : List ℤ) (at : ℕ) (x : ℤ) → free k ns ≡ true → nat_abs x ≤ beyond k → beyond k ≤ wide
    → fed (at_number k ns) at (numeral x) ≡ done (in_number k ns (number_at at x))
number_read_lem k ns at x f l w = numeral-fed k ns at x (omega arith) ∙ rw (f, le-leb (nat_abs x) (beyond k) l)

-- ---- the numbers, one after another
-- every number begins before clause M has ended
abbrev Fits : ℕ → List ℤ → Type 0
Fits M ns = (ms : List ℤ) (n : ℤ) → ns ≡ ms ++ (n ∷ []) → zeros ms < M

-- one list with a last number, written twice
pub snoc_same : {A : Type 0} (k l : List A) (x y : A) → k ++ (x ∷ []) ≡ l ++ (y ∷ []) → k ≡ l
snoc_same [] [] x y e = refl
snoc_same [] (b ∷ l) x y e = absurd (omega (arith, ap length e, length-append l (y ∷ [])))
snoc_same (a ∷ k) [] x y e = absurd (omega (arith, ap length e, length-append k (x ∷ [])))
snoc_same (a ∷ k) (b ∷ l) x y e =
    let h : a ≡ b = cc in
    let t : k ++ (x ∷ []) ≡ l ++ (y ∷ []) = cc in
    ap (λ z. z ∷ k) h ∙ ap (λ z. b ∷ z) (snoc_same k l x y t)

pub yes : (b : Bool) → T b → b ≡ true
yes true t = refl
yes false t = absurd t

module _ (N M : ℕ) (small : N ≤ most) where
  -- where a number may follow, and where one has just been read
  abbrev Said : Bool → List ℤ → State → Type 0
  Said true ns s = s ≡ at_number (text N M) ns
  Said false ns s = (ms : List ℤ) × ((p : Number) × ((s ≡ in_number (text N M) ms p) × ((whole p ≡ true) × (ns ≡ ms ++ (number_read p ∷ [])))))

  blank-read : (f : Bool) (ns : List ℤ) (s : State) (at b : ℕ) → Said f ns s → blank b ≡ true → fed s at (b ∷ []) ≡ done (at_number (text N M) ns)
  blank-read true ns s at b e w = ap (λ s. fed s at (b ∷ [])) e ∙ rw w
  blank-read false ns s at b e w =
      let p = e.1.0 in
      let i = e.1.1 in
      ap (λ s. fed s at (b ∷ [])) i.0 ∙ rw (w, i.1.0) (ap (λ l. done (at_number (text N M) l)) (sym i.1.1))

  spaced_read : {f : Bool} {ns : List ℤ} {u : List ℕ} → Spaced f ns u → All (λ n. nat_abs n ≤ N) ns → Fits M ns → (at : ℕ)
      → (s : State) × ((fed (at_number (text N M) []) at u ≡ done s) × Said f ns s)
  spaced_read nothing a z at = (at_number (text N M) [], (refl, refl))
  spaced_read (gap b w {free = f} {ns = ns} {t = t} s) a z at =
      let k = spaced_read s a z at in
      (at_number (text N M) ns, (fed-on t (b ∷ []) (at_number (text N M) []) at k.1.0 (blank-read f ns k.0 (at + length t) b k.1.1 (yes (blank b) w)), refl))
  spaced_read (number n {ns = ns} {t = t} s) a z at =
      let room = z ns n refl in
      let both = append-all (λ n. nat_abs n ≤ N) ns (n ∷ []) a in
      let k = spaced_read s both.0 (λ ms m e. omega (arith, room, ap zeros e, zeros-append ms (m ∷ []))) at in
      let e : fed (at_number (text N M) []) at t ≡ done (at_number (text N M) ns) = k.1.0 ∙ ap done k.1.1 in
      let p = number_at (at + length t) n in
      let v = numeral-whole (at + length t) n in (
        in_number (text N M) ns p,
        (
          fed-on t (numeral n) (at_number (text N M) []) at e
              (number_read_lem (text N M) ns (at + length t) n (lt-ltb (zeros ns) M room) both.1.0 (omega arith)),
          (ns, (p, (refl, (v.0, ap (λ x. ns ++ (x ∷ [])) (sym v.1))))),
        ),
      )

  ends_done : (f : Bool) (ns : List ℤ) (s : State) (at : ℕ) → Said f ns s → zeros ns ≡ M → end_text at s ≡ done (record { n = N; m = M; list = ns })
  ends_done true ns s at e z = ap (end_text at) e ∙ rw (eq-eqb (zeros ns) M z)
  ends_done false ns s at e z =
      let i = e.1.1 in
      let all : List ℤ = e.0 ++ (number_read e.1.0 ∷ []) in
      ap (end_text at) i.0
      ∙ rw (i.1.0, eq-eqb (zeros all) M (ap zeros (sym i.1.1) ∙ z))
      (ap (λ l. done (record { n = N; m = M; list = l })) (sym i.1.1))

-- the last number ends the last clause
fits_ended : (M : ℕ) (ns : List ℤ) → zeros ns ≡ M → Ended ns → Fits M ns
fits_ended M ns z (inl e) ms n h = absurd (omega (arith, ap length (sym e ∙ h), length-append ms (n ∷ [])))
fits_ended M ns z (inr e) ms n h =
    let l = snoc_same ms e.0 n (pos 0) (sym h ∙ e.1) in
    omega (arith, z, ap zeros e.1, zeros-append e.0 (pos 0 ∷ []), ap zeros l)

pub good_text_is_read : (N M : ℕ) (ns : List ℤ) (t : List ℕ) → GoodText N M ns t → read_text t ≡ done (record { n = N; m = M; list = ns })
unfolding read_text
good_text_is_read N M ns t g =
    let n = g.small.0 in
    let line = line-fed N M n g.small.1 in
    let k = spaced_read N M n g.spaced g.known (fits_ended M ns g.clauses g.ended) (0 + length (first_line N M)) in
    ap (λ r. r >>= end_text (length t)) (ap (fed text_start 0) g.lined ∙ fed-on (first_line N M) g.body text_start 0 line k.1.0)
    ∙ ends_done N M n g.free ns k.0 (length t) k.1.1 g.clauses

-- text is read as N, M and a list exactly if it is good for them
pub text_is_read_exactly_if_good : (N M : ℕ) (ns : List ℤ) (t : List ℕ) → (read_text t ≡ done (record { n = N; m = M; list = ns })) ↔ GoodText N M ns t
text_is_read_exactly_if_good N M ns t = (only_good_text_is_read t (record { n = N; m = M; list = ns }), good_text_is_read N M ns t)
