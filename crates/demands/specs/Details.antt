-- Why a byte is refused, and that a number beyond N is refused at its first byte. Assumes nothing.
use Rattle.std.specs.Prelude.{◌≡◌, refl, ◌⊎◌, Bool, true, false, ◌&&◌, ◌||◌, List, [], ◌∷◌, ◌++◌, ℕ, suc, ◌+◌, ◌*◌, ◌-◌, ◌/◌, ◌%◌, ◌^◌, ◌≤◌, ◌<◌, ltb, leb, eqb, length, ℤ, pos, negsuc, nat_abs, if◌then◌else◌}
use Rattle.std.proofs.Common.{sym, ap, ◌∙◌, subst, inl, inr, append_assoc, arith, lt-ltb, leb-false, ltb-true, ltb-false, length-append}
use Rattle.std.proofs.lemmas.Bool.{lt-leb}
use Rattle.definitions.specs.Result.{Result, ◌>>=◌, ◌>>◌, need, done, refused}
use Rattle.definitions.specs.Dimacs.{ascii, decimal}
use Rattle.laws.specs.Readings.{same, never}
use Rattle.laws.specs.Refusals.{refusal_is}
use Rattle.laws.specs.Decimals.{decimal-one, decimal-more}
use Rattle.definitions.specs.Texts.{numeral, blank, Spaced, nothing, gap, number, zeros, most, first_line}
use Rattle.definitions.specs.TextReading.{digit, Number, number_read, whole, begun, further, longer, grown, Count, count_N, count_M, Kind, text, reply, Reply, model, State, word, count, count_on, verdict, in_number, over, awaits, counted, stops, beyond, step, fed, at_number, unsatisfiable}
use Rattle.laws.specs.Stepping.{cases, fed-append, fed-on, fed-one, num, free, negative, numeral-fed}
use Rattle.demands.specs.Reached.{passed, made, both, digit_is, wide, bytes, whole-bytes, longer-bytes, value-size, Which, of_text, of_reply, Before, Inside, Reached, Narrow, narrow_head, onto}
use Rattle.demands.specs.GoodTexts.{text_start, line-fed, snoc_same, yes}
use Rattle.demands.specs.GoodReplies.{reply_start}

-- ---- bytes that end in a number beyond N, without a leading 0: its first byte stands at d
-- after the first line of text, or after a space or a newline that follows it
pub record TextHead (N : ℕ) (h : List ℕ) : Type 0 where
  pub M : ℕ
  pub small : (N ≤ most) × (M ≤ most)
  pub gap : List ℕ
  pub is : h ≡ first_line N M ++ gap
  pub parts : (gap ≡ []) ⊎ ((u : List ℕ) × ((b : ℕ) × ((gap ≡ u ++ (b ∷ [])) × (blank b ≡ true))))

-- after a space that follows the first line of a reply for N
abbrev pub Head : Which → ℕ → List ℕ → Type 0
Head of_text N h = TextHead N h
Head (of_reply N') N h = (N ≡ N') × ((u : List ℕ) × (h ≡ ascii "s SATISFIABLE\n" ++ (u ++ ascii " ")))

-- below 2^64, where `decimal` has every digit; a number is beyond N by its eleventh digit, so none is left out
pub record Beyond (q : Which) (u : List ℕ) (d : ℕ) : Type 0 where
  pub N : ℕ
  pub head : List ℕ
  pub after : Head q N head
  pub x : ℤ
  pub is : u ≡ head ++ numeral x
  pub starts : d ≡ length head
  pub far : (N < nat_abs x) × (nat_abs x < 2 ^ 64)

-- ---- refused here: at this place, with 18
abbrev pub Here : {A : Type 0} → ℕ → Result A → Type 0
Here at m = (n d : ℕ) → m ≡ refused n d → (n ≡ 18) × (d ≡ at)

module _ {A : Type 0} (at : ℕ) where
  pub here_done : (a : A) → Here at (done a)
  here_done a n d h = never (sym h)

  pub here_refused : Here {A = A} at (refused 18 at)
  here_refused n d h = let r = refusal_is h in (sym r.0, sym r.1)

  pub here_need : (b : Bool) {m : Result A} → Here at m → Here at (need 18 at b >> m)
  here_need true k = k
  here_need false k = here_refused

  here_if : (b : Bool) {m m' : Result A} → Here at m → Here at m' → Here at (if b then m else m')
  here_if true k k' = k
  here_if false k k' = k'

  here_bind : {C : Type 0} (m : Result C) (f : C → Result A) → Here at m → ((c : C) → Here at (f c)) → Here at (m >>= f)
  here_bind (done c) f k k' = k' c
  here_bind (refused n' d') f k k' = λ n d h. let r = refusal_is h in k n d (ap (λ x. refused x d') r.0 ∙ ap (refused n) r.1)

begun_here : (N at b : ℕ) → Here at (begun N at b)
begun_here N at b =
    here_if at (eqb b 45) (here_need at (leb 1 N) (here_done at (num at true 0)))
    (here_need at (digit b && leb (b - 48) N) (here_done at (num at false (b - 48))))

starts_here : (k : Kind) (ns : List ℤ) (at b : ℕ) → Here at (begun (beyond k) at b >>= λ p. done (in_number k ns p))
starts_here k ns at b = here_bind at (begun (beyond k) at b) (λ p. done (in_number k ns p)) (begun_here (beyond k) at b) (λ p. here_done at (in_number k ns p))

counted_here : (c : Count) (v at b : ℕ) → Here at (counted c v at b)
counted_here count_N v at b = here_need at (eqb b 32) (here_done at (count (count_M v)))
counted_here (count_M N) v at b = here_need at (eqb b 10) (here_done at (at_number (text N v) []))

stops_here : (k : Kind) (ns : List ℤ) (p : Number) (at b : ℕ) → Here at (stops k ns p at b)
stops_here (text N M) ns p at b = here_done at (at_number (text N M) (ns ++ (number_read p ∷ [])))
stops_here (reply N) ns p at b =
    here_if at (eqb p.size 0) (here_need at (eqb b 10) (here_done at (over (model ns))))
    (here_done at (awaits (if eqb b 10 then ascii "v " else []) (at_number (reply N) (ns ++ (number_read p ∷ [])))))

-- or where a digit more takes a number beyond N
record Grew (s : State) (b d : ℕ) : Type 0 where
  kind : Kind
  ns : List ℤ
  p : Number
  is : s ≡ in_number kind ns p
  further : further p b ≡ true
  far : beyond kind < (longer p b).size
  starts : d ≡ p.start

step_why : (s : State) (at b n d : ℕ) → step s at b ≡ refused n d → (n ≡ 18) × ((d ≡ at) ⊎ Grew s b d)
step_why (word c cs s) at b n d h = let r = here_need at (eqb b c) (here_done at (awaits cs s)) n d h in (r.0, inl r.1)
step_why (count c) at b n d h = let r = here_need at (digit b) (here_done at (count_on c (b - 48))) n d h in (r.0, inl r.1)
step_why (count_on c v) at b n d h =
    let r = here_if at (ltb 0 v && digit b) (here_need at (leb (10 * v + (b - 48)) most) (here_done at (count_on c (10 * v + (b - 48))))) (counted_here c v at b) n d h in
    (r.0, inl r.1)
step_why (verdict N) at b n d h =
    let r = here_if at (eqb b 85) (here_done at (awaits (ascii "NSATISFIABLE\n") (over unsatisfiable)))
    (here_need at (eqb b 83) (here_done at (awaits (ascii "ATISFIABLE\nv ") (at_number (reply N) [])))) n d h in
    (r.0, inl r.1)
step_why (at_number (text N M) ns) at b n d h =
    let r = here_if at (blank b) (here_done at (at_number (text N M) ns)) (here_need at (ltb (zeros ns) M) (starts_here (text N M) ns at b)) n d h in
    (r.0, inl r.1)
step_why (at_number (reply N) ns) at b n d h = let r = starts_here (reply N) ns at b n d h in (r.0, inl r.1)
step_why (in_number k ns p) at b n d h = elim (cases (blank b)) [
  | inl e ↦ (let r = here_need at (whole p) (stops_here k ns p at b) n d (rw e at h) in (r.0, inl r.1))
  | inr e ↦ elim (cases (further p b)) [
    | inr f ↦ (let r = refusal_is (rw (e, f) at h) in (sym r.0, inl (sym r.1)))
    | inl f ↦ elim (cases (leb (longer p b).size (beyond k))) [
      | inl g ↦ never (sym (rw (e, f, g) at h))
      | inr g ↦ (let r = refusal_is (rw (e, f, g) at h) in
          (sym r.0, inr (record { kind = k; ns = ns; p = p; is = refl; further = f; far = leb-false (longer p b).size (beyond k) g; starts = sym r.1 })))
    ]
  ]
]
step_why (over r) at b n d h = let r = here_refused at n d h in (r.0, inl r.1)

-- ---- of the bytes read so far
parted : {f : Bool} {ns : List ℤ} {t : List ℕ} → Spaced f ns t → f ≡ true → (t ≡ []) ⊎ ((u : List ℕ) × ((b : ℕ) × ((t ≡ u ++ (b ∷ [])) × (blank b ≡ true))))
parted nothing e = inl refl
parted (gap b w {t = t} s) e = inr (t, (b, (refl, yes (blank b) w)))
parted (number n s) e = absurd (let z : ◌≡◌ {A = ℕ} 0 1 = cc in omega arith)

head_of : (q : Which) (k : Kind) (ns : List ℤ) (h : List ℕ) → Before q k ns h → Head q (beyond k) h
head_of of_text (text N M) ns h r = let t = r.1 in record { M = M; small = t.small; gap = t.body; is = t.lined; parts = parted t.spaced refl }
head_of of_text (reply N) ns h r = absurd r.0
head_of (of_reply N') (text N M) ns h r = absurd r.0
head_of (of_reply N') (reply N) ns h r = (r.0, (r.1.parted.0, r.1.lined ∙ ap (λ x. ascii "s SATISFIABLE\n" ++ x) r.1.parted.1))

digit-small : (p : Number) (b : ℕ) → further p b ≡ true → b - 48 < 10
digit-small p b f = (digit_is b (both (digit b) (ltb 0 p.size || (p.minus && ltb 48 b)) f).0).1

module _ (q : Which) (narrow : Narrow q) where
  grew_beyond : (w : List ℕ) (b d : ℕ) (k : Kind) (ns : List ℤ) (p : Number) → Inside q k ns p w → further p b ≡ true → beyond k < (longer p b).size → d ≡ p.start
      → Beyond q (w ++ (b ∷ [])) d × (d ≤ length w)
  grew_beyond w b d k ns p i f g e =
      let wide-size : p.size ≤ wide = omega (arith, narrow_head q narrow k ns i.head i.before, i.small) in
      let wide-digit : b - 48 < 10 = digit-small p b f in
      let y : Number = longer p b in
      let z : whole y ≡ true = rw (lt-ltb 0 y.size (omega (arith, g))) in (
        record {
          N = beyond k;
          head = i.head;
          after = head_of q k ns i.head i.before;
          x = number_read y;
          is = onto i.head (bytes p) b i.is ∙ ap (λ x. i.head ++ x) (sym (longer-bytes p b wide-size f) ∙ whole-bytes y z);
          starts = e ∙ i.begins;
          far = (omega (arith, value-size y, g), omega (arith, value-size y, wide-size, wide-digit));
        },
        omega (arith, e, i.begins, ap length i.is, length-append i.head (bytes p)),
      )

  pub why_refused : (w : List ℕ) (s : State) (b n d : ℕ) → Reached q s w → step s (length w) b ≡ refused n d
      → (n ≡ 18) × ((d ≡ length w) ⊎ (Beyond q (w ++ (b ∷ [])) d × (d ≤ length w)))
  why_refused w s b n d r h =
      let y = step_why s (length w) b n d h in (
        y.0,
        elim y.1 [
          | inl e ↦ inl e
          | inr g ↦ inr (grew_beyond w b d g.kind g.ns g.p (subst (λ s. Reached q s w) g.is r) g.further g.far g.starts)
        ],
      )

-- ---- and of a number beyond N, where one may begin
decimal-last : (v : ℕ) → v < 2 ^ 64 → (u : List ℕ) × ((c : ℕ) × (decimal v ≡ u ++ (c ∷ [])))
decimal-last v m = elim (cases (ltb v 10)) [
  | inl e ↦ ([], (48 + v, decimal-one v (ltb-true v 10 e)))
  | inr e ↦ (decimal (v / 10), (48 + v % 10, decimal-more v m (ltb-false v 10 e)))
]

none_free : (at : ℕ) (g : Bool) (s : State) → (need 18 at (g && false) >> done s) ≡ refused 18 at
none_free at true s = refl
none_free at false s = refl

numeral-last : (x : ℤ) → nat_abs x < 2 ^ 64 → (u : List ℕ) × ((c : ℕ) × (numeral x ≡ u ++ (c ∷ [])))
numeral-last (pos v) m = decimal-last v m
numeral-last (negsuc v) m = let k = decimal-last (suc v) m in (45 ∷ k.0, (k.1.0, ap (λ z. 45 ∷ z) k.1.1))

split_done : (t u : List ℕ) (s : State) (at : ℕ) {s' : State} → fed s at (t ++ u) ≡ done s' → (s₁ : State) × ((fed s at t ≡ done s₁) × (fed s₁ (at + length t) u ≡ done s'))
split_done t u s at h = made (fed s at t) (λ s₁. fed s₁ (at + length t) u) (sym (fed-append t u s at) ∙ h)

-- a number beyond N, where one may begin, is refused at its first byte
far_refused : (k : Kind) (ns : List ℤ) (at : ℕ) (x : ℤ) → beyond k < nat_abs x → nat_abs x < 2 ^ 64 → fed (at_number k ns) at (numeral x) ≡ refused 18 at
far_refused k ns at x far m =
    numeral-fed k ns at x m ∙ rw (lt-leb (nat_abs x) (beyond k) far) (none_free at (free k ns) (in_number k ns (num at (negative x) (nat_abs x))))

-- where a number may begin
abbrev pub Free : ℕ → State → Type 0
Free N s = (k : Kind) × ((ns : List ℤ) × ((s ≡ at_number k ns) × (beyond k ≡ N)))

free_refused : (N : ℕ) (s : State) (at : ℕ) (x : ℤ) → Free N s → N < nat_abs x → nat_abs x < 2 ^ 64 → fed s at (numeral x) ≡ refused 18 at
free_refused N s at x f far m = ap (λ s. fed s at (numeral x)) f.1.1.0 ∙ far_refused f.0 f.1.0 at x (omega (arith, f.1.1.1, far)) m

module _ (start : State) (head : List ℕ) {N : ℕ} (places : (s : State) → fed start 0 head ≡ done s → Free N s) where
  pub beyond_refused : (t : List ℕ) (b : ℕ) (s : State) (x : ℤ) (n d : ℕ) → N < nat_abs x → nat_abs x < 2 ^ 64 → t ++ (b ∷ []) ≡ head ++ numeral x
      → fed start 0 t ≡ done s → fed start 0 (t ++ (b ∷ [])) ≡ refused n d → d ≡ length head
  beyond_refused t b s x n d far m is r h =
      let l = numeral-last x m in
      let e : t ≡ head ++ l.0 = snoc_same t (head ++ l.0) b l.1.0 (is ∙ ap (λ z. head ++ z) l.1.1 ∙ sym (append_assoc head l.0 (l.1.0 ∷ []))) in
      let i = split_done head l.0 start 0 (ap (fed start 0) (sym e) ∙ r) in
      let f = free_refused N i.0 (0 + length head) x (places i.0 i.1.0) far m in
      let y = refusal_is (sym h ∙ ap (fed start 0) is ∙ fed-on head (numeral x) start 0 i.1.0 f) in
      omega (arith, y.1)

-- ---- the states of text after its first line, and of a reply after its own
module _ (P : State → Type 0) (keeps : (s : State) (at b : ℕ) (s' : State) → P s → step s at b ≡ done s' → P s') where
  stays : (t : List ℕ) (s : State) (at : ℕ) (s' : State) → P s → fed s at t ≡ done s' → P s'
  stays [] s at s' p h = subst P (same h) p
  stays (b ∷ t) s at s' p h = let m = made (step s at b) (λ s''. fed s'' (suc at) t) h in stays t m.0 (suc at) s' (keeps s at b m.0 p m.1.0) m.1.1

data Listing (N M : ℕ) : State → Type 0 where
  text_free : (ns : List ℤ) → Listing N M (at_number (text N M) ns)
  text_inside : (ns : List ℤ) (p : Number) → Listing N M (in_number (text N M) ns p)

data Saying (N : ℕ) : State → Type 0 where
  reply_letter : (ns : List ℤ) → Saying N (word 118 (32 ∷ []) (at_number (reply N) ns))
  reply_space : (ns : List ℤ) → Saying N (word 32 [] (at_number (reply N) ns))
  reply_free : (ns : List ℤ) → Saying N (at_number (reply N) ns)
  reply_inside : (ns : List ℤ) (p : Number) → Saying N (in_number (reply N) ns p)
  reply_over : (r : Reply) → Saying N (over r)

module _ (N M : ℕ) where
  listing_keeps : (s : State) (at b : ℕ) (s' : State) → Listing N M s → step s at b ≡ done s' → Listing N M s'
  listing_keeps s at b s' (text_free ns) h = elim (cases (blank b)) [
    | inl e ↦ subst (Listing N M) (same (rw e at h)) (text_free ns)
    | inr e ↦ (let k = passed at (ltb (zeros ns) M) (begun N at b >>= λ p. done (in_number (text N M) ns p)) (rw e at h) in
        let m = made (begun N at b) (λ p. done (in_number (text N M) ns p)) k.1 in
        subst (Listing N M) (same m.1.1) (text_inside ns m.0))
  ]
  listing_keeps s at b s' (text_inside ns p) h = elim (cases (blank b)) [
    | inl e ↦ subst (Listing N M) (same (passed at (whole p) (done (at_number (text N M) (ns ++ (number_read p ∷ [])))) (rw e at h)).1) (text_free (ns ++ (number_read p ∷ [])))
    | inr e ↦ (let m = made (grown N p at b) (λ p. done (in_number (text N M) ns p)) (rw e at h) in subst (Listing N M) (same m.1.1) (text_inside ns m.0))
  ]

  listing_blank : (s : State) (at b : ℕ) (s' : State) → Listing N M s → blank b ≡ true → step s at b ≡ done s' → (ns : List ℤ) × (s' ≡ at_number (text N M) ns)
  listing_blank s at b s' (text_free ns) e h = (ns, sym (same (rw e at h)))
  listing_blank s at b s' (text_inside ns p) e h = (ns ++ (number_read p ∷ []), sym (same (passed at (whole p) (done (at_number (text N M) (ns ++ (number_read p ∷ [])))) (rw e at h)).1))

pub text_head : (N : ℕ) (h : List ℕ) → TextHead N h → (s : State) → fed text_start 0 h ≡ done s → Free N s
text_head N h t s e =
    let M = t.M in
    let line : List ℕ = first_line N M in
    let i = split_done line t.gap text_start 0 (ap (fed text_start 0) (sym t.is) ∙ e) in
    let first : at_number (text N M) [] ≡ i.0 = same (sym (line-fed N M t.small.0 t.small.1) ∙ i.1.0) in
    let free : fed (at_number (text N M) []) (0 + length line) t.gap ≡ done s = ap (λ s. fed s (0 + length line) t.gap) first ∙ i.1.1 in
    elim t.parts [
      | inl g ↦ (text N M, ([], (sym (same (ap (fed (at_number (text N M) []) (0 + length line)) (sym g) ∙ free)), refl)))
      | inr g ↦ (let u = g.0 in
          let b = g.1.0 in
          let j = split_done u (b ∷ []) (at_number (text N M) []) (0 + length line) (ap (fed (at_number (text N M) []) (0 + length line)) (sym g.1.1.0) ∙ free) in
          let l = stays (Listing N M) (listing_keeps N M) u (at_number (text N M) []) (0 + length line) j.0 (text_free []) j.1.0 in
          let on : ℕ = 0 + length line + length u in
          let z = listing_blank N M j.0 on b s l g.1.1.1 (sym (fed-one j.0 on b) ∙ j.1.1) in
          (text N M, (z.0, (z.1, refl))))
    ]

module _ (N : ℕ) where
  saying_keeps : (s : State) (at b : ℕ) (s' : State) → Saying N s → step s at b ≡ done s' → Saying N s'
  saying_keeps s at b s' (reply_letter ns) h = subst (Saying N) (same (passed at (eqb b 118) (done (word 32 [] (at_number (reply N) ns))) h).1) (reply_space ns)
  saying_keeps s at b s' (reply_space ns) h = subst (Saying N) (same (passed at (eqb b 32) (done (at_number (reply N) ns)) h).1) (reply_free ns)
  saying_keeps s at b s' (reply_free ns) h = let m = made (begun N at b) (λ p. done (in_number (reply N) ns p)) h in subst (Saying N) (same m.1.1) (reply_inside ns m.0)
  saying_keeps s at b s' (reply_inside ns p) h = elim (cases (blank b)) [
    | inr e ↦ (let m = made (grown N p at b) (λ p. done (in_number (reply N) ns p)) (rw e at h) in subst (Saying N) (same m.1.1) (reply_inside ns m.0))
    | inl e ↦ (let k = (passed at (whole p) (stops (reply N) ns p at b) (rw e at h)).1 in
        elim (cases (eqb p.size 0)) [
          | inl f ↦ subst (Saying N) (same (passed at (eqb b 10) (done (over (model ns))) (rw f at k)).1) (reply_over (model ns))
          | inr f ↦ elim (cases (eqb b 10)) [
            | inl g ↦ subst (Saying N) (same (rw (f, g) at k)) (reply_letter (ns ++ (number_read p ∷ [])))
            | inr g ↦ subst (Saying N) (same (rw (f, g) at k)) (reply_free (ns ++ (number_read p ∷ [])))
          ]
        ])
  ]
  saying_keeps s at b s' (reply_over r) h = never h

  saying_space : (s : State) (at : ℕ) (s' : State) → Saying N s → step s at 32 ≡ done s' → (ns : List ℤ) × (s' ≡ at_number (reply N) ns)
  saying_space s at s' (reply_letter ns) h = never h
  saying_space s at s' (reply_space ns) h = (ns, sym (same h))
  saying_space s at s' (reply_free ns) h = never h
  saying_space s at s' (reply_inside ns p) h =
      let k = (passed at (whole p) (stops (reply N) ns p at 32) h).1 in
      elim (cases (eqb p.size 0)) [
        | inl f ↦ never (rw f at k)
        | inr f ↦ (ns ++ (number_read p ∷ []), sym (same (rw f at k)))
      ]
  saying_space s at s' (reply_over r) h = never h

  pub reply_head : (u h : List ℕ) → h ≡ ascii "s SATISFIABLE\n" ++ (u ++ ascii " ") → (s : State) → fed (reply_start N) 0 h ≡ done s → Free N s
  reply_head u h is s e =
      let lines : State = awaits (ascii "v ") (at_number (reply N) []) in
      let i = split_done (ascii "s SATISFIABLE\n") (u ++ ascii " ") (reply_start N) 0 (ap (fed (reply_start N) 0) (sym is) ∙ e) in
      let first : lines ≡ i.0 = same i.1.0 in
      let free : fed lines 14 (u ++ ascii " ") ≡ done s = ap (λ s. fed s 14 (u ++ ascii " ")) first ∙ i.1.1 in
      let j = split_done u (ascii " ") lines 14 free in
      let l = stays (Saying N) saying_keeps u lines 14 j.0 (reply_letter []) j.1.0 in
      let z = saying_space j.0 (14 + length u) s l (sym (fed-one j.0 (14 + length u) 32) ∙ j.1.1) in
      (reply N, (z.0, (z.1, refl)))
