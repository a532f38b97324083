-- What the bytes read so far are, in each state: a beginning of text or of a reply. Assumes nothing.
use Rattle.std.specs.Prelude.{◌≡◌, refl, ◌⊎◌, Bool, true, false, not, ◌&&◌, ◌||◌, List, [], ◌∷◌, ◌++◌, ℕ, zero, suc, ◌+◌, ◌*◌, ◌-◌, ◌/◌, ◌%◌, ◌≤◌, ◌<◌, T, ltb, leb, eqb, length, ℤ, pos, negsuc, nat_abs, if◌then◌else◌}
use Rattle.std.proofs.Common.{sym, ap, ◌∙◌, subst, inl, inr, append_assoc, append-nil, arith, ne_eqb, eqb-true, ltb-true, leb-true, length-append}
use Rattle.std.proofs.lemmas.Bool.{eqb-false}
use Rattle.std.proofs.Math.Dec.{leb-suc-zero}
use Rattle.definitions.specs.Tools.{All, neg, eq_z}
use Rattle.definitions.specs.Result.{Result, ◌>>=◌, ◌>>◌, need, done, refused}
use Rattle.definitions.specs.Dimacs.{ascii, decimal}
use Rattle.laws.specs.Readings.{same, never}
use Rattle.laws.specs.Lists.{all_append}
use Rattle.laws.specs.Decimals.{decimal-one, decimal-more}
use Rattle.definitions.specs.Texts.{numeral, blank, Spaced, nothing, gap, number, zeros, Ended, most, first_line, Values, first, on_line, new_line, GoodReply, no_model}
use Rattle.definitions.specs.TextReading.{digit, Number, number_read, whole, begun, further, longer, grown, Count, count_N, count_M, Kind, text, reply, model, State, word, count, count_on, verdict, in_number, over, awaits, counted, stops, beyond, step, fed, at_number, unsatisfiable}
use Rattle.laws.specs.Stepping.{cases, num, free}

-- ---- what a step that was passed tells
module _ {A : Type 0} where
  pub passed : (d : ℕ) (b : Bool) (m : Result A) {a : A} → (need 18 d b >> m) ≡ done a → (b ≡ true) × (m ≡ done a)
  passed d true m h = (refl, h)
  passed d false m h = never h

  pub made : {C : Type 0} (m : Result A) (f : A → Result C) {c : C} → (m >>= f) ≡ done c → (a : A) × ((m ≡ done a) × (f a ≡ done c))
  made (done a) f h = (a, (refl, h))
  made (refused n d) f h = never h

pub both : (b c : Bool) → (b && c) ≡ true → (b ≡ true) × (c ≡ true)
both true c h = (refl, h)
both false c h = absurd (let z : ◌≡◌ {A = Bool} false true = h in let n : ◌≡◌ {A = ℕ} 0 1 = cc in omega arith)

is_true_lem : (b : Bool) → b ≡ true → T b
is_true_lem b e = rw e tt

-- ---- digits
pub digit_is : (b : ℕ) → digit b ≡ true → (48 + (b - 48) ≡ b) × (b - 48 < 10)
digit_is b h =
    let l = both (leb 48 b) (leb b 57) h in
    let m = leb-true 48 b l.0 in
    let k = leb-true b 57 l.1 in
    (omega arith, omega arith)

decimal-first : (b : ℕ) → digit b ≡ true → decimal (b - 48) ≡ b ∷ []
decimal-first b h = let d = digit_is b h in decimal-one (b - 48) d.1 ∙ ap (λ c. c ∷ []) d.0

-- any number of 32 bits
abbrev pub wide : ℕ
wide = 4294967295

decimal-longer : (v b : ℕ) → 1 ≤ v → v ≤ wide → digit b ≡ true → decimal (10 * v + (b - 48)) ≡ decimal v ++ (b ∷ [])
decimal-longer v b l s h =
    let d = digit_is b h in
    let n : ℕ = 10 * v + (b - 48) in
    let q : n / 10 ≡ v = omega (arith, d.1) in
    let m : 48 + n % 10 ≡ b = omega (arith, d.0, d.1) in
    decimal-more n (omega (arith, d.1)) (omega arith) ∙ ap (λ x. decimal x ++ ((48 + n % 10) ∷ [])) q ∙ ap (λ c. decimal v ++ (c ∷ [])) m

-- ---- a number that is being read, as its bytes
abbrev pub bytes : Number → List ℕ
bytes p = if p.minus then 45 ∷ (if eqb p.size 0 then [] else decimal p.size) else decimal p.size

pub whole-bytes : (p : Number) → whole p ≡ true → bytes p ≡ numeral (number_read p)
whole-bytes p h = go p.minus p.size h
  where
    go : (m : Bool) (v : ℕ) → (ltb 0 v || not m) ≡ true → (if m then 45 ∷ (if eqb v 0 then [] else decimal v) else decimal v) ≡ numeral (if m then neg v else pos v)
    go false v h = refl
    go true zero h = absurd (let n : ◌≡◌ {A = ℕ} 0 1 = cc in omega arith)
    go true (suc v) h = rw (ne_eqb (suc v) 0 (λ e. omega arith))

-- one digit more
pub longer-bytes : (p : Number) (b : ℕ) → p.size ≤ wide → further p b ≡ true → bytes (longer p b) ≡ bytes p ++ (b ∷ [])
longer-bytes p b s h =
    let o = both (digit b) (ltb 0 p.size || (p.minus && ltb 48 b)) h in
    go p.minus p.size s o.1 o.0
  where
    go : (m : Bool) (v : ℕ) → v ≤ wide → (ltb 0 v || (m && ltb 48 b)) ≡ true → digit b ≡ true
        → (if m then 45 ∷ (if eqb (10 * v + (b - 48)) 0 then [] else decimal (10 * v + (b - 48))) else decimal (10 * v + (b - 48)))
        ≡ (if m then 45 ∷ (if eqb v 0 then [] else decimal v) else decimal v) ++ (b ∷ [])
    go false zero s o d = absurd (let n : ◌≡◌ {A = ℕ} 0 1 = cc in omega arith)
    go false (suc v) s o d = decimal-longer (suc v) b (omega arith) s d
    go true zero s o d =
        let l = ltb-true 48 b o in
        let e : 10 * 0 + (b - 48) ≡ b - 48 = omega arith in
        rw (e, ne_eqb (b - 48) 0 (λ z. omega arith), decimal-first b d)
    go true (suc v) s o d = rw (ne_eqb (10 * suc v + (b - 48)) 0 (λ z. omega arith), ne_eqb (suc v) 0 (λ z. omega arith), decimal-longer (suc v) b (omega arith) s d)

pub value-size : (p : Number) → nat_abs (number_read p) ≡ p.size
value-size p = go p.minus p.size
  where
    go : (m : Bool) (v : ℕ) → nat_abs (if m then neg v else pos v) ≡ v
    go true zero = refl
    go true (suc v) = refl
    go false v = refl

-- the first byte
record Fresh (N at b : ℕ) (p : Number) : Type 0 where
  is : bytes p ≡ b ∷ []
  small : p.size ≤ N
  begins : p.start ≡ at
  room : p.minus ≡ true → 1 ≤ N

begun_fresh : (N at b : ℕ) (p : Number) → begun N at b ≡ done p → Fresh N at b p
begun_fresh N at b p h = elim (cases (eqb b 45)) [
  | inl e ↦ (let k = passed at (leb 1 N) (done (num at true 0)) (rw e at h) in
      let m = leb-true 1 N k.0 in
      subst (Fresh N at b) (same k.1) (record { is = ap (λ c. c ∷ []) (sym (eqb-true b 45 e)); small = omega arith; begins = refl; room = λ z. m }))
  | inr e ↦ (let k = passed at (digit b && leb (b - 48) N) (done (num at false (b - 48))) (rw e at h) in
      let l = both (digit b) (leb (b - 48) N) k.0 in
      subst (Fresh N at b) (same k.1)
      (record { is = decimal-first b l.0; small = leb-true (b - 48) N l.1; begins = refl; room = λ z. absurd (let n : ◌≡◌ {A = ℕ} 0 1 = cc in omega arith) }))
]

-- ---- clauses that have ended
pub zeros-append : (ns ms : List ℤ) → zeros (ns ++ ms) ≡ zeros ns + zeros ms
zeros-append [] ms = omega arith
zeros-append (n ∷ ns) ms = go (eq_z n (pos 0)) (zeros-append ns ms)
  where
    go : (t : Bool) → zeros (ns ++ ms) ≡ zeros ns + zeros ms → (if t then suc (zeros (ns ++ ms)) else zeros (ns ++ ms)) ≡ (if t then suc (zeros ns) else zeros ns) + zeros ms
    go true e = omega arith
    go false e = e

pub zero_or : (n : ℤ) → ((n ≡ pos 0) × (zeros (n ∷ []) ≡ 1)) ⊎ (zeros (n ∷ []) ≡ 0)
zero_or (pos zero) = inl (refl, refl)
zero_or (pos (suc v)) = inr (rw (leb-suc-zero v))
zero_or (negsuc v) = inr refl

-- not more than M, and where all have, the last number ended one
pub record Room (M : ℕ) (ns : List ℤ) : Type 0 where
  pub few : zeros ns ≤ M
  pub ended : zeros ns ≡ M → Ended ns

pub more_room : (M : ℕ) (ns : List ℤ) (n : ℤ) → ltb (zeros ns) M ≡ true → Room M (ns ++ (n ∷ []))
more_room M ns n f = let l = ltb-true (zeros ns) M f in elim (zero_or n) [
  | inl h ↦ record { few = omega (arith, zeros-append ns (n ∷ []), h.1); ended = λ e. inr (ns, ap (λ z. ns ++ (z ∷ [])) h.0) }
  | inr h ↦ record { few = omega (arith, zeros-append ns (n ∷ []), h); ended = λ e. absurd (omega (arith, zeros-append ns (n ∷ []), h)) }
]

-- ---- what is read: text, or a reply for N
pub data Which : Type 0 where
  of_text : Which
  of_reply : ℕ → Which

abbrev pub OfText : Which → Type 0
OfText of_text = Unit {0}
OfText (of_reply N) = ⊥

abbrev pub OfReply : Which → ℕ → Type 0
OfReply of_text N = ⊥
OfReply (of_reply N') N = N ≡ N'

-- up to a count of the first line
abbrev pub UpTo : Count → List ℕ → Type 0
UpTo count_N w = w ≡ ascii "p cnf "
UpTo (count_M N) w = (N ≤ most) × (w ≡ ascii "p cnf " ++ (decimal N ++ ascii " "))

-- up to where a number may begin
pub record InText (N M : ℕ) (ns : List ℤ) (w : List ℕ) : Type 0 where
  pub small : (N ≤ most) × (M ≤ most)
  pub body : List ℕ
  pub lined : w ≡ first_line N M ++ body
  pub spaced : Spaced true ns body
  pub known : All (λ n. nat_abs n ≤ N) ns
  pub room : Room M ns

pub record InReply (N : ℕ) (ns : List ℤ) (w : List ℕ) : Type 0 where
  pub values : List ℕ
  pub lined : w ≡ ascii "s SATISFIABLE\n" ++ values
  pub parted : (u : List ℕ) × (values ≡ u ++ ascii " ")
  pub opens : (n : ℤ) → Values ns n (values ++ numeral n)
  pub literals : All (λ n. (1 ≤ nat_abs n) × (nat_abs n ≤ N)) ns

abbrev pub Before : Which → Kind → List ℤ → List ℕ → Type 0
Before q (text N M) ns w = OfText q × InText N M ns w
Before q (reply N) ns w = OfReply q N × InReply N ns w

pub record Inside (q : Which) (k : Kind) (ns : List ℤ) (p : Number) (w : List ℕ) : Type 0 where
  pub head : List ℕ
  pub before : Before q k ns head
  pub is : w ≡ head ++ bytes p
  pub begins : p.start ≡ length head
  pub more : free k ns ≡ true
  pub small : p.size ≤ beyond k
  pub room : p.minus ≡ true → 1 ≤ beyond k

abbrev pub Reached : Which → State → List ℕ → Type 0
Reached q (word c cs s) w = Reached q s (w ++ (c ∷ cs))
Reached q (count c) w = OfText q × UpTo c w
Reached q (count_on c v) w = OfText q × ((v ≤ most) × ((h : List ℕ) × (UpTo c h × (w ≡ h ++ decimal v))))
Reached q (verdict N) w = OfReply q N × (w ≡ ascii "s ")
Reached q (at_number k ns) w = Before q k ns w
Reached q (in_number k ns p) w = Inside q k ns p w
Reached q (over (model ns)) w = (N : ℕ) × (OfReply q N × GoodReply N ns w)
Reached q (over unsatisfiable) w = (N : ℕ) × (OfReply q N × (w ≡ no_model))

-- no number of more than 32 bits is asked for
abbrev pub Narrow : Which → Type 0
Narrow q = (N : ℕ) → OfReply q N → N ≤ wide

-- ---- each byte keeps it
snoc_assoc : (w cs : List ℕ) (b c : ℕ) → b ≡ c → w ++ (c ∷ cs) ≡ (w ++ (b ∷ [])) ++ cs
snoc_assoc w cs b c e = ap (λ x. w ++ (x ∷ cs)) (sym e) ∙ sym (append_assoc w (b ∷ []) cs)

longer_by_one : (w : List ℕ) (b : ℕ) → suc (length w) ≡ length (w ++ (b ∷ []))
longer_by_one w b = omega (arith, length-append w (b ∷ []))

-- bytes after a head and a part
pub onto : {w : List ℕ} (h u : List ℕ) (c : ℕ) → w ≡ h ++ u → w ++ (c ∷ []) ≡ h ++ (u ++ (c ∷ []))
onto h u c e = ap (λ x. x ++ (c ∷ [])) e ∙ append_assoc h u (c ∷ [])

module _ (q : Which) (narrow : Narrow q) where
  pub awaited : (cs : List ℕ) (s : State) (w : List ℕ) → Reached q s (w ++ cs) → Reached q (awaits cs s) w
  awaited [] s w r = subst (Reached q s) (append-nil w) r
  awaited (c ∷ cs) s w r = r

  count_kept : (c : Count) (w : List ℕ) (b v : ℕ) (s' : State) → OfText q → v ≤ most → UpTo c w → counted c v (length (w ++ decimal v)) b ≡ done s'
      → Reached q s' ((w ++ decimal v) ++ (b ∷ []))
  count_kept count_N w b v s' o m u h =
      let k = passed (length (w ++ decimal v)) (eqb b 32) (done (count (count_M v))) h in
      subst (λ s. Reached q s ((w ++ decimal v) ++ (b ∷ []))) (same k.1)
      (o, (m, append_assoc w (decimal v) (b ∷ []) ∙ ap (λ x. x ++ (decimal v ++ (b ∷ []))) u ∙ ap (λ c. ascii "p cnf " ++ (decimal v ++ (c ∷ []))) (eqb-true b 32 k.0)))
  count_kept (count_M N) w b v s' o m u h =
      let k = passed (length (w ++ decimal v)) (eqb b 10) (done (at_number (text N v) [])) h in
      let line : (w ++ decimal v) ++ (b ∷ []) ≡ first_line N v ++ [] =
      ap (λ c. (w ++ decimal v) ++ (c ∷ [])) (eqb-true b 10 k.0) ∙ ap (λ x. (x ++ decimal v) ++ (10 ∷ [])) u.1 ∙ simp append_assoc in
      subst (λ s. Reached q s ((w ++ decimal v) ++ (b ∷ []))) (same k.1)
      (o, record { small = (u.0, m); body = []; lined = line; spaced = nothing; known = tt; room = record { few = omega arith; ended = λ e. inl refl } })

  begun_kept : (k : Kind) (ns : List ℤ) (w : List ℕ) (b : ℕ) (s' : State) → Before q k ns w → free k ns ≡ true
      → (begun (beyond k) (length w) b >>= λ p. done (in_number k ns p)) ≡ done s' → Reached q s' (w ++ (b ∷ []))
  begun_kept k ns w b s' r f h =
      let m = made (begun (beyond k) (length w) b) (λ p. done (in_number k ns p)) h in
      let g = begun_fresh (beyond k) (length w) b m.0 m.1.0 in
      subst (λ s. Reached q s (w ++ (b ∷ []))) (same m.1.1)
      (record { head = w; before = r; is = ap (λ x. w ++ x) (sym g.is); begins = g.begins; more = f; small = g.small; room = g.room })

  -- a number ends in text
  text-ended : (N M : ℕ) (ns : List ℤ) (p : Number) (w : List ℕ) (b : ℕ) → blank b ≡ true → whole p ≡ true → Inside q (text N M) ns p w
      → Before q (text N M) (ns ++ (number_read p ∷ [])) (w ++ (b ∷ []))
  text-ended N M ns p w b e z i =
      let t = i.before.1 in
      let n = number_read p in (
        i.before.0,
        record {
          small = t.small;
          body = (t.body ++ numeral n) ++ (b ∷ []);
          lined = onto (first_line N M) (t.body ++ numeral n) b (i.is ∙ ap (λ x. x ++ bytes p) t.lined ∙ ap (λ x. (first_line N M ++ t.body) ++ x) (whole-bytes p z) ∙ append_assoc (first_line N M) t.body (numeral n));
          spaced = gap b (is_true_lem (blank b) e) (number n t.spaced);
          known = all_append (λ n. nat_abs n ≤ N) ns (n ∷ []) t.known (rw (value-size p) i.small, tt);
          room = more_room M ns n i.more;
        },
      )

  -- a literal ends in a reply, and a number may follow these bytes
  reply_goes_on : (N : ℕ) (ns : List ℤ) (p : Number) (w u u' : List ℕ) → u ≡ u' ++ ascii " " → whole p ≡ true → (p.size ≡ 0 → ⊥) → Inside q (reply N) ns p w
      → ((m n : ℤ) (t : List ℕ) → Values ns m t → Values (ns ++ (m ∷ [])) n (t ++ (u ++ numeral n))) → Before q (reply N) (ns ++ (number_read p ∷ [])) (w ++ u)
  reply_goes_on N ns p w u u' y z f i on =
      let r = i.before.1 in
      let n = number_read p in
      let v : List ℕ = r.values ++ numeral n in
      let size = value-size p in (
        i.before.0,
        record {
          values = v ++ u;
          lined = ap (λ x. x ++ u) (i.is ∙ ap (λ x. x ++ bytes p) r.lined ∙ ap (λ x. (ascii "s SATISFIABLE\n" ++ r.values) ++ x) (whole-bytes p z)
              ∙ append_assoc (ascii "s SATISFIABLE\n") r.values (numeral n)) ∙ append_assoc (ascii "s SATISFIABLE\n") v u;
          parted = (v ++ u', ap (λ x. v ++ x) y ∙ sym (append_assoc v u' (ascii " ")));
          opens = λ m. subst (Values (ns ++ (n ∷ [])) m) (sym (append_assoc v u (numeral m))) (on n m v (r.opens n));
          literals = all_append (λ n. (1 ≤ nat_abs n) × (nat_abs n ≤ N)) ns (n ∷ []) r.literals ((positive (nat_abs n) (λ e. f (sym size ∙ e)), rw size i.small), tt);
        },
      )
    where
      positive : (v : ℕ) → (v ≡ 0 → ⊥) → 1 ≤ v
      positive zero h = absurd (h refl)
      positive (suc v) h = omega arith

  -- the 0 ends a reply
  reply-ended : (N : ℕ) (ns : List ℤ) (p : Number) (w : List ℕ) (b : ℕ) → b ≡ 10 → whole p ≡ true → p.size ≡ 0 → Inside q (reply N) ns p w → GoodReply N ns (w ++ (b ∷ []))
  reply-ended N ns p w b e z f i =
      let r = i.before.1 in
      let value : numeral (number_read p) ≡ numeral (pos 0) = ap numeral (zero_value (number_read p) (value-size p ∙ f)) in
      record {
        values = r.values ++ numeral (pos 0);
        lined = onto (ascii "s SATISFIABLE\n") (r.values ++ numeral (pos 0)) b (i.is ∙ ap (λ x. x ++ bytes p) r.lined ∙ ap (λ x. (ascii "s SATISFIABLE\n" ++ r.values) ++ x) (whole-bytes p z ∙ value)
            ∙ append_assoc (ascii "s SATISFIABLE\n") r.values (numeral (pos 0))) ∙ ap (λ c. ascii "s SATISFIABLE\n" ++ ((r.values ++ numeral (pos 0)) ++ (c ∷ []))) e;
        listed = r.opens (pos 0);
        literals = r.literals;
      }
    where
      zero_value : (n : ℤ) → nat_abs n ≡ 0 → n ≡ pos 0
      zero_value (pos zero) h = refl
      zero_value (pos (suc v)) h = absurd (omega arith)
      zero_value (negsuc v) h = absurd (omega arith)

  space_is : (b : ℕ) → blank b ≡ true → eqb b 10 ≡ false → b ≡ 32
  space_is b e f = elim (cases (eqb b 32)) [ inl g ↦ eqb-true b 32 g | inr g ↦ absurd (let z : false ≡ true = rw (g, f) at e in let y : ◌≡◌ {A = ℕ} 0 1 = cc in omega arith) ]

  stops_kept : (k : Kind) (ns : List ℤ) (p : Number) (w : List ℕ) (b : ℕ) (s' : State) → blank b ≡ true → whole p ≡ true → Inside q k ns p w
      → stops k ns p (length w) b ≡ done s' → Reached q s' (w ++ (b ∷ []))
  stops_kept (text N M) ns p w b s' e z i h = subst (λ s. Reached q s (w ++ (b ∷ []))) (same h) (text-ended N M ns p w b e z i)
  stops_kept (reply N) ns p w b s' e z i h = elim (cases (eqb p.size 0)) [
    | inl f ↦ (let k = passed (length w) (eqb b 10) (done (over (model ns))) (rw f at h) in
        subst (λ s. Reached q s (w ++ (b ∷ []))) (same k.1) (N, (i.before.0, reply-ended N ns p w b (eqb-true b 10 k.0) z (eqb-true p.size 0 f) i)))
    | inr f ↦ elim (cases (eqb b 10)) [
      | inl g ↦ (let r = reply_goes_on N ns p w (ascii "\nv ") (ascii "\nv") refl z (eqb-false p.size 0 f) i (λ m n t v. new_line n v) in
          let y : awaits (ascii "v ") (at_number (reply N) (ns ++ (number_read p ∷ []))) ≡ s' = same (rw (f, g) at h) in
          subst (λ s. Reached q s (w ++ (b ∷ []))) y (subst (Before q (reply N) (ns ++ (number_read p ∷ []))) (snoc_assoc w (ascii "v ") b 10 (eqb-true b 10 g)) r))
      | inr g ↦ (let r = reply_goes_on N ns p w (ascii " ") [] refl z (eqb-false p.size 0 f) i (λ m n t v. on_line n v) in
          let y : at_number (reply N) (ns ++ (number_read p ∷ [])) ≡ s' = same (rw (f, g) at h) in
          subst (λ s. Reached q s (w ++ (b ∷ []))) y (subst (λ c. Before q (reply N) (ns ++ (number_read p ∷ [])) (w ++ (c ∷ []))) (sym (space_is b e g)) r))
    ]
  ]

  pub narrow_head : (k : Kind) (ns : List ℤ) (w : List ℕ) → Before q k ns w → beyond k ≤ wide
  narrow_head (text N M) ns w r = let m = r.1.small.0 in omega arith
  narrow_head (reply N) ns w r = narrow N r.0

  grown_kept : (k : Kind) (ns : List ℤ) (p : Number) (w : List ℕ) (b : ℕ) (s' : State) → Inside q k ns p w
      → (grown (beyond k) p (length w) b >>= λ p. done (in_number k ns p)) ≡ done s' → Reached q s' (w ++ (b ∷ []))
  grown_kept k ns p w b s' i h =
      let m = made (grown (beyond k) p (length w) b) (λ p. done (in_number k ns p)) h in
      let f = passed (length w) (further p b) (need 18 p.start (leb (longer p b).size (beyond k)) >> done (longer p b)) m.1.0 in
      let g = passed p.start (leb (longer p b).size (beyond k)) (done (longer p b)) f.1 in
      let wide-size : p.size ≤ wide = omega (arith, narrow_head k ns i.head i.before, i.small) in
      subst (λ s. Reached q s (w ++ (b ∷ []))) (ap (in_number k ns) (same g.1) ∙ same m.1.1)
      (record {
        head = i.head;
        before = i.before;
        is = onto i.head (bytes p) b i.is ∙ ap (λ x. i.head ++ x) (sym (longer-bytes p b wide-size f.0));
        begins = i.begins;
        more = i.more;
        small = leb-true (longer p b).size (beyond k) g.0;
        room = i.room;
      })

  pub kept : (s : State) (w : List ℕ) (b : ℕ) (s' : State) → Reached q s w → step s (length w) b ≡ done s' → Reached q s' (w ++ (b ∷ []))
  kept (word c cs s) w b s' r h =
      let k = passed (length w) (eqb b c) (done (awaits cs s)) h in
      subst (λ s. Reached q s (w ++ (b ∷ []))) (same k.1) (awaited cs s (w ++ (b ∷ [])) (subst (Reached q s) (snoc_assoc w cs b c (eqb-true b c k.0)) r))
  kept (count c) w b s' r h =
      let k = passed (length w) (digit b) (done (count_on c (b - 48))) h in
      let d = digit_is b k.0 in
      subst (λ s. Reached q s (w ++ (b ∷ []))) (same k.1) (r.0, (omega (arith, d.1), (w, (r.1, ap (λ x. w ++ x) (sym (decimal-first b k.0))))))
  kept (count_on c v) w b s' r h = elim (cases (ltb 0 v && digit b)) [
    | inl e ↦ (let l = both (ltb 0 v) (digit b) e in
        let k = passed (length w) (leb (10 * v + (b - 48)) most) (done (count_on c (10 * v + (b - 48)))) (rw e at h) in
        let x = r.1.1 in
        let m = r.1.0 in
        let more : decimal v ++ (b ∷ []) ≡ decimal (10 * v + (b - 48)) = sym (decimal-longer v b (ltb-true 0 v l.0) (omega arith) l.1) in
        subst (λ s. Reached q s (w ++ (b ∷ []))) (same k.1)
        (r.0, (leb-true (10 * v + (b - 48)) most k.0, (x.0, (x.1.0, onto x.0 (decimal v) b x.1.1 ∙ ap (λ z. x.0 ++ z) more)))))
    | inr e ↦ (let x = r.1.1 in
        let g : counted c v (length w) b ≡ done s' = rw e at h in
        subst (λ z. Reached q s' (z ++ (b ∷ []))) (sym x.1.1) (count_kept c x.0 b v s' r.0 r.1.0 x.1.0 (subst (λ z. counted c v (length z) b ≡ done s') x.1.1 g)))
  ]
  kept (verdict N) w b s' r h = elim (cases (eqb b 85)) [
    | inl e ↦ subst (λ s. Reached q s (w ++ (b ∷ []))) (same (rw e at h)) (N, (r.0, ap (λ x. (x ++ (b ∷ [])) ++ ascii "NSATISFIABLE\n") r.1 ∙ ap (λ c. ascii "s " ++ (c ∷ ascii "NSATISFIABLE\n")) (eqb-true b 85 e)))
    | inr e ↦ (let k = passed (length w) (eqb b 83) (done (awaits (ascii "ATISFIABLE\nv ") (at_number (reply N) []))) (rw e at h) in
        subst (λ s. Reached q s (w ++ (b ∷ []))) (same k.1) (
          r.0,
          record {
            values = ascii "v ";
            lined = ap (λ x. (x ++ (b ∷ [])) ++ ascii "ATISFIABLE\nv ") r.1 ∙ ap (λ c. ascii "s " ++ (c ∷ ascii "ATISFIABLE\nv ")) (eqb-true b 83 k.0);
            parted = (ascii "v", refl);
            opens = λ n. first n;
            literals = tt;
          },
        ))
  ]
  kept (at_number (text N M) ns) w b s' r h = elim (cases (blank b)) [
    | inl e ↦ (let t = r.1 in
        subst (λ s. Reached q s (w ++ (b ∷ []))) (same (rw e at h)) (
          r.0,
          record {
            small = t.small;
            body = t.body ++ (b ∷ []);
            lined = onto (first_line N M) t.body b t.lined;
            spaced = gap b (is_true_lem (blank b) e) t.spaced;
            known = t.known;
            room = t.room;
          },
        ))
    | inr e ↦ (let k = passed (length w) (ltb (zeros ns) M) (begun N (length w) b >>= λ p. done (in_number (text N M) ns p)) (rw e at h) in
        begun_kept (text N M) ns w b s' r k.0 k.1)
  ]
  kept (at_number (reply N) ns) w b s' r h = begun_kept (reply N) ns w b s' r refl h
  kept (in_number k ns p) w b s' r h = elim (cases (blank b)) [
    | inl e ↦ (let m = passed (length w) (whole p) (stops k ns p (length w) b) (rw e at h) in stops_kept k ns p w b s' e m.0 r m.1)
    | inr e ↦ grown_kept k ns p w b s' r (rw e at h)
  ]
  kept (over r') w b s' r h = never h

  pub all_kept : (t : List ℕ) (s : State) (w : List ℕ) (s' : State) → Reached q s w → fed s (length w) t ≡ done s' → Reached q s' (w ++ t)
  all_kept [] s w s' r h = subst (λ z. Reached q z (w ++ [])) (same h) (subst (Reached q s) (sym (append-nil w)) r)
  all_kept (b ∷ t) s w s' r h =
      let m = made (step s (length w) b) (λ s''. fed s'' (suc (length w)) t) h in
      let on : fed m.0 (length (w ++ (b ∷ []))) t ≡ done s' = subst (λ k. fed m.0 k t ≡ done s') (longer_by_one w b) m.1.1 in
      subst (Reached q s') (append_assoc w (b ∷ []) t) (all_kept t m.0 (w ++ (b ∷ [])) s' (kept s w b m.0 r m.1.0) on)
