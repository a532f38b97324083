-- Laws of text part by part: the first line, the numbers one by one, and what they make of the whole. Assumes nothing.
use Rattle.std.specs.Prelude.{◌≡◌, refl, Bool, true, false, ◌&&◌, List, [], ◌∷◌, ◌++◌, ℕ, zero, suc, ◌+◌, ◌*◌, ◌-◌, ◌≤◌, ◌<◌, ltb, leb, eqb, length, drop, ℤ, pos, if◌then◌else◌}
use Rattle.std.proofs.Common.{sym, ap, ◌∙◌, inl, inr, append-nil, add-zero, arith, length-append, eq-eqb, ne_eqb}
use Rattle.std.proofs.Math.Dec.{leb-suc-zero}
use Rattle.definitions.specs.Tools.{neg}
use Rattle.definitions.specs.Result.{Result, ◌>>=◌, ◌>>◌, need, done, refused}
use Rattle.definitions.specs.Dimacs.{ascii}
use Rattle.definitions.specs.Texts.{blank, zeros, most}
use Rattle.definitions.specs.TextReading.{digit, Number, number_read, whole, begun, grown, Count, count_N, count_M, text, State, word, count, count_on, at_number, in_number, awaits, counted, step, fed, Read, end_text, read_text}
use Rattle.laws.specs.Stepping.{num, cases}
use Rattle.demands.specs.Reached.{zeros-append}
use Rattle.replies.specs.Parts.{word_at, count_from, count_at, number_from, Found, ends, holds, found_from, word_count, end_at, rest_at, line_at, started, from, list_from, sizes, sized}

-- ---- from a state on, to an end: one byte on, and past bytes that are awaited
module _ {A : Type 0} (end : ℕ → State → Result A) where
  pub from_step : (s : State) (at b : ℕ) (t : List ℕ) → from end s at (b ∷ t) ≡ (step s at b >>= λ s'. from end s' (suc at) t)
  from_step s at b t = go (step s at b)
    where
      go : (m : Result State) → ((m >>= λ s'. fed s' (suc at) t) >>= end (at + suc (length t))) ≡ (m >>= λ s'. from end s' (suc at) t)
      go (done s') = let e : at + suc (length t) ≡ suc at + length t = omega arith in ap (λ k. fed s' (suc at) t >>= end k) e
      go (refused n d) = refl

  module _ (bad : (c : ℕ) (cs : List ℕ) (s : State) (n : ℕ) → end n (word c cs s) ≡ refused 18 n) where
    pub word_parts : (w v : List ℕ) (s : State) (at : ℕ) (t : List ℕ) → from end (awaits (w ++ v) s) at t ≡ (word_at w at t >>= λ p. from end (awaits v s) p.0 p.1)
    word_parts [] v s at t = refl
    word_parts (c ∷ cs) v s at [] = bad c (cs ++ v) s (at + 0) ∙ ap (refused 18) (add-zero at)
    word_parts (c ∷ cs) v s at (b ∷ t) = from_step (word c (cs ++ v) s) at b t ∙ elim (cases (eqb b c)) [ inl e ↦ rw e (word_parts cs v s (suc at) t) | inr e ↦ rw e ]

pub list_step : (s : State) (at b : ℕ) (t : List ℕ) → list_from s at (b ∷ t) ≡ (step s at b >>= λ s'. list_from s' (suc at) t)
list_step = from_step end_text

-- ---- the numbers, number by number
module _ (N M : ℕ) (ns : List ℤ) where
  abbrev on_number : Number × ℕ × List ℕ → Result Read
  on_number r = list_from (at_number (text N M) (ns ++ (number_read r.0 ∷ []))) r.1 r.2

  abbrev pub on_found : Found → Result Read
  on_found (ends at) = need 18 at (eqb (zeros ns) M) >> done (record { n = N; m = M; list = ns })
  on_found (holds p next rest) = on_number (p, next, rest)

  within-parts : (p : Number) (at : ℕ) (t : List ℕ) → list_from (in_number (text N M) ns p) at t ≡ (number_from N p at t >>= on_number)
  within-parts p at [] = rw (add-zero at) (go (whole p))
    where
      all : List ℤ
      all = ns ++ (number_read p ∷ [])

      go : (w : Bool) → (need 18 at (w && eqb (zeros all) M) >> done (record { n = N; m = M; list = all })) ≡ ((need 18 at w >> done (p, at, [])) >>= on_number)
      go true = rw (add-zero at)
      go false = refl
  within-parts p at (b ∷ t) = list_step (in_number (text N M) ns p) at b t ∙ elim (cases (blank b)) [
    | inl e ↦ rw e (blanks (whole p) e)
    | inr e ↦ rw e (grows (grown N p at b) (λ q. within-parts q (suc at) t))
  ]
    where
      all : List ℤ
      all = ns ++ (number_read p ∷ [])

      blanks : (w : Bool) → blank b ≡ true → ((need 18 at w >> done (at_number (text N M) all)) >>= λ s'. list_from s' (suc at) t) ≡ ((need 18 at w >> done (p, at, b ∷ t)) >>= on_number)
      blanks true e = sym (list_step (at_number (text N M) all) at b t ∙ rw e)
      blanks false e = refl

      grows : (g : Result Number) → ((q : Number) → list_from (in_number (text N M) ns q) (suc at) t ≡ (number_from N q (suc at) t >>= on_number))
          → ((g >>= λ q. done (in_number (text N M) ns q)) >>= λ s'. list_from s' (suc at) t) ≡ ((g >>= λ q. number_from N q (suc at) t) >>= on_number)
      grows (done q) k = k q
      grows (refused n d) k = refl

  free-parts : (at : ℕ) (t : List ℕ) → list_from (at_number (text N M) ns) at t ≡ (found_from N (ltb (zeros ns) M) at t >>= on_found)
  free-parts at [] = rw (add-zero at)
  free-parts at (b ∷ t) = list_step (at_number (text N M) ns) at b t ∙ elim (cases (blank b)) [
    | inl e ↦ rw e (free-parts (suc at) t)
    | inr e ↦ rw e (go (ltb (zeros ns) M))
  ]
    where
      regroup : (m : Result (Number × ℕ × List ℕ)) → (m >>= on_number) ≡ ((m >>= λ r. done (holds r.0 r.1 r.2)) >>= on_found)
      regroup (done r) = refl
      regroup (refused n d) = refl

      begins : (g : Result Number) → ((g >>= λ p. done (in_number (text N M) ns p)) >>= λ s'. list_from s' (suc at) t)
          ≡ (((g >>= λ p. number_from N p (suc at) t) >>= λ r. done (holds r.0 r.1 r.2)) >>= on_found)
      begins (done p) = within-parts p (suc at) t ∙ regroup (number_from N p (suc at) t)
      begins (refused n d) = refl

      go : (room : Bool) → ((need 18 at room >> (begun N at b >>= λ p. done (in_number (text N M) ns p))) >>= λ s'. list_from s' (suc at) t)
          ≡ ((need 18 at room >> ((begun N at b >>= λ p. number_from N p (suc at) t) >>= λ r. done (holds r.0 r.1 r.2))) >>= on_found)
      go true = begins (begun N at b)
      go false = refl

  module _ (at : ℕ) (t : List ℕ) {z : ℕ} (e : zeros ns ≡ z) where
    pub next_is : {f : Found} → found_from N (ltb z M) at t ≡ done f → list_from (at_number (text N M) ns) at t ≡ on_found f
    next_is h = free-parts at t ∙ rw (e, h)

    pub next_bad : {n d : ℕ} → found_from N (ltb z M) at t ≡ refused n d → list_from (at_number (text N M) ns) at t ≡ refused n d
    next_bad h = free-parts at t ∙ rw (e, h)

pub at-most : (b : Bool) (n : ℕ) → (if b then suc n else n) ≤ suc n
at-most true n = omega arith
at-most false n = omega arith

pub zeros_snoc : (ns : List ℤ) (minus : Bool) (size : ℕ) → zeros (ns ++ (number_read (num 0 minus size) ∷ [])) ≡ (if eqb size 0 then suc (zeros ns) else zeros ns)
zeros_snoc ns minus size = zeros-append ns (number_read (num 0 minus size) ∷ []) ∙ go minus size
  where
    go : (minus : Bool) (size : ℕ) → zeros ns + zeros ((if minus then neg size else pos size) ∷ []) ≡ (if eqb size 0 then suc (zeros ns) else zeros ns)
    go true zero = omega arith
    go true (suc v) = rw (ne_eqb (suc v) 0 (λ e. omega arith)) (omega arith)
    go false zero = omega arith
    go false (suc v) = rw (leb-suc-zero v, ne_eqb (suc v) 0 (λ e. omega arith)) (omega arith)

-- what is counted so far of the numbers from a place on
pub record Counts (N M from numbers count_M at : ℕ) (t : List ℕ) : Type 0 where
  pub ns : List ℤ
  pub long : length ns ≡ numbers
  pub ended : zeros ns ≡ count_M
  pub few : count_M ≤ numbers
  pub short : numbers ≤ at
  pub goes : list_from (at_number (text N M) ns) at (drop at t) ≡ list_from (started N M) from (drop from t)

module _ (N M from : ℕ) (t : List ℕ) where
  unfoldable pub counts_none : Counts N M from 0 0 from t
  counts_none = record { ns = []; long = refl; ended = refl; few = omega arith; short = omega arith; goes = refl }

  module _ {numbers count_M at : ℕ} (k : Counts N M from numbers count_M at t) where
    unfoldable pub counts_more : (start : ℕ) (minus : Bool) (size next after : ℕ) → found_from N (ltb count_M M) at (drop at t) ≡ done (holds (num start minus size) next (drop next t)) → at < next
        → after ≡ (if eqb size 0 then suc count_M else count_M) → Counts N M from (numbers + 1) after next t
    counts_more start minus size next after f l e =
        let p = num start minus size in
        let z = zeros_snoc k.ns minus size in
        let w : zeros (k.ns ++ (number_read p ∷ [])) ≡ after = z ∙ rw k.ended (sym e) in
        record {
          ns = k.ns ++ (number_read p ∷ []);
          long = omega (arith, length-append k.ns (number_read p ∷ []), k.long);
          ended = w;
          few = omega (arith, e, at-most (eqb size 0) count_M, k.few);
          short = omega (arith, k.short);
          goes = sym (next_is N M k.ns at (drop at t) k.ended f) ∙ k.goes;
        }

    pub counts_bad : (d : ℕ) → found_from N (ltb count_M M) at (drop at t) ≡ refused 18 d → refused 18 d ≡ sized (list_from (started N M) from (drop from t))
    counts_bad d f = ap sized (sym (next_bad N M k.ns at (drop at t) k.ended f) ∙ k.goes)

    pub counts_all : (end : ℕ) → found_from N (ltb count_M M) at (drop at t) ≡ done (ends end) → count_M ≡ M → done (sizes N M numbers) ≡ sized (list_from (started N M) from (drop from t))
    counts_all end f e =
        let l : on_found N M k.ns (ends end) ≡ done (record { n = N; m = M; list = k.ns }) = rw (eq-eqb (zeros k.ns) M (k.ended ∙ e)) in
        ap (λ n. done (sizes N M n)) (sym k.long) ∙ ap sized (sym (next_is N M k.ns at (drop at t) k.ended f ∙ l) ∙ k.goes)

    pub counts_short : (end : ℕ) → found_from N (ltb count_M M) at (drop at t) ≡ done (ends end) → (count_M ≡ M → ⊥) → refused 18 end ≡ sized (list_from (started N M) from (drop from t))
    counts_short end f e =
        let l : on_found N M k.ns (ends end) ≡ refused 18 end = rw (ne_eqb (zeros k.ns) M (λ z. e (sym k.ended ∙ z))) in
        ap sized (sym (next_is N M k.ns at (drop at t) k.ended f ∙ l) ∙ k.goes)

-- ---- the first line
-- the byte that stands after a count, and what follows it
abbrev ender : Count → ℕ
ender count_N = 32
ender (count_M N) = 10

abbrev following : Count → ℕ → State
following count_N v = count (count_M v)
following (count_M N) v = started N v

abbrev ended : Count → ℕ × ℕ × List ℕ → Result Read
ended c p = word_at (ender c ∷ []) p.1 p.2 >>= λ e. list_from (following c p.0) e.0 e.1

counted_is : (c : Count) (v at b : ℕ) → counted c v at b ≡ (need 18 at (eqb b (ender c)) >> done (following c v))
counted_is count_N v at b = refl
counted_is (count_M N) v at b = refl

abbrev past : ℕ → List ℕ → Result (ℕ × List ℕ)
past at t = done (at, t)

from_parts : (c : Count) (v at : ℕ) (t : List ℕ) → list_from (count_on c v) at t ≡ (count_from v at t >>= ended c)
from_parts c v at [] = rw (add-zero at)
from_parts c v at (b ∷ t) = list_step (count_on c v) at b t ∙ elim (cases (ltb 0 v && digit b)) [
  | inl e ↦ rw e (go (leb (10 * v + (b - 48)) most) (from_parts c (10 * v + (b - 48)) (suc at) t))
  | inr e ↦ rw (e, counted_is c v at b) (stop (eqb b (ender c)))
]
  where
    go : (m : Bool) → list_from (count_on c (10 * v + (b - 48))) (suc at) t ≡ (count_from (10 * v + (b - 48)) (suc at) t >>= ended c)
        → ((need 18 at m >> done (count_on c (10 * v + (b - 48)))) >>= λ s'. list_from s' (suc at) t) ≡ ((need 18 at m >> count_from (10 * v + (b - 48)) (suc at) t) >>= ended c)
    go true k = k
    go false k = refl

    stop : (m : Bool) → ((need 18 at m >> done (following c v)) >>= λ s'. list_from s' (suc at) t)
        ≡ ((if m then past (suc at) t else refused 18 at) >>= λ e. list_from (following c v) e.0 e.1)
    stop true = refl
    stop false = refl

count-parts : (c : Count) (at : ℕ) (t : List ℕ) → list_from (count c) at t ≡ (count_at at t >>= ended c)
count-parts c at [] = rw (add-zero at)
count-parts c at (b ∷ t) = list_step (count c) at b t ∙ elim (cases (digit b)) [ inl e ↦ rw e (from_parts c (b - 48) (suc at) t) | inr e ↦ rw e ]

-- a word and a count
list_word : (w : List ℕ) (s : State) (at : ℕ) (t : List ℕ) → list_from (awaits w s) at t ≡ (word_at w at t >>= λ p. list_from s p.0 p.1)
list_word w s at t = ap (λ w. list_from (awaits w s) at t) (sym (append-nil w)) ∙ word_parts end_text (λ c cs s n. refl) w [] s at t

both_parts : (w : List ℕ) (c : Count) (at : ℕ) (t : List ℕ) → list_from (awaits w (count c)) at t ≡ (word_count w at t >>= ended c)
both_parts w c at t = list_word w (count c) at t ∙ go (word_at w at t)
  where
    go : (m : Result (ℕ × List ℕ)) → (m >>= λ p. list_from (count c) p.0 p.1) ≡ ((m >>= λ p. count_at p.0 p.1) >>= ended c)
    go (done p) = count-parts c p.0 p.1
    go (refused n d) = refl

abbrev body : ℕ × ℕ × ℕ × List ℕ → Result Read
body h = list_from (started h.0 h.1) h.2 h.3

end-parts : (N M at : ℕ) (t : List ℕ) → (word_at (ascii "\n") at t >>= λ e. list_from (started N M) e.0 e.1) ≡ (end_at N M at t >>= body)
end-parts N M at t = go (word_at (ascii "\n") at t)
  where
    go : (m : Result (ℕ × List ℕ)) → (m >>= λ e. list_from (started N M) e.0 e.1) ≡ ((m >>= λ e. done (N, M, e.0, e.1)) >>= body)
    go (done e) = refl
    go (refused n d) = refl

-- after N: the space, M and the newline
rest-parts : (N at : ℕ) (t : List ℕ) → (word_at (ascii " ") at t >>= λ e. list_from (count (count_M N)) e.0 e.1) ≡ (rest_at N at t >>= body)
rest-parts N at t = sym (list_word (ascii " ") (count (count_M N)) at t) ∙ both_parts (ascii " ") (count_M N) at t ∙ go (word_count (ascii " ") at t)
  where
    go : (m : Result (ℕ × ℕ × List ℕ)) → (m >>= ended (count_M N)) ≡ ((m >>= λ m. end_at N m.0 m.1 m.2) >>= body)
    go (done m) = end-parts N m.0 m.1 m.2
    go (refused n d) = refl

text-parts : (t : List ℕ) → read_text t ≡ (line_at t >>= body)
unfolding read_text
text-parts t =
    let e : length t ≡ 0 + length t = omega arith in
    ap (λ k. fed (awaits (ascii "p cnf ") (count count_N)) 0 t >>= end_text k) e ∙ both_parts (ascii "p cnf ") count_N 0 t ∙ go (word_count (ascii "p cnf ") 0 t)
  where
    go : (m : Result (ℕ × ℕ × List ℕ)) → (m >>= ended count_N) ≡ ((m >>= λ n. rest_at n.0 n.1 n.2) >>= body)
    go (done n) = rest-parts n.0 n.1 n.2
    go (refused n d) = refl

-- ---- part after part
module _ (w : List ℕ) (at : ℕ) (t : List ℕ) where
  pub word_count_is : {next : ℕ} {u : List ℕ} → word_at w at t ≡ done (next, u) → word_count w at t ≡ count_at next u
  word_count_is h = ap (λ m. m >>= λ p. count_at p.0 p.1) h

  pub word_count_bad : {n d : ℕ} → word_at w at t ≡ refused n d → word_count w at t ≡ refused n d
  word_count_bad h = ap (λ m. m >>= λ p. count_at p.0 p.1) h

module _ (N M at : ℕ) (t : List ℕ) where
  pub end_is : {next : ℕ} {u : List ℕ} → word_at (ascii "\n") at t ≡ done (next, u) → end_at N M at t ≡ done (N, M, next, u)
  end_is h = ap (λ m. m >>= λ e. done (N, M, e.0, e.1)) h

  pub end-bad : {n d : ℕ} → word_at (ascii "\n") at t ≡ refused n d → end_at N M at t ≡ refused n d
  end-bad h = ap (λ m. m >>= λ e. done (N, M, e.0, e.1)) h

module _ (N at : ℕ) (t : List ℕ) where
  pub rest_is : {M next : ℕ} {u : List ℕ} → word_count (ascii " ") at t ≡ done (M, next, u) → rest_at N at t ≡ end_at N M next u
  rest_is h = ap (λ m. m >>= λ m. end_at N m.0 m.1 m.2) h

  pub rest-bad : {n d : ℕ} → word_count (ascii " ") at t ≡ refused n d → rest_at N at t ≡ refused n d
  rest-bad h = ap (λ m. m >>= λ m. end_at N m.0 m.1 m.2) h

module _ (t : List ℕ) where
  pub line_is : {N next : ℕ} {u : List ℕ} → word_count (ascii "p cnf ") 0 t ≡ done (N, next, u) → line_at t ≡ rest_at N next u
  line_is h = ap (λ m. m >>= λ n. rest_at n.0 n.1 n.2) h

  pub line-bad : {n d : ℕ} → word_count (ascii "p cnf ") 0 t ≡ refused n d → line_at t ≡ refused n d
  line-bad h = ap (λ m. m >>= λ n. rest_at n.0 n.1 n.2) h

  pub text-bad : {n d : ℕ} → line_at t ≡ refused n d → refused n d ≡ sized (read_text t)
  text-bad h = sym (ap sized (text-parts t ∙ ap (λ m. m >>= body) h))

  module _ {N M next : ℕ} {u : List ℕ} (h : line_at t ≡ done (N, M, next, u)) where
    pub text-read : read_text t ≡ list_from (started N M) next u
    text-read = text-parts t ∙ ap (λ m. m >>= body) h

    text-sized : sized (read_text t) ≡ sized (list_from (started N M) next u)
    text-sized = ap sized text-read

    pub numbers-bad : {n d : ℕ} → sized (list_from (started N M) next u) ≡ refused n d → refused n d ≡ sized (read_text t)
    numbers-bad e = sym (text-sized ∙ e)
