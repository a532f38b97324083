-- Laws of the numbers of text on their way into a list. Assumes nothing.
use Rattle.std.specs.Prelude.{◌≡◌, refl, Bool, true, false, ◌&&◌, List, [], ◌∷◌, ◌++◌, ℕ, suc, ◌+◌, ◌*◌, ◌-◌, ◌≤◌, ◌<◌, ltb, leb, eqb, length, drop, ℤ, if◌then◌else◌}
use Rattle.std.proofs.Common.{sym, ◌∙◌, subst, arith, length-append}
use Rattle.std.proofs.Math.Path.{ap}
use Rattle.std.proofs.Math.ListN.{set}
use borrow.Author.Tests.{le-leb, lt-leb, leb-true}
use Rattle.definitions.specs.Result.{Result, ◌>>=◌, ◌>>◌, need, done, refused}
use Rattle.definitions.specs.Operations.{Sizes, ◌leaves◌}
use Rattle.definitions.specs.Dimacs.{ascii}
use Rattle.laws.specs.Readings.{same, never}
use Rattle.laws.specs.Written.{written, written_none, written_snoc, written-length}
use Rattle.definitions.specs.Texts.{blank, zeros, most}
use Rattle.definitions.specs.TextReading.{digit, Number, number_read, whole, begun, further, longer, grown, text, State, at_number, in_number, step, Read, end_text, read_text}
use Rattle.definitions.specs.TextOperations.{read_text_outcome}
use Rattle.laws.specs.Stepping.{num}
use Rattle.demands.specs.Reached.{passed, both, digit_is}
use Rattle.replies.specs.Parts.{word_at, count_from, count_at, word_count, end_at, rest_at, line_at, number_from, number_at, Found, ends, holds, found_from, started, list_from, sizes, sizes_read, sized}
use Rattle.replies.specs.Bytes.{Made, made_by, made_not}
use Rattle.replies.specs.Texts.{list_step, Counts, counts_none, counts_more, next_is, next_bad, text-read}

-- the numbers that are read from a place on, and a list that has room for them
abbrev pub numbers_of : Result Read → List ℤ
numbers_of (done r) = r.list
numbers_of (refused n d) = []

abbrev pub numbers_from : ℕ → ℕ → ℕ → List ℕ → List ℤ
numbers_from N M from t = numbers_of (list_from (started N M) from (drop from t))

pub record Fits (N M from : ℕ) (t : List ℕ) (list : List ℤ) : Type 0 where
  pub read : Read
  pub is : list_from (started N M) from (drop from t) ≡ done read
  pub fits : length read.list ≤ length list

-- ---- what is true of every value that is given
module _ {A : Type 0} (P : A → Type 0) where
  abbrev Gives : Result A → Type 0
  Gives m = (a : A) → m ≡ done a → P a

  gives_done : (a : A) → P a → Gives (done a)
  gives_done a p b e = subst P (same e) p

  gives_need : (d : ℕ) (t : Bool) (m : Result A) → (t ≡ true → Gives m) → Gives (need 18 d t >> m)
  gives_need d true m k = k refl
  gives_need d false m k = λ a e. never e

  gives_if : (t : Bool) (m m' : Result A) → Gives m → Gives m' → Gives (if t then m else m')
  gives_if true m m' k k' = k
  gives_if false m m' k k' = k'

  gives_bind : {C : Type 0} (m : Result C) (f : C → Result A) → ((c : C) → m ≡ done c → Gives (f c)) → Gives (m >>= f)
  gives_bind (done c) f k = k c refl
  gives_bind (refused n d) f k = λ a e. never e

-- no number is beyond N
abbrev SmallNumber : ℕ → Number → Type 0
SmallNumber N p = p.size ≤ N

abbrev SmallPart : ℕ → Number × ℕ × List ℕ → Type 0
SmallPart N r = r.0.size ≤ N

abbrev SmallFound : ℕ → Found → Type 0
SmallFound N (ends at) = Unit {0}
SmallFound N (holds p next u) = p.size ≤ N

grown-small : (N : ℕ) (p : Number) (at b : ℕ) → Gives (SmallNumber N) (grown N p at b)
grown-small N p at b =
    gives_need (SmallNumber N) at (further p b) _
    (λ e. gives_need (SmallNumber N) p.start (leb (longer p b).size N) _ (λ f. gives_done (SmallNumber N) (longer p b) (leb-true (longer p b).size N f)))

begun-small : (N at b : ℕ) → Gives (SmallNumber N) (begun N at b)
begun-small N at b =
    gives_if (SmallNumber N) (eqb b 45) _ _
    (gives_need (SmallNumber N) at (leb 1 N) _ (λ e. gives_done (SmallNumber N) (num at true 0) (omega arith)))
    (gives_need (SmallNumber N) at (digit b && leb (b - 48) N) _
    (λ e. gives_done (SmallNumber N) (num at false (b - 48)) (leb-true (b - 48) N (both (digit b) (leb (b - 48) N) e).1)))

from-small : (N : ℕ) (t : List ℕ) (p : Number) (at : ℕ) → p.size ≤ N → Gives (SmallPart N) (number_from N p at t)
from-small N [] p at l = gives_need (SmallPart N) at (whole p) _ (λ e. gives_done (SmallPart N) (p, at, []) l)
from-small N (b ∷ t) p at l =
    gives_if (SmallPart N) (blank b) _ _
    (gives_need (SmallPart N) at (whole p) _ (λ e. gives_done (SmallPart N) (p, at, b ∷ t) l))
    (gives_bind (SmallPart N) (grown N p at b) (λ q. number_from N q (suc at) t) (λ q k. from-small N t q (suc at) (grown-small N p at b q k)))

number_small : (N at b : ℕ) (t : List ℕ) → Gives (SmallPart N) (number_at N at (b ∷ t))
number_small N at b t = gives_bind (SmallPart N) (begun N at b) (λ p. number_from N p (suc at) t) (λ p k. from-small N t p (suc at) (begun-small N at b p k))

found_small : (N : ℕ) (room : Bool) (t : List ℕ) (at : ℕ) → Gives (SmallFound N) (found_from N room at t)
found_small N room [] at = gives_done (SmallFound N) (ends at) tt
found_small N room (b ∷ t) at =
    gives_if (SmallFound N) (blank b) _ _ (found_small N room t (suc at))
    (gives_need (SmallFound N) at room _
    (λ e. gives_bind (SmallFound N) (number_at N at (b ∷ t)) (λ r. done (holds r.0 r.1 r.2))
    (λ r k. gives_done (SmallFound N) (holds r.0 r.1 r.2) (number_small N at b t r k))))

-- N is at most the greatest count
abbrev SmallCount : ℕ × ℕ × List ℕ → Type 0
SmallCount r = r.0 ≤ most

abbrev SmallLine : ℕ × ℕ × ℕ × List ℕ → Type 0
SmallLine h = h.0 ≤ most

count_small : (t : List ℕ) (v at : ℕ) → v ≤ most → Gives SmallCount (count_from v at t)
count_small [] v at l = gives_done SmallCount (v, at, []) l
count_small (b ∷ t) v at l =
    gives_if SmallCount (ltb 0 v && digit b) _ _
    (gives_need SmallCount at (leb (10 * v + (b - 48)) most) _ (λ e. count_small t (10 * v + (b - 48)) (suc at) (leb-true (10 * v + (b - 48)) most e)))
    (gives_done SmallCount (v, at, b ∷ t) l)

whole-small : (t : List ℕ) (at : ℕ) → Gives SmallCount (count_at at t)
whole-small [] at = λ a e. never e
whole-small (b ∷ t) at = gives_need SmallCount at (digit b) _ (λ e. let d = digit_is b e in count_small t (b - 48) (suc at) (omega (arith, d.1)))

pub line_small : (t : List ℕ) {N M next : ℕ} {u : List ℕ} → line_at t ≡ done (N, M, next, u) → N ≤ most
line_small t {N} {M} {next} {u} h = all (N, M, next, u) h
  where
    counted : Gives SmallCount (word_count (ascii "p cnf ") 0 t)
    counted = gives_bind SmallCount (word_at (ascii "p cnf ") 0 t) (λ p. count_at p.0 p.1) (λ p k. whole-small p.1 p.0)

    rest : (N at : ℕ) (t : List ℕ) → N ≤ most → Gives SmallLine (rest_at N at t)
    rest N at t l =
        gives_bind SmallLine (word_count (ascii " ") at t) (λ m. end_at N m.0 m.1 m.2)
        (λ m k. gives_bind SmallLine (word_at (ascii "\n") m.1 m.2) (λ e. done (N, m.0, e.0, e.1)) (λ e k. gives_done SmallLine (N, m.0, e.0, e.1) l))

    all : Gives SmallLine (line_at t)
    all = gives_bind SmallLine (word_count (ascii "p cnf ") 0 t) (λ n. rest_at n.0 n.1 n.2) (λ n k. rest n.0 n.1 n.2 (counted n k))

-- ---- the list only grows
data Holding (N M L : ℕ) : State → Type 0 where
  free : (ns : List ℤ) → L ≤ length ns → Holding N M L (at_number (text N M) ns)
  inside : (ns : List ℤ) (p : Number) → L ≤ length ns → Holding N M L (in_number (text N M) ns p)

module _ (N M L : ℕ) where
  one_more : (ns : List ℤ) (v : ℤ) → L ≤ length ns → L ≤ length (ns ++ (v ∷ []))
  one_more ns v l = omega (arith, length-append ns (v ∷ []))

  holding_step : (s : State) (at b : ℕ) → Holding N M L s → Gives (Holding N M L) (step s at b)
  holding_step s at b (free ns l) =
      gives_if (Holding N M L) (blank b) _ _ (gives_done (Holding N M L) (at_number (text N M) ns) (free ns l))
      (gives_need (Holding N M L) at (ltb (zeros ns) M) _
      (λ e. gives_bind (Holding N M L) (begun N at b) (λ p. done (in_number (text N M) ns p)) (λ p k. gives_done (Holding N M L) (in_number (text N M) ns p) (inside ns p l))))
  holding_step s at b (inside ns p l) =
      gives_if (Holding N M L) (blank b) _ _
      (gives_need (Holding N M L) at (whole p) _
      (λ e. gives_done (Holding N M L) (at_number (text N M) (ns ++ (number_read p ∷ []))) (free (ns ++ (number_read p ∷ [])) (one_more ns (number_read p) l))))
      (gives_bind (Holding N M L) (grown N p at b) (λ q. done (in_number (text N M) ns q)) (λ q k. gives_done (Holding N M L) (in_number (text N M) ns q) (inside ns q l)))

  abbrev Long : Read → Type 0
  Long r = L ≤ length r.list

  ends_long : (s : State) (at : ℕ) → Holding N M L s → Gives Long (end_text at s)
  ends_long s at (free ns l) = gives_need Long at (eqb (zeros ns) M) _ (λ e. gives_done Long (record { n = N; m = M; list = ns }) l)
  ends_long s at (inside ns p l) =
      let all : List ℤ = ns ++ (number_read p ∷ []) in
      gives_need Long at (whole p && eqb (zeros all) M) _ (λ e. gives_done Long (record { n = N; m = M; list = all }) (one_more ns (number_read p) l))

  reads-long : (t : List ℕ) (s : State) (at : ℕ) → Holding N M L s → Gives Long (list_from s at t)
  reads-long [] s at h = ends_long s (at + 0) h
  reads-long (b ∷ t) s at h =
      subst (Gives Long) (sym (list_step s at b t)) (gives_bind Long (step s at b) (λ s'. list_from s' (suc at) t) (λ s' k. reads-long t s' (suc at) (holding_step s at b h s' k)))

-- ---- what is written so far
pub record Writes (N M from numbers clauses at : ℕ) (t : List ℕ) (old now : List ℤ) : Type 0 where
  pub counts : Counts N M from numbers clauses at t
  pub list : now ≡ written counts.ns old

module _ (N M from : ℕ) (t : List ℕ) (old : List ℤ) where
  pub writes_none : Writes N M from 0 0 from t old old
  unfolding counts_none
  writes_none = record { counts = counts_none N M from t; list = written_none old }

  module _ (f : Fits N M from t old) {numbers clauses at : ℕ} {now : List ℤ} (w : Writes N M from numbers clauses at t old now) where
    abbrev so_far : List ℤ
    so_far = w.counts.ns

    goes : list_from (at_number (text N M) so_far) at (drop at t) ≡ done f.read
    goes = w.counts.goes ∙ f.is

    so_far_fits : length so_far ≤ length old
    so_far_fits = omega (arith, reads-long N M (length so_far) (drop at t) (at_number (text N M) so_far) at (free so_far (omega arith)) f.read goes, f.fits)

    pub now_length : length now ≡ length old
    now_length = ap length w.list ∙ written-length so_far old so_far_fits

    -- one number more
    module _ (start : ℕ) (minus : Bool) (size next : ℕ) (h : found_from N (ltb clauses M) at (drop at t) ≡ done (holds (num start minus size) next (drop next t))) where
      abbrev value : ℤ
      value = number_read (num 0 minus size)

      pub number_fits : size ≤ N
      number_fits = found_small N (ltb clauses M) (drop at t) at (holds (num start minus size) next (drop next t)) h

      pub writes_room : numbers < length old
      writes_room =
          let all : List ℤ = so_far ++ (value ∷ []) in
          let on : list_from (at_number (text N M) all) next (drop next t) ≡ done f.read = sym (next_is N M so_far at (drop at t) w.counts.ended h) ∙ goes in
          omega (arith, reads-long N M (length all) (drop next t) (at_number (text N M) all) next (free all (omega arith)) f.read on, f.fits, length-append so_far (value ∷ []), w.counts.long)

      pub writes_more : (after : ℕ) (stored : ℤ) → stored ≡ value → at < next → after ≡ (if eqb size 0 then suc clauses else clauses)
          → Writes N M from (numbers + 1) after next t old (set now numbers stored)
      unfolding counts_more
      writes_more after stored s l e = record {
        counts = counts_more N M from t w.counts start minus size next after h l e;
        list = ap (set now numbers) s ∙ ap (λ z. set z numbers value) w.list ∙ written_snoc so_far old value numbers w.counts.long writes_room;
      }

    pub writes_all : (end : ℕ) → found_from N (ltb clauses M) at (drop at t) ≡ done (ends end) → now ≡ written (numbers_from N M from t) old
    writes_all end h =
        let r : Read = record { n = N; m = M; list = so_far } in
        let k = passed end (eqb (zeros so_far) M) (done r) (sym (next_is N M so_far at (drop at t) w.counts.ended h) ∙ goes) in
        w.list ∙ ap (λ (r : Read). written r.list old) (same k.1) ∙ ap (λ m. written (numbers_of m) old) (sym f.is)

    pub writes_bad : (d : ℕ) → found_from N (ltb clauses M) at (drop at t) ≡ refused 18 d → now ≡ written (numbers_from N M from t) old
    writes_bad d h = never (sym (next_bad N M so_far at (drop at t) w.counts.ended h) ∙ goes)

-- ---- the whole text
module _ (t : List ℕ) (list : List ℤ) where
  pub taken-bad : {n d : ℕ} → refused n d ≡ sized (read_text t) → (refused n d leaves list) ≡ read_text_outcome t list
  unfolding read_text_outcome
  taken-bad e = rw (made_not sizes_read (read_text t) (sym e))

  module _ {N M next : ℕ} (h : line_at t ≡ done (N, M, next, drop next t)) {k : ℕ} (e : sized (list_from (started N M) next (drop next t)) ≡ done (sizes N M k)) where
    by : Made sizes_read (list_from (started N M) next (drop next t)) (sizes N M k)
    by = made_by sizes_read (list_from (started N M) next (drop next t)) e

    long : length by.from.list ≡ k
    long = ap (λ (z : Sizes). z.k) by.makes

    read : read_text t ≡ done by.from
    read = text-read t h ∙ by.is

    pub taken_short : length list < k → (refused 10 k leaves list) ≡ read_text_outcome t list
    unfolding read_text_outcome
    taken_short l = rw (read, long, lt-leb k (length list) l)

    pub taken_fits : k ≤ length list → Fits N M next t list
    taken_fits l = record { read = by.from; is = by.is; fits = omega (arith, long) }

    pub taken-all : (out : List ℤ) → k ≤ length list → out ≡ written (numbers_from N M next t) list → (done (sizes N M k) leaves out) ≡ read_text_outcome t list
    unfolding read_text_outcome written
    taken-all out l w =
        let m = le-leb (length by.from.list) (length list) (omega (arith, long)) in
        ap (λ o. done (sizes N M k) leaves o) (w ∙ ap (λ m. written (numbers_of m) list) by.is)
        ∙ ap (λ z. done z leaves (written by.from.list list)) (sym by.makes)
        ∙ rw (read, m)
