-- Laws of a reply part by part: its numbers one by one, and what they make of the whole. Assumes nothing.
use Rattle.std.specs.Prelude.{◌≡◌, refl, Option, Some, None, Bool, true, false, ◌&&◌, ℕ, suc, ◌+◌, ◌≤◌, ◌<◌, ltb, drop, get_or, ℤ, nat_abs, if◌then◌else◌}
use Rattle.std.proofs.Math.Path.{sym, ap}
use Rattle.std.proofs.Common.{◌∙◌, inl, inr, add-zero, add-one, drop-cons, eq-eqb, ne_eqb, eqb-true, ltb-true, ltb-false}
use mathlib.Core.List.{List, [], ◌∷◌, ◌++◌}
use native.Mathlib.Omega.{arith}
use Rattle.std.proofs.Math.Dec.{eqb}
use Rattle.std.proofs.Math.ListN.{length, length-append}
use Rattle.std.proofs.lemmas.Bool.{eqb-false}
use Rattle.definitions.specs.Result.{Result, ◌>>=◌, ◌>>◌, need, done, refused}
use Rattle.definitions.specs.Dimacs.{ascii}
use Rattle.laws.specs.Readings.{never}
use Rattle.definitions.specs.Texts.{blank}
use Rattle.definitions.specs.TextReading.{Number, number_read, whole, begun, grown, reply, Reply, model, unsatisfiable, State, verdict, at_number, in_number, over, awaits, stops, fed, end_reply, read_reply}
use Rattle.definitions.specs.TextOperations.{often}
use Rattle.laws.specs.Stepping.{num, cases}
use Rattle.demands.specs.Reached.{value-size}
use Rattle.replies.specs.declared.Literal.{Literal}
use Rattle.replies.specs.declared.Heard.{Heard}
use Rattle.replies.specs.Parts.{word_at, number_from, number_at, reply_from, nothing, Taken, last, more, after_number, number_on, value_at, wanted, lines, in_order, Summary, without, literals, summed, none_at, model_at, literals_of, literals_from, HasModel}
use Rattle.replies.specs.Said.{ValueIn, heard_said, HeardIn}
use Rattle.replies.specs.Bytes.{nothing_left, first_of, second_of}
use Rattle.replies.specs.Texts.{from_step, word_parts}

-- ---- what follows a number
module _ (p : Number) (t : List ℕ) (at : ℕ) where
  pub after_none : length t ≤ at → after_number p at (drop at t) ≡ refused 18 at
  after_none h = rw (nothing_left t at h)

  module _ (h : at < length t) where
    pub after_literal : (p.size ≡ 0 → ⊥) → after_number p at (drop at t) ≡ done (more (number_read p) (eqb (get_or t at 0) 10) (at + 1) (drop (at + 1) t))
    after_literal s = rw (add-one at, drop-cons t at 0 h, ne_eqb p.size 0 s)

    module _ (z : p.size ≡ 0) where
      pub after_zero_wrong : eqb (get_or t at 0) 10 ≡ false → after_number p at (drop at t) ≡ refused 18 at
      after_zero_wrong e = rw (drop-cons t at 0 h, eq-eqb p.size 0 z, e)

      zero_on : eqb (get_or t at 0) 10 ≡ true → after_number p at (drop at t) ≡ nothing last (at + 1) (drop (at + 1) t)
      zero_on e = rw (add-one at, drop-cons t at 0 h, eq-eqb p.size 0 z, e)

      pub after_zero : eqb (get_or t at 0) 10 ≡ true → length t ≤ at + 1 → after_number p at (drop at t) ≡ done last
      after_zero e l = zero_on e ∙ rw (nothing_left t (at + 1) l)

      pub after_zero_more : eqb (get_or t at 0) 10 ≡ true → at + 1 < length t → after_number p at (drop at t) ≡ refused 18 (at + 1)
      after_zero_more e l = zero_on e ∙ rw (drop-cons t (at + 1) 0 l)

-- ---- a number and what follows it
after_same : (start : ℕ) (minus : Bool) (size at : ℕ) (t : List ℕ) → after_number (num start minus size) at t ≡ after_number (num 0 minus size) at t
after_same start minus size at [] = refl
after_same start minus size at (b ∷ t) = refl

module _ (N at : ℕ) (t : List ℕ) where
  pub number_then : {start : ℕ} {minus : Bool} {size next : ℕ} {u : List ℕ} → number_at N at t ≡ done (num start minus size, next, u) → number_on N at t ≡ after_number (num 0 minus size) next u
  number_then {start} {minus} {size} {next} {u} h = ap (λ m. m >>= λ r. after_number r.0 r.1 r.2) h ∙ after_same start minus size next u

  pub number-not : {n d : ℕ} → number_at N at t ≡ refused n d → number_on N at t ≡ refused n d
  number-not h = ap (λ m. m >>= λ r. after_number r.0 r.1 r.2) h

  pub value_line : {next : ℕ} {u : List ℕ} (line : Bool) → line ≡ true → word_at (ascii "v ") at t ≡ done (next, u) → value_at N line at t ≡ number_on N next u
  value_line line e h = rw e (ap (λ m. m >>= λ p. number_on N p.0 p.1) h)

  pub value_no_line : {n d : ℕ} (line : Bool) → line ≡ true → word_at (ascii "v ") at t ≡ refused n d → value_at N line at t ≡ refused n d
  value_no_line line e h = rw e (ap (λ m. m >>= λ p. number_on N p.0 p.1) h)

  pub value-within : (line : Bool) → line ≡ false → value_at N line at t ≡ number_on N at t
  value-within line e = rw e

pub number_none : (N : ℕ) (t : List ℕ) (at : ℕ) → length t ≤ at → number_on N at (drop at t) ≡ refused 18 at
number_none N t at h = rw (nothing_left t at h)

pub value_sooner : (from at : ℕ) (t : List ℕ) (r : Option Literal) → from ≤ at → ValueIn at t r → ValueIn from t r
value_sooner from at t (Some literal) l h = (omega (arith, h.0), h.1)
value_sooner from at t None l h = tt

-- ---- all of them
over-parts : (r : Reply) (at : ℕ) (t : List ℕ) → reply_from (over r) at t ≡ nothing r at t
over-parts r at [] = refl
over-parts r at (b ∷ t) = refl

module _ (N : ℕ) (ns : List ℤ) where
  abbrev on_taken : Taken → Result Reply
  on_taken last = done (model ns)
  on_taken (more z line at t) = reply_from (wanted N (ns ++ (z ∷ [])) line) at t

  abbrev go_on : Number × ℕ × List ℕ → Result Reply
  go_on r = after_number r.0 r.1 r.2 >>= on_taken

  nothing-on : (at : ℕ) (t : List ℕ) → nothing (model ns) at t ≡ (nothing last at t >>= on_taken)
  nothing-on at [] = refl
  nothing-on at (b ∷ t) = refl

  -- the byte after a number that is whole
  stopped : (p : Number) (at b : ℕ) (t : List ℕ) → (stops (reply N) ns p at b >>= λ s. reply_from s (suc at) t) ≡ (after_number p at (b ∷ t) >>= on_taken)
  stopped p at b t = go (eqb p.size 0) (eqb b 10)
    where
      all : State
      all = wanted N (ns ++ (number_read p ∷ [])) (eqb b 10)

      go : (z e : Bool) → ((if z then need 18 at e >> done (over (model ns)) else done all) >>= λ s. reply_from s (suc at) t)
          ≡ ((if z then need 18 at e >> nothing last (suc at) t else done (more (number_read p) (eqb b 10) (suc at) t)) >>= on_taken)
      go true true = over-parts (model ns) (suc at) t ∙ nothing-on (suc at) t
      go true false = refl
      go false e = refl

  within_goes : (p : Number) (at : ℕ) (t : List ℕ) → reply_from (in_number (reply N) ns p) at t ≡ (number_from N p at t >>= go_on)
  within_goes p at [] = rw (add-zero at) (go (whole p))
    where
      go : (w : Bool) → refused 18 at ≡ ((need 18 at w >> done (p, at, [])) >>= go_on)
      go true = refl
      go false = refl
  within_goes p at (b ∷ t) = from_step end_reply (in_number (reply N) ns p) at b t ∙ elim (cases (blank b)) [
    | inl e ↦ rw e (blanks (whole p))
    | inr e ↦ rw e (grows (grown N p at b) (λ q. within_goes q (suc at) t))
  ]
    where
      blanks : (w : Bool) → ((need 18 at w >> stops (reply N) ns p at b) >>= λ s. reply_from s (suc at) t) ≡ ((need 18 at w >> done (p, at, b ∷ t)) >>= go_on)
      blanks true = stopped p at b t
      blanks false = refl

      grows : (g : Result Number) → ((q : Number) → reply_from (in_number (reply N) ns q) (suc at) t ≡ (number_from N q (suc at) t >>= go_on))
          → ((g >>= λ q. done (in_number (reply N) ns q)) >>= λ s. reply_from s (suc at) t) ≡ ((g >>= λ q. number_from N q (suc at) t) >>= go_on)
      grows (done q) k = k q
      grows (refused n d) k = refl

  number_goes : (at : ℕ) (t : List ℕ) → reply_from (at_number (reply N) ns) at t ≡ (number_on N at t >>= on_taken)
  number_goes at [] = rw (add-zero at)
  number_goes at (b ∷ t) = from_step end_reply (at_number (reply N) ns) at b t ∙ begins (begun N at b) ∙ regroup (begun N at b >>= λ p. number_from N p (suc at) t)
    where
      begins : (g : Result Number) → ((g >>= λ p. done (in_number (reply N) ns p)) >>= λ s. reply_from s (suc at) t) ≡ ((g >>= λ p. number_from N p (suc at) t) >>= go_on)
      begins (done p) = within_goes p (suc at) t
      begins (refused n d) = refl

      regroup : (m : Result (Number × ℕ × List ℕ)) → (m >>= go_on) ≡ ((m >>= λ r. after_number r.0 r.1 r.2) >>= on_taken)
      regroup (done r) = refl
      regroup (refused n d) = refl

  values_go : (line : Bool) (at : ℕ) (t : List ℕ) → reply_from (wanted N ns line) at t ≡ (value_at N line at t >>= on_taken)
  values_go false at t = number_goes at t
  values_go true at t = word_parts end_reply (λ c cs s n. refl) (ascii "v ") [] (at_number (reply N) ns) at t ∙ go (word_at (ascii "v ") at t)
    where
      go : (m : Result (ℕ × List ℕ)) → (m >>= λ p. reply_from (at_number (reply N) ns) p.0 p.1) ≡ ((m >>= λ p. number_on N p.0 p.1) >>= on_taken)
      go (done p) = number_goes p.0 p.1
      go (refused n d) = refl

  module _ (line : Bool) (at : ℕ) (t : List ℕ) where
    pub taken_is : {f : Taken} → value_at N line at t ≡ done f → reply_from (wanted N ns line) at t ≡ on_taken f
    taken_is h = values_go line at t ∙ ap (λ m. m >>= on_taken) h

    taken-bad : {n d : ℕ} → value_at N line at t ≡ refused n d → reply_from (wanted N ns line) at t ≡ refused n d
    taken-bad h = values_go line at t ∙ ap (λ m. m >>= on_taken) h

-- in order, and one more
order_snoc : (k : ℕ) (ns : List ℤ) (z : ℤ) → in_order k (ns ++ (z ∷ [])) ≡ (in_order k ns && eqb (nat_abs z) (k + length ns))
order_snoc k [] z = let e : k + 0 ≡ k = omega arith in rw e (go (eqb (nat_abs z) k))
  where
    go : (b : Bool) → (b && true) ≡ b
    go true = refl
    go false = refl
order_snoc k (n ∷ ns) z =
    let e : suc k + length ns ≡ k + suc (length ns) = omega arith in
    ap (λ b. eqb (nat_abs n) k && b) (order_snoc (suc k) ns z ∙ ap (λ j. in_order (suc k) ns && eqb (nat_abs z) j) e)
    ∙ go (eqb (nat_abs n) k) (in_order (suc k) ns) (eqb (nat_abs z) (k + suc (length ns)))
  where
    go : (a b c : Bool) → (a && (b && c)) ≡ ((a && b) && c)
    go true b c = refl
    go false b c = refl

-- what is read so far of a reply's literals
pub record Passed (N from : ℕ) (line : Bool) (at : ℕ) (t : List ℕ) : Type 0 where
  pub ns : List ℤ
  pub goes : reply_from (wanted N ns line) at (drop at t) ≡ reply_from (lines N) from (drop from t)

module _ (N from : ℕ) (t : List ℕ) where
  unfoldable pub passed_none : Passed N from true from t
  passed_none = record { ns = []; goes = refl }

  module _ {line : Bool} {at : ℕ} (k : Passed N from line at t) where
    unfoldable pub passed_more : {z : ℤ} {begins : Bool} {next : ℕ} → value_at N line at (drop at t) ≡ done (more z begins next (drop next t)) → Passed N from begins next t
    passed_more {z} f = record { ns = k.ns ++ (z ∷ []); goes = sym (taken_is N k.ns line at (drop at t) f) ∙ k.goes }

    pub passed_all : value_at N line at (drop at t) ≡ done last → reply_from (lines N) from (drop from t) ≡ done (model k.ns)
    passed_all f = sym k.goes ∙ taken_is N k.ns line at (drop at t) f

    pub passed_bad : {n d : ℕ} → value_at N line at (drop at t) ≡ refused n d → reply_from (lines N) from (drop from t) ≡ refused n d
    passed_bad f = sym k.goes ∙ taken-bad N k.ns line at (drop at t) f

-- ---- what is counted of them
pub record Literals (N from : ℕ) (line : Bool) (count : ℕ) (rising : Bool) (at : ℕ) (t : List ℕ) : Type 0 where
  pub passed : Passed N from line at t
  pub long : length passed.ns ≡ count
  pub order : in_order 1 passed.ns ≡ rising
  pub short : count ≤ at

module _ (N from : ℕ) (t : List ℕ) where
  pub literals_none : Literals N from true 0 true from t
  unfolding passed_none
  literals_none = record { passed = passed_none N from t; long = refl; order = refl; short = omega arith }

  module _ {line : Bool} {count : ℕ} {rising : Bool} {at : ℕ} (k : Literals N from line count rising at t) where
    pub literals-more : (minus : Bool) (size : ℕ) (begins : Bool) (next : ℕ) (rises : Bool)
        → value_at N line at (drop at t) ≡ done (more (number_read (num 0 minus size)) begins next (drop next t)) → at < next
        → rises ≡ (rising && eqb size (count + 1)) → Literals N from begins (count + 1) rises next t
    unfolding passed_more
    literals-more minus size begins next rises f l r =
        let z = number_read (num 0 minus size) in
        let ns = k.passed.ns in
        let e : 1 + length ns ≡ count + 1 = omega (arith, k.long) in
        record {
          passed = passed_more N from t k.passed f;
          long = omega (arith, length-append ns (z ∷ []), k.long);
          order = order_snoc 1 ns z
              ∙ ap (λ a. a && eqb (nat_abs z) (1 + length ns)) k.order
              ∙ ap (λ a. rising && eqb a (1 + length ns)) (value-size (num 0 minus size))
              ∙ ap (λ a. rising && eqb size a) e
              ∙ sym r;
          short = omega (arith, k.short);
        }

    pub literals-all : value_at N line at (drop at t) ≡ done last → done (literals count rising) ≡ summed (reply_from (lines N) from (drop from t))
    literals-all f =
        ap (λ c. done (literals c rising)) (sym k.long)
        ∙ ap (λ b. done (literals (length k.passed.ns) b)) (sym k.order)
        ∙ ap summed (sym (passed_all N from t k.passed f))

    pub literals-bad : (d : ℕ) → value_at N line at (drop at t) ≡ refused 18 d → refused 18 d ≡ summed (reply_from (lines N) from (drop from t))
    literals-bad d f = ap summed (sym (passed_bad N from t k.passed f))

-- ---- what is made of them: of the literals read so far, and at the end of all
pub record Passing {A : Type 0} (f : List ℤ → A) (N from : ℕ) (line : Bool) (at : ℕ) (t : List ℕ) (now : A) : Type 0 where
  pub passed : Passed N from line at t
  pub held : now ≡ f passed.ns

module _ {A : Type 0} (f : List ℤ → A) (N from : ℕ) (t : List ℕ) where
  pub passing_none : {now : A} → now ≡ f [] → Passing f N from true from t now
  unfolding passed_none
  passing_none e = record { passed = passed_none N from t; held = e }

  module _ {line : Bool} {at : ℕ} {now : A} (k : Passing f N from line at t now) where
    pub passing-more : {z : ℤ} {begins : Bool} {next : ℕ} {after : A} → value_at N line at (drop at t) ≡ done (more z begins next (drop next t))
        → ((ns : List ℤ) → now ≡ f ns → after ≡ f (ns ++ (z ∷ []))) → Passing f N from begins next t after
    unfolding passed_more
    passing-more h e = record { passed = passed_more N from t k.passed h; held = e k.passed.ns k.held }

    pub passing-all : value_at N line at (drop at t) ≡ done last → now ≡ f (literals_from N from t)
    passing-all h = k.held ∙ ap (λ m. f (literals_of m)) (sym (passed_all N from t k.passed h))

    pub passing-bad : HasModel N from t → {n d : ℕ} → value_at N line at (drop at t) ≡ refused n d → now ≡ f (literals_from N from t)
    passing-bad g h = never (sym (passed_bad N from t k.passed h) ∙ g.is)

-- ---- a whole reply
no_literals : {B : Type 0} {count : ℕ} {rising : Bool} (w : Result (ℕ × List ℕ)) → done (literals count rising) ≡ summed (w >>= λ p. nothing unsatisfiable p.0 p.1) → B
no_literals (refused n d) e = never (sym e)
no_literals {B} {count} {rising} (done p) e = go p.1 e
  where
    go : (u : List ℕ) → done (literals count rising) ≡ summed (nothing unsatisfiable p.0 u) → B
    go [] e = absurd (let z : ◌≡◌ {A = ℕ} 0 1 = cc in omega arith)
    go (b ∷ u) e = never (sym e)

module _ (at : ℕ) (t : List ℕ) where
  pub none_in : (N : ℕ) (s : List ℕ) (m : Result Reply) (r : Option Heard) → done (heard_said r) ≡ summed (none_at at t) → HeardIn N s m r
  none_in N s m None e = tt
  none_in N s m (Some heard) e = no_literals (word_at (ascii "UNSATISFIABLE\n") at t) e

  pub none_wrong : {n d : ℕ} → word_at (ascii "UNSATISFIABLE\n") at t ≡ refused n d → refused n d ≡ summed (none_at at t)
  none_wrong h = sym (ap summed (ap (λ m. m >>= λ p. nothing unsatisfiable p.0 p.1) h))

  module _ (s : List ℕ) {next : ℕ} (h : word_at (ascii "UNSATISFIABLE\n") at t ≡ done (next, drop next s)) where
    none_on : none_at at t ≡ nothing unsatisfiable next (drop next s)
    none_on = ap (λ m. m >>= λ p. nothing unsatisfiable p.0 p.1) h

    pub none_ends : length s ≤ next → done without ≡ summed (none_at at t)
    none_ends l = sym (ap summed (none_on ∙ ap (nothing unsatisfiable next) (nothing_left s next l)))

    pub none_more : next < length s → refused 18 next ≡ summed (none_at at t)
    none_more l = sym (ap summed (none_on ∙ ap (nothing unsatisfiable next) (drop-cons s next 0 l)))

  module _ (N : ℕ) where
    abbrev on_lines : ℕ × List ℕ → Result Reply
    on_lines p = reply_from (lines N) p.0 p.1

    pub model_wrong : {n d : ℕ} → word_at (ascii "SATISFIABLE\n") at t ≡ refused n d → refused n d ≡ summed (model_at N at t)
    model_wrong h = sym (ap summed (ap (λ m. m >>= on_lines) h))

    module _ {next : ℕ} {u : List ℕ} (h : word_at (ascii "SATISFIABLE\n") at t ≡ done (next, u)) where
      pub model-from : model_at N at t ≡ reply_from (lines N) next u
      model-from = ap (λ m. m >>= on_lines) h

      pub model_is : {z : Summary} → summed (reply_from (lines N) next u) ≡ done z → done z ≡ summed (model_at N at t)
      model_is e = sym (ap summed model-from ∙ e)

      pub model-bad : {n d : ℕ} → summed (reply_from (lines N) next u) ≡ refused n d → refused n d ≡ summed (model_at N at t)
      model-bad e = sym (ap summed model-from ∙ e)

module _ (N : ℕ) where
  abbrev judged : ℕ → List ℕ → Result Reply
  judged = reply_from (verdict N)

  judged_none : (at : ℕ) (t : List ℕ) → judged at (85 ∷ t) ≡ none_at at (85 ∷ t)
  judged_none at t =
      from_step end_reply (verdict N) at 85 t
      ∙ word_parts end_reply (λ c cs s n. refl) (ascii "NSATISFIABLE\n") [] (over unsatisfiable) (suc at) t
      ∙ go (word_at (ascii "NSATISFIABLE\n") (suc at) t)
    where
      go : (m : Result (ℕ × List ℕ)) → (m >>= λ p. reply_from (over unsatisfiable) p.0 p.1) ≡ (m >>= λ p. nothing unsatisfiable p.0 p.1)
      go (done p) = over-parts unsatisfiable p.0 p.1
      go (refused n d) = refl

  judged-model : (at b : ℕ) (t : List ℕ) → (b ≡ 85 → ⊥) → judged at (b ∷ t) ≡ model_at N at (b ∷ t)
  judged-model at b t h = from_step end_reply (verdict N) at b t ∙ rw (ne_eqb b 85 h) (go (eqb b 83))
    where
      go : (e : Bool) → ((need 18 at e >> done (awaits (ascii "ATISFIABLE\nv ") (at_number (reply N) []))) >>= λ s. reply_from s (suc at) t)
          ≡ ((if e then word_at (ascii "ATISFIABLE\n") (suc at) t else refused 18 at) >>= λ p. reply_from (lines N) p.0 p.1)
      go true = word_parts end_reply (λ c cs s n. refl) (ascii "ATISFIABLE\n") (ascii "v ") (at_number (reply N) []) (suc at) t
      go false = refl

module _ (N : ℕ) (t : List ℕ) where
  reply-parts : read_reply N t ≡ (word_at (ascii "s ") 0 t >>= λ p. judged N p.0 p.1)
  unfolding read_reply
  reply-parts =
      let e : length t ≡ 0 + length t = omega arith in
      ap (λ k. fed (awaits (ascii "s ") (verdict N)) 0 t >>= end_reply k) e ∙ word_parts end_reply (λ c cs s n. refl) (ascii "s ") [] (verdict N) 0 t

  pub reply_wrong : {n d : ℕ} → word_at (ascii "s ") 0 t ≡ refused n d → refused n d ≡ summed (read_reply N t)
  reply_wrong h = sym (ap summed (reply-parts ∙ ap (λ m. m >>= λ p. judged N p.0 p.1) h))

  module _ {next : ℕ} (h : word_at (ascii "s ") 0 t ≡ done (next, drop next t)) where
    reply-on : read_reply N t ≡ judged N next (drop next t)
    reply-on = reply-parts ∙ ap (λ m. m >>= λ p. judged N p.0 p.1) h

    pub reply_ends : length t ≤ next → refused 18 next ≡ summed (read_reply N t)
    reply_ends l =
        let bad : judged N next [] ≡ refused 18 next = ap (refused 18) (add-zero next) in
        sym (ap summed (reply-on ∙ ap (judged N next) (nothing_left t next l) ∙ bad))

    pub reply_none : next < length t → get_or t next 0 ≡ 85 → summed (none_at next (drop next t)) ≡ summed (read_reply N t)
    reply_none l e =
        let is : drop next t ≡ 85 ∷ drop (suc next) t = drop-cons t next 0 l ∙ ap (λ b. b ∷ drop (suc next) t) e in
        ap summed (ap (none_at next) is ∙ sym (judged_none N next (drop (suc next) t)) ∙ ap (judged N next) (sym is) ∙ sym reply-on)

    pub reply-model : (next < length t → get_or t next 0 ≡ 85 → ⊥) → model_at N next (drop next t) ≡ read_reply N t
    reply-model e = elim (cases (ltb next (length t))) [
      | inl k ↦ (let l = ltb-true next (length t) k in
          let is = drop-cons t next 0 l in
          ap (model_at N next) is ∙ sym (judged-model N next (get_or t next 0) (drop (suc next) t) (e l)) ∙ ap (judged N next) (sym is) ∙ sym reply-on)
      | inr k ↦ (let is = nothing_left t next (ltb-false next (length t) k) in
          ap (model_at N next) is ∙ ap (refused 18) (sym (add-zero next)) ∙ ap (judged N next) (sym is) ∙ sym reply-on)
    ]

-- ---- literals of k, k + 1, .. in order: each variable of them stands there once
often-before : (k v : ℕ) (ns : List ℤ) → in_order k ns ≡ true → v < k → often v ns ≡ 0
often-before k v [] h l = refl
often-before k v (n ∷ ns) h l =
    let e = eqb-true (nat_abs n) k (first_of (eqb (nat_abs n) k) (in_order (suc k) ns) h) in
    rw (ne_eqb (nat_abs n) v (λ z. omega (arith, e, z))) (often-before (suc k) v ns (second_of (eqb (nat_abs n) k) (in_order (suc k) ns) h) (omega arith))

pub often-once : (k v : ℕ) (ns : List ℤ) → in_order k ns ≡ true → k ≤ v → v < k + length ns → often v ns ≡ 1
often-once k v [] h l m = absurd (omega arith)
often-once k v (n ∷ ns) h l m = elim (cases (eqb (nat_abs n) v)) [
  | inl f ↦ (let y = eqb-true (nat_abs n) v f in rw f (ap suc (often-before (suc k) v ns (second_of (eqb (nat_abs n) k) (in_order (suc k) ns) h) (omega (arith, e, y)))))
  | inr f ↦ (let y = eqb-false (nat_abs n) v f in rw f (often-once (suc k) v ns (second_of (eqb (nat_abs n) k) (in_order (suc k) ns) h) (above k v (λ z. y (e ∙ z)) l) (omega arith)))
]
  where
    e : nat_abs n ≡ k
    e = eqb-true (nat_abs n) k (first_of (eqb (nat_abs n) k) (in_order (suc k) ns) h)

    above : (k v : ℕ) → (k ≡ v → ⊥) → k ≤ v → suc k ≤ v
    above k v y l = elim (cases (ltb k v)) [ inl z ↦ (let w = ltb-true k v z in omega arith) | inr z ↦ absurd (let w = ltb-false k v z in y (omega arith)) ]
