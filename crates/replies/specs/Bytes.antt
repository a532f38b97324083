-- Laws of the parts, one byte on. Assumes nothing.
use Rattle.std.specs.Prelude.{◌≡◌, refl, Bool, true, false, ◌&&◌, List, [], ◌∷◌, ℕ, ◌+◌, ◌*◌, ◌-◌, ◌≤◌, ◌<◌, ltb, length, drop, get_or}
use Rattle.std.proofs.Common.{sym, ap, ◌∙◌, add-one, arith, length-drop, drop-cons, eq-eqb, ne_eqb, le-leb}
use Rattle.std.proofs.lemmas.Bool.{lt-leb}
use Rattle.definitions.specs.Result.{Result, ◌>>=◌, done, refused}
use Rattle.laws.specs.Readings.{same, never}
use Rattle.laws.specs.Refusals.{refusal_is}
use Rattle.definitions.specs.Texts.{blank, most}
use Rattle.definitions.specs.TextReading.{digit, Number, whole, begun, grown}
use Rattle.laws.specs.Stepping.{num}
use Rattle.replies.specs.Parts.{word_at, count_from, count_at, number_from, number_at, Found, ends, holds, found_from}

pub via : {A : Type 0} {x y z : A} → x ≡ y → x ≡ z → y ≡ z
via p q = sym p ∙ q

pub first_of : (a b : Bool) → (a && b) ≡ true → a ≡ true
first_of true b h = refl
first_of false b h = h

pub second_of : (a b : Bool) → (a && b) ≡ true → b ≡ true
second_of true b h = h
second_of false b h = absurd (let z : ◌≡◌ {A = ℕ} 0 1 = cc in omega arith)

pub nothing_left : (t : List ℕ) (at : ℕ) → length t ≤ at → drop at t ≡ []
nothing_left t at h = go (drop at t) (omega (arith, length-drop at t))
  where
    go : (l : List ℕ) → length l ≡ 0 → l ≡ []
    go [] e = refl
    go (x ∷ l) e = absurd (omega arith)

-- ---- a word
module _ (w : List ℕ) (i : ℕ) (t : List ℕ) (at : ℕ) where
  pub word_step : i < length w → at < length t → get_or t at 0 ≡ get_or w i 0 → word_at (drop i w) at (drop at t) ≡ word_at (drop (i + 1) w) (at + 1) (drop (at + 1) t)
  word_step l h e = rw (add-one i, add-one at, drop-cons w i 0 l, drop-cons t at 0 h, eq-eqb (get_or t at 0) (get_or w i 0) e)

  pub word_short : i < length w → length t ≤ at → word_at (drop i w) at (drop at t) ≡ refused 18 at
  word_short l h = rw (drop-cons w i 0 l, nothing_left t at h)

  pub word_wrong : i < length w → at < length t → (get_or t at 0 ≡ get_or w i 0 → ⊥) → word_at (drop i w) at (drop at t) ≡ refused 18 at
  word_wrong l h e = rw (drop-cons w i 0 l, drop-cons t at 0 h, ne_eqb (get_or t at 0) (get_or w i 0) e)

  pub word_past : length w ≤ i → word_at (drop i w) at (drop at t) ≡ done (at, drop at t)
  word_past l = rw (nothing_left w i l)

abbrev held : Number × ℕ × List ℕ → Result Found
held r = done (holds r.0 r.1 r.2)

-- ---- a number's first byte
module _ (N at b : ℕ) where
  pub begun_minus : b ≡ 45 → 1 ≤ N → begun N at b ≡ done (num at true 0)
  begun_minus e l = rw (eq-eqb b 45 e, le-leb 1 N l)

  pub begun_no_minus : b ≡ 45 → N < 1 → begun N at b ≡ refused 18 at
  begun_no_minus e l = rw (eq-eqb b 45 e, lt-leb 1 N l)

  pub begun_wrong : (b ≡ 45 → ⊥) → digit b ≡ false → begun N at b ≡ refused 18 at
  begun_wrong e d = rw (ne_eqb b 45 e, d)

  pub begun-beyond : (w : ℕ) → (b ≡ 45 → ⊥) → digit b ≡ true → w ≡ b - 48 → N < w → begun N at b ≡ refused 18 at
  begun-beyond w e d f l = rw (ne_eqb b 45 e, d, ← f, lt-leb w N l)

  pub begun-digit : (w : ℕ) → (b ≡ 45 → ⊥) → digit b ≡ true → w ≡ b - 48 → w ≤ N → begun N at b ≡ done (num at false w)
  begun-digit w e d f l = rw (ne_eqb b 45 e, d, ← f, le-leb w N l)

-- ---- a byte at a place
module _ (t : List ℕ) (at : ℕ) (h : at < length t) where
  pub count-step : (v w : ℕ) → (ltb 0 v && digit (get_or t at 0)) ≡ true → w ≡ get_or t at 0 - 48 → 10 * v + w ≤ most → count_from v at (drop at t) ≡ count_from (10 * v + w) (at + 1) (drop (at + 1) t)
  count-step v w e f l = rw (add-one at, drop-cons t at 0 h, e, ← f, le-leb (10 * v + w) most l)

  pub count-over : (v w : ℕ) → (ltb 0 v && digit (get_or t at 0)) ≡ true → w ≡ get_or t at 0 - 48 → most < 10 * v + w → count_from v at (drop at t) ≡ refused 18 at
  count-over v w e f l = rw (drop-cons t at 0 h, e, ← f, lt-leb (10 * v + w) most l)

  pub count-stops : (v : ℕ) → (ltb 0 v && digit (get_or t at 0)) ≡ false → count_from v at (drop at t) ≡ done (v, at, drop at t)
  count-stops v e = rw (drop-cons t at 0 h, e)

  pub count_begins : (w : ℕ) → digit (get_or t at 0) ≡ true → w ≡ get_or t at 0 - 48 → count_at at (drop at t) ≡ count_from w (at + 1) (drop (at + 1) t)
  count_begins w e f = rw (add-one at, drop-cons t at 0 h, e, ← f)

  pub count_wrong : digit (get_or t at 0) ≡ false → count_at at (drop at t) ≡ refused 18 at
  count_wrong e = rw (drop-cons t at 0 h, e)

  module _ (N : ℕ) (p : Number) where
    pub number_step : {q : Number} → blank (get_or t at 0) ≡ false → grown N p at (get_or t at 0) ≡ done q → number_from N p at (drop at t) ≡ number_from N q (at + 1) (drop (at + 1) t)
    number_step e g = rw (add-one at, drop-cons t at 0 h, e, g)

    pub number_refused : {n d : ℕ} → blank (get_or t at 0) ≡ false → grown N p at (get_or t at 0) ≡ refused n d → number_from N p at (drop at t) ≡ refused n d
    number_refused e g = rw (drop-cons t at 0 h, e, g)

    pub number_done : blank (get_or t at 0) ≡ true → whole p ≡ true → number_from N p at (drop at t) ≡ done (p, at, drop at t)
    number_done e w = rw (drop-cons t at 0 h, e, w)

    pub number_part : blank (get_or t at 0) ≡ true → whole p ≡ false → number_from N p at (drop at t) ≡ refused 18 at
    number_part e w = rw (drop-cons t at 0 h, e, w)

  module _ (N : ℕ) where
    pub number_begins : {p : Number} → begun N at (get_or t at 0) ≡ done p → number_at N at (drop at t) ≡ number_from N p (at + 1) (drop (at + 1) t)
    number_begins e = rw (add-one at, drop-cons t at 0 h, e)

    pub number_wrong : {n d : ℕ} → begun N at (get_or t at 0) ≡ refused n d → number_at N at (drop at t) ≡ refused n d
    number_wrong e = rw (drop-cons t at 0 h, e)

    module _ (room : Bool) where
      pub found_blank : blank (get_or t at 0) ≡ true → found_from N room at (drop at t) ≡ found_from N room (at + 1) (drop (at + 1) t)
      found_blank e = rw (add-one at, drop-cons t at 0 h, e)

      pub found_no_room : blank (get_or t at 0) ≡ false → room ≡ false → found_from N room at (drop at t) ≡ refused 18 at
      found_no_room e r = rw (drop-cons t at 0 h, e, r)

      found_other : blank (get_or t at 0) ≡ false → room ≡ true → found_from N room at (drop at t) ≡ (number_at N at (drop at t) >>= held)
      found_other e r = rw (drop-cons t at 0 h, e, r)

      pub found_number : {p : Number} {next : ℕ} {u : List ℕ} → blank (get_or t at 0) ≡ false → room ≡ true → number_at N at (drop at t) ≡ done (p, next, u) → found_from N room at (drop at t) ≡ done (holds p next u)
      found_number e r k = found_other e r ∙ ap (λ m. m >>= held) k

      pub found_bad : {n d : ℕ} → blank (get_or t at 0) ≡ false → room ≡ true → number_at N at (drop at t) ≡ refused n d → found_from N room at (drop at t) ≡ refused n d
      found_bad e r k = found_other e r ∙ ap (λ m. m >>= held) k

-- ---- the end
module _ (t : List ℕ) (at : ℕ) (h : length t ≤ at) where
  pub count-end : (v : ℕ) → count_from v at (drop at t) ≡ done (v, at, drop at t)
  count-end v = rw (nothing_left t at h)

  pub count_none : count_at at (drop at t) ≡ refused 18 at
  count_none = rw (nothing_left t at h)

  module _ (N : ℕ) (p : Number) where
    pub number-end : whole p ≡ true → number_from N p at (drop at t) ≡ done (p, at, drop at t)
    number-end w = rw (nothing_left t at h, w)

    pub number_end_part : whole p ≡ false → number_from N p at (drop at t) ≡ refused 18 at
    number_end_part w = rw (nothing_left t at h, w)

  pub found_end : (N : ℕ) (room : Bool) → found_from N room at (drop at t) ≡ done (ends at)
  found_end N room = rw (nothing_left t at h)

-- what a call ensures of its result, where a match has told which case the result is
pub told : {A B : Type 0} (f : A → B) {x y : A} {z : B} → f x ≡ z → x ≡ y → z ≡ f y
told f p q = sym p ∙ ap f q

-- what a value was made of, and where there was none
pub record Made {A B : Type 0} (f : A → B) (m : Result A) (b : B) : Type 0 where
  pub from : A
  pub is : m ≡ done from
  pub makes : f from ≡ b

pub made_by : {A B : Type 0} (f : A → B) (m : Result A) {b : B} → (m >>= λ a. done (f a)) ≡ done b → Made f m b
made_by f (done a) e = record { from = a; is = refl; makes = same e }
made_by f (refused n d) e = never e

pub made_not : {A B : Type 0} (f : A → B) (m : Result A) {n d : ℕ} → (m >>= λ a. done (f a)) ≡ refused n d → m ≡ refused n d
made_not f (done a) e = never (sym e)
made_not f (refused n d) {n = n'} e = let r = refusal_is e in ap (λ x. refused x d) r.0 ∙ ap (refused n') r.1
