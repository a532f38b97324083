-- The first demand, "the refusal and detail that 01 fixes": when a record is refused, with which number and at which place. Assumes nothing.
use Rattle.std.specs.Prelude.{◌≡◌, ◌≢◌, ◌⊎◌, ◌↔◌, Bool, true, false, List, ℕ, ◌+◌, ◌-◌, ◌≤◌, ◌<◌, length, leb, ltb, eqb, if◌then◌else◌}
use Rattle.std.proofs.Math.Path.{refl}
use Rattle.std.proofs.Common.{sym, ◌∙◌, arith}
use Rattle.std.proofs.Math.Logic.{inl, inr}
use Rattle.std.proofs.Math.ListN.{get_or}
use borrow.Author.Tests.{leb-true, leb-false, ltb-true, ltb-false, le-leb, lt-leb, eqb-true, eqb-false, eq-eqb, ne_eqb}
use Rattle.definitions.specs.Board.{Board}
use Rattle.definitions.specs.Result.{Result, done, refused, need}
use Rattle.definitions.specs.Result as result
use Rattle.definitions.specs.Reading.{Got, big, read_body}
use Rattle.definitions.specs.Encoding.{K}
use Rattle.definitions.specs.Operations.{read_board, accepted}
use Rattle.laws.specs.Readings.{never, place}
use Rattle.laws.specs.Grammar.{finds}
use Rattle.laws.specs.Reread.{wrapped, accepted-parts}
use Rattle.definitions.specs.Tools.{All}
use Rattle.laws.specs.Refusals.{Ranged, integer_count, boolean_count, clause_count, lower, upper, literal_count, kind, boolean_number, term_count, coefficient, variable, constant, rule, Agree, agree_less, big_agree, Outside, Because, missing, bad, refusal_is}
use Rattle.laws.specs.Explained.{explained_body}

-- ---- "exactly when its condition is the first met in this order"
-- the checks of the first 5 bytes are passed
pub record Headed (s : List ℕ) : Type 0 where
  pub short : length s ≤ 65536
  pub five : 5 ≤ length s
  pub version : get_or s 0 0 ≡ 1
  pub stated : big s 1 4 ≡ length s - 5

-- why s is refused, with the number and the detail
pub data Why (s : List ℕ) : ℕ → ℕ → Type 0 where
  too_long : 65536 < length s → Why s 1 0
  too_short : length s < 5 → Why s 2 0
  another_version : 5 ≤ length s → length s ≤ 65536 → get_or s 0 0 ≢ 1 → Why s 3 0
  another_length : 5 ≤ length s → length s ≤ 65536 → get_or s 0 0 ≡ 1 → big s 1 4 ≢ length s - 5 → Why s 2 0
  in_the_body : {n p : ℕ} → Headed s → read_body 1 s 5 ≡ refused n p → Because (read_body 1) s 5 n p → Why s n p
  left_over : {p : ℕ} (B : Board) → Headed s → read_body 1 s 5 ≡ finds B p → p ≢ length s → Why s 8 p
  too_large : (B : Board) → read_board s ≡ done B → 2000000000 < K B → Why s 9 0

-- a check fails, or what follows it is refused
tried : {A : Type 0} (n d : ℕ) (t : Bool) (m : Result A) {k e : ℕ} → result.◌>>◌ (need n d t) m ≡ refused k e
    → ((t ≡ false) × (n ≡ k) × (d ≡ e)) ⊎ ((t ≡ true) × (m ≡ refused k e))
tried n d true m h = inr (refl, h)
tried n d false m h = let x = refusal_is h in inl (refl, x.0, x.1)

module _ (s : List ℕ) where
  body_refused : Headed s → (n d : ℕ) (m : Result (Got Board)) → read_body 1 s 5 ≡ m
      → result.◌>>=◌ m (λ g. result.◌>>◌ (need 8 g.next (eqb g.next (length s))) (done g.value)) ≡ refused n d → Why s n d
  body_refused h n d (done g) c e =
      elim (tried 8 g.next (eqb g.next (length s)) (done g.value) e) [
        | inl x ↦ rw (← x.1, ← x.2) (left_over g.value h c (eqb-false _ _ x.0))
        | inr y ↦ never (sym y.1)
      ]
  body_refused h n d (refused n' d') c e =
      let x = refusal_is e in
      let c' : read_body 1 s 5 ≡ refused n d = rw (← x.0, ← x.1) c in
      in_the_body h c' ((explained_body 1).explains s 5 n d h.five c')

  board_refused : (n d : ℕ) → read_board s ≡ refused n d → Why s n d
  unfolding read_board
  board_refused n d e =
      elim (tried 1 0 (leb (length s) 65536) _ e) [
        | inl x ↦ rw (← x.1, ← x.2) (too_long (leb-false _ _ x.0))
        | inr a ↦ elim (tried 2 0 (leb 5 (length s)) _ a.1) [
          | inl x ↦ rw (← x.1, ← x.2) (too_short (leb-false _ _ x.0))
          | inr b ↦ elim (tried 3 0 (eqb (get_or s 0 0) 1) _ b.1) [
            | inl x ↦ rw (← x.1, ← x.2) (another_version (leb-true _ _ b.0) (leb-true _ _ a.0) (eqb-false _ _ x.0))
            | inr c ↦ elim (tried 2 0 (eqb (big s 1 4) (length s - 5)) _ c.1) [
              | inl x ↦ rw (← x.1, ← x.2) (another_length (leb-true _ _ b.0) (leb-true _ _ a.0) (eqb-true _ _ c.0) (eqb-false _ _ x.0))
              | inr d' ↦
                  (let v : get_or s 0 0 ≡ 1 = eqb-true _ _ c.0 in
                  let h : Headed s = record { short = leb-true _ _ a.0; five = leb-true _ _ b.0; version = v; stated = eqb-true _ _ d'.0 } in
                  body_refused h n d (read_body 1 s 5) refl (rw v at d'.1))
            ]
          ]
        ]
      ]

  why : (n d : ℕ) → accepted s ≡ refused n d → Why s n d
  unfolding accepted
  why n d e = go (read_board s) refl e
    where
      go : (m : Result Board) → read_board s ≡ m → result.◌>>=◌ m (λ B. result.◌>>◌ (need 9 0 (leb (K B) 2000000000)) (done B)) ≡ refused n d → Why s n d
      go (done B) c e =
          elim (tried 9 0 (leb (K B) 2000000000) (done B) e) [
            | inl x ↦ rw (← x.1, ← x.2) (too_large B c (leb-false _ _ x.0))
            | inr y ↦ never (sym y.1)
          ]
      go (refused n' d') c e = let x = refusal_is e in board_refused n d (rw (← x.0, ← x.1) c)

  because : (n d : ℕ) → Why s n d → accepted s ≡ refused n d
  unfolding accepted read_board
  because n d (too_long h) = rw (lt-leb (length s) 65536 h)
  because n d (too_short h) = rw (le-leb (length s) 65536 (omega arith), lt-leb 5 (length s) h)
  because n d (another_version f l h) = rw (le-leb (length s) 65536 l, le-leb 5 (length s) f, ne_eqb (get_or s 0 0) 1 h)
  because n d (another_length f l v h) = rw (le-leb (length s) 65536 l, le-leb 5 (length s) f, v, ne_eqb (big s 1 4) (length s - 5) h)
  because n d (in_the_body h e b) = rw (le-leb (length s) 65536 h.short, le-leb 5 (length s) h.five, h.version, eq-eqb (big s 1 4) (length s - 5) h.stated, e)
  because n d (left_over B h e l) =
      rw (le-leb (length s) 65536 h.short, le-leb 5 (length s) h.five, h.version, eq-eqb (big s 1 4) (length s - 5) h.stated, e, ne_eqb d (length s) l)
  because n d (too_large B e h) = rw (e, lt-leb (K B) 2000000000 h)

  pub refused_exactly_when : (n d : ℕ) → (accepted s ≡ refused n d) ↔ Why s n d
  refused_exactly_when n d = (why n d, because n d)

-- ---- 4 to 7 and 15 to 17: a field out of its range
-- a record that begins alike before it is refused there too where its own value is out of range, and nowhere up to it where that is in range
pub record OutOfRange (s : List ℕ) (n p : ℕ) : Type 0 where
  pub field : Ranged
  pub numbered : n ≡ (rule field).number (big s p (rule field).width)
  pub there : p + (rule field).width ≤ length s
  pub outside : ¬ (rule field).InRange (big s p (rule field).width)
  pub unmended : (s' : List ℕ) → Headed s' → Agree p s s' → p + (rule field).width ≤ length s' → ¬ (rule field).InRange (big s' p (rule field).width)
      → accepted s' ≡ refused ((rule field).number (big s' p (rule field).width)) p
  pub mended : (s' : List ℕ) → Agree p s s' → p + (rule field).width ≤ length s' → (rule field).InRange (big s' p (rule field).width)
      → (n' p' : ℕ) → accepted s' ≡ refused n' p' → 4 ≤ n' → n' ≢ 9 → p < p'

-- from 4 on all but 9 point where reading the body stopped
points : (s : List ℕ) (n p : ℕ) → Why s n p → 4 ≤ n → n ≢ 9 → place (read_body 1 s 5) ≡ p
points s n p (too_long h) l m = absurd (omega arith)
points s n p (too_short h) l m = absurd (omega arith)
points s n p (another_version f k h) l m = absurd (omega arith)
points s n p (another_length f k v h) l m = absurd (omega arith)
points s n p (in_the_body h e b) l m = rw e
points s n p (left_over B h e k) l m = rw e
points s n p (too_large B e h) l m = absurd (m refl)

out_of_range : (s : List ℕ) (n p : ℕ) → Outside (read_body 1) s 5 n p → OutOfRange s n p
out_of_range s n p o = record {
  field = o.field;
  numbered = o.numbered;
  there = o.there;
  outside = o.outside;
  unmended = λ s' h a l k. let e = o.unmended s' a l k in (refused_exactly_when s' _ p).1 (in_the_body h e ((explained_body 1).explains s' 5 _ p h.five e));
  mended = λ s' a l k n' p' e i j. rw (points s' n' p' ((refused_exactly_when s' n' p').0 e) i j) at (o.mended s' a l k);
}

pub a_refusal_of_a_field_means : (s : List ℕ) (n p : ℕ) → accepted s ≡ refused n p → 4 ≤ n → n ≢ 8 → n ≢ 9 → OutOfRange s n p
a_refusal_of_a_field_means s n p e l m k = go n p ((refused_exactly_when s n p).0 e) l m k
  where
    because_of : (n p : ℕ) → Because (read_body 1) s 5 n p → n ≢ 8 → OutOfRange s n p
    because_of n p (missing f h) m = absurd (m refl)
    because_of n p (bad o) m = out_of_range s n p o

    go : (n p : ℕ) → Why s n p → 4 ≤ n → n ≢ 8 → n ≢ 9 → OutOfRange s n p
    go n p (too_long h) l m k = absurd (omega arith)
    go n p (too_short h) l m k = absurd (omega arith)
    go n p (another_version f i h) l m k = absurd (omega arith)
    go n p (another_length f i v h) l m k = absurd (omega arith)
    go n p (in_the_body h c b) l m k = because_of n p b m
    go n p (left_over B h c i) l m k = absurd (m refl)
    go n p (too_large B c h) l m k = absurd (k refl)

-- ---- which part of a term is wrong (02, P1)
-- a number from 7 on, of a field's value out of range
pub data WrongPart (v : ℕ) : ℕ → Ranged → Type 0 where
  wrong_coefficient : WrongPart v 7 coefficient
  unknown_variable : {ints : ℕ} {seen : List ℕ} → ints ≤ v → WrongPart v 15 (variable ints seen)
  repeated_variable : {ints : ℕ} {seen : List ℕ} → v < ints → ¬ All (λ y. v ≢ y) seen → WrongPart v 16 (variable ints seen)
  wrong_constant : WrongPart v 17 constant

pub the_wrong_part_of_a_term : (f : Ranged) (v : ℕ) → ¬ (rule f).InRange v → 7 ≤ (rule f).number v → WrongPart v ((rule f).number v) f
the_wrong_part_of_a_term integer_count v o l = absurd (omega arith)
the_wrong_part_of_a_term boolean_count v o l = absurd (omega arith)
the_wrong_part_of_a_term clause_count v o l = absurd (omega arith)
the_wrong_part_of_a_term lower v o l = absurd (omega arith)
the_wrong_part_of_a_term (upper b) v o l = absurd (omega arith)
the_wrong_part_of_a_term literal_count v o l = absurd (omega arith)
the_wrong_part_of_a_term kind v o l = absurd (omega arith)
the_wrong_part_of_a_term (boolean_number m) v o l = absurd (omega arith)
the_wrong_part_of_a_term term_count v o l = absurd (omega arith)
the_wrong_part_of_a_term coefficient v o l = wrong_coefficient
the_wrong_part_of_a_term (variable ints seen) v o l = go (ltb v ints) refl
  where
    go : (t : Bool) → ltb v ints ≡ t → WrongPart v (if t then 16 else 15) (variable ints seen)
    go true e = repeated_variable (ltb-true v ints e) (λ h. o (ltb-true v ints e, h))
    go false e = unknown_variable (ltb-false v ints e)
the_wrong_part_of_a_term constant v o l = wrong_constant

-- so no admitted record has the same bytes through that field
pub no_admitted_record_agrees_through_the_field : (s : List ℕ) (n p : ℕ) (o : OutOfRange s n p) (s' : List ℕ) → Agree (p + (rule o.field).width) s s'
    → (B : Board) → ¬ (accepted s' ≡ done B)
no_admitted_record_agrees_through_the_field s n p o s' a B e =
    let w = wrapped s' B ((accepted-parts s' B).0 e).0 in
    let h : Headed s' = record { short = w.short; five = w.head; version = w.version; stated = w.stated } in
    let k : ¬ (rule o.field).InRange (big s' p (rule o.field).width) = rw (← big_agree a p (rule o.field).width (omega arith)) o.outside in
    never (sym (o.unmended s' h (agree_less (omega arith) a) a.reached' k) ∙ e)
