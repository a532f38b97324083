-- What the bytes of an accepted record hold, read plainly and without checks. Assumes nothing.
use Rattle.std.specs.Prelude.{◌≡◌, refl, ◌↔◌, Bool, true, false, ℕ, zero, suc, ◌+◌, ◌*◌, ◌-◌, ◌≤◌, ◌<◌, length, get_or, drop, T, leb, eqb, ℤ, pos}
use Rattle.std.proofs.Common.{sym, ◌∙◌, zero-add, mul-suc, arith, length-drop, leb→le, eqb→eq, le-leb, eq-eqb}
use Rattle.std.proofs.Math.Path.{ap}
use mathlib.Core.List.{List, [], ◌∷◌, map, flatten}
use Rattle.definitions.specs.Tools.{count_up}
use Rattle.definitions.specs.Board.{Bounds, Term, Comparison, Board, bounds_of}
use Rattle.definitions.specs.Result.{Result, done, refused, need}
use Rattle.definitions.specs.Result as result
use Rattle.definitions.specs.Reading.{Got, Context, times, big, twos, read_bounds, read_comparison, read_clause, read_body}
use Rattle.definitions.specs.Encoding.{K}
use Rattle.definitions.specs.Operations.{read_board, accepted}
use Rattle.laws.specs.Lists.{counted-at}
use Rattle.laws.specs.Admitted.{Admitted, GoodComparison}
use Rattle.laws.specs.Readings.{same, never, from_start}
use Rattle.laws.specs.Spelling.{Field, several, integer, Stand, none, more, append_stand, stand_onward, stand_span, span, bounds_fields, term_fields, comparison_fields, body_fields}
use Rattle.laws.specs.Grammar.{spelt, finds, found, reads_times}
use Rattle.laws.specs.Reads.{reads_bounds, reads_comparison, reads-clause, reads-body}

-- the one version, and where its variable table begins
abbrev pub the_version : ℕ
the_version = 1

abbrev pub table_start : ℕ
table_start = 11

-- ---- the record around its body
pub record Wrapped (s : List ℕ) (B : Board) : Type 0 where
  pub short : length s ≤ 65536
  pub head : 5 ≤ length s
  pub version : get_or s 0 0 ≡ the_version
  pub stated : big s 1 4 ≡ length s - 5
  pub body : read_body the_version s 5 ≡ finds B (length s)

met : {A : Type 0} {a : A} (n d : ℕ) (t : Bool) (m : Result A) → result.◌>>◌ (need n d t) m ≡ done a → T t × (m ≡ done a)
met n d true m e = (tt, e)
met n d false m e = never e

ended : (s : List ℕ) (B : Board) (m : Result (Got Board))
    → result.◌>>=◌ m (λ g. result.◌>>◌ (need 8 g.next (eqb g.next (length s))) (done g.value)) ≡ done B → m ≡ finds B (length s)
ended s B (done g) e =
    let t = met 8 g.next (eqb g.next (length s)) (done g.value) e in
    rw (← same t.1, ← eqb→eq g.next (length s) t.0)
ended s B (refused n d) e = never e

pub wrapped : (s : List ℕ) (B : Board) → read_board s ≡ done B → Wrapped s B
unfolding read_board
wrapped s B e =
    let a = met 1 0 (leb (length s) 65536) _ e in
    let b = met 2 0 (leb 5 (length s)) _ a.1 in
    let c = met 3 0 (eqb (get_or s 0 0) the_version) _ b.1 in
    let d = met 2 0 (eqb (big s 1 4) (length s - 5)) _ c.1 in
    let one : get_or s 0 0 ≡ the_version = eqb→eq (get_or s 0 0) the_version c.0 in
    record {
      short = leb→le (length s) 65536 a.0;
      head = leb→le 5 (length s) b.0;
      version = one;
      stated = eqb→eq (big s 1 4) (length s - 5) d.0;
      body = rw (← one) (ended s B (read_body (get_or s 0 0) s 5) d.1);
    }

pub unwrapped : (s : List ℕ) (B : Board) → Wrapped s B → read_board s ≡ done B
unfolding read_board
unwrapped s B w = rw (le-leb (length s) 65536 w.short, le-leb 5 (length s) w.head, w.version, eq-eqb (big s 1 4) (length s - 5) w.stated, w.body, eq-eqb (length s) (length s) refl)

-- the board is good, and its fields stand after the first 5 bytes
pub body-read : (s : List ℕ) (B : Board) → read_board s ≡ done B → Admitted B × Stand s 5 (body_fields B) (length s)
body-read s B e = found ((reads-body the_version).told s 5 B (length s) (wrapped s B e).body)

-- all operations' checks
pub accepted-parts : (s : List ℕ) (B : Board) → (accepted s ≡ done B) ↔ ((read_board s ≡ done B) × (K B ≤ 2000000000))
unfolding accepted
accepted-parts s B = (to (read_board s), λ h. rw (h.0, le-leb (K B) 2000000000 h.1))
  where
    to : (m : Result Board) → result.◌>>=◌ m (λ C. result.◌>>◌ (need 9 0 (leb (K C) 2000000000)) (done C)) ≡ done B → (m ≡ done B) × (K B ≤ 2000000000)
    to (done C) e =
        let t = met 9 0 (leb (K C) 2000000000) (done C) e in
        (t.1, rw (same t.1) at (leb→le (K C) 2000000000 t.0))
    to (refused n d) e = never e

-- ---- n parts of k bytes, one after another
module _ {A : Type 0} (f : ℕ → A) (k : ℕ) where
  abbrev pub row : ℕ → ℕ → List A
  row at n = map (λ i. f (at + k * i)) (count_up 0 n)

  further : (at i : ℕ) → at + k * suc i ≡ at + k + k * i
  further at i = omega (arith, mul-suc k i)

  shift : (at i n : ℕ) → map (λ j. f (at + k * j)) (count_up (suc i) n) ≡ map (λ j. f (at + k + k * j)) (count_up i n)
  shift at i zero = refl
  shift at i (suc n) = rw (further at i, shift at (suc i) n)

  row_cons : (at n : ℕ) → row at (suc n) ≡ f at ∷ row (at + k) n
  row_cons at n =
      let e : at + k * 0 ≡ at = omega arith in
      rw (e, shift at 0 n)

  pub row_at : (d : A) (at n i : ℕ) → i < n → get_or (row at n) i d ≡ f (at + k * i)
  row_at d at n i h = rw zero-add at (counted-at (λ i. f (at + k * i)) d 0 n i h)

  module _ (w : A → List Field) (s : List ℕ) (one : (at end : ℕ) (a : A) → Stand s at (w a) end → (a ≡ f at) × (end ≡ at + k)) where
    pub stand_row : (at end : ℕ) (l : List A) → Stand s at (several w l) end → (l ≡ row at (length l)) × (end ≡ at + k * length l)
    unfolding flatten
    stand_row at end [] none = (refl, omega arith)
    stand_row at end (a ∷ l) p =
        let d = append_stand (w a) (several w l) p in
        let h = one at d.mid a d.front in
        let q = stand_row d.mid end l d.back in
        (rw (row_cons, ← h.0, ← h.1) (ap (λ z. a ∷ z) q.0), omega (arith, h.1, q.1, further at (length l)))

abbrev pub bounds_at : List ℕ → ℕ → Bounds
bounds_at s at = record { lo = twos 2 (big s at 2); hi = twos 2 (big s (at + 2) 2) }

abbrev pub term_at : List ℕ → ℕ → Term
term_at s at = record { coef = twos 1 (big s at 1); var = big s (at + 1) 2 }

one_bounds : (s : List ℕ) (at end : ℕ) (b : Bounds) → Stand s at (bounds_fields b) end → (b ≡ bounds_at s at) × (end ≡ at + 4)
one_bounds s at end b (more h l (more h' u none)) = (rw (l, u), omega arith)

one-term : (s : List ℕ) (at end : ℕ) (t : Term) → Stand s at (term_fields t) end → (t ≡ term_at s at) × (end ≡ at + 3)
one-term s at end t (more h a (more h' x none)) = (rw (a, x), omega arith)

-- ---- a comparison
-- the terms of the comparison at a place
unfoldable pub terms_at : List ℕ → ℕ → List Term
terms_at s at = row (term_at s) 3 (at + 1) (big s at 1)

-- the comparison whose term count stands at a place, its constant known
abbrev pub comparison_at : List ℕ → ℕ → ℤ → Comparison
comparison_at s at constant = record { terms = terms_at s at; constant = constant }

-- its constant, which stands behind the terms
abbrev pub constant_at : List ℕ → ℕ → ℤ
constant_at s at = twos 4 (big s (at + 1 + 3 * big s at 1) 4)

pub record ComparisonRead (s : List ℕ) (at : ℕ) (q : Comparison) (end : ℕ) : Type 0 where
  pub few : big s at 1 ≤ 3
  pub terms : q.terms ≡ terms_at s at
  pub constant : q.constant ≡ constant_at s at
  pub next : end ≡ at + 5 + 3 * big s at 1
  pub room : end ≤ length s

-- at a place stands the count of a comparison's terms, and then the terms
pub record TermsStand (s : List ℕ) (place : ℕ) : Type 0 where
  pub few : big s place 1 ≤ 3
  pub room : place + 1 + 3 * big s place 1 ≤ length s

-- they make a good comparison with a constant that is known
pub record Stands (ints : ℕ) (s : List ℕ) (place : ℕ) (constant : ℤ) : Type 0 where
  pub terms : TermsStand s place
  pub good : GoodComparison ints (comparison_at s place constant)

module _ (ints : ℕ) (s : List ℕ) (at : ℕ) (q : Comparison) where
  comparison_end : (mid end : ℕ) → GoodComparison ints q → big s at 1 ≡ length q.terms → q.terms ≡ row (term_at s) 3 (at + 1) (length q.terms)
      → mid ≡ at + 1 + 3 * length q.terms → Stand s mid (integer 4 q.constant ∷ []) end → ComparisonRead s at q end
  unfolding terms_at
  comparison_end mid end g n t m (more h k none) = record {
    few = omega (arith, n, g.few);
    terms = t ∙ ap (row (term_at s) 3 (at + 1)) (sym n);
    constant = rw (n, ← m) (sym k);
    next = omega (arith, n);
    room = h;
  }

  pub comparison_stand : (end : ℕ) → GoodComparison ints q → Stand s at (comparison_fields q) end → ComparisonRead s at q end
  comparison_stand end g (more h n p) =
      let d = append_stand (several term_fields q.terms) _ p in
      let r = stand_row (term_at s) 3 term_fields s (one-term s) (at + 1) d.mid q.terms d.front in
      comparison_end d.mid end g n r.0 r.1 d.back

pub comparison_read : (ctx : Context) (s : List ℕ) (at : ℕ) (g : Got Comparison) → read_comparison ctx s at ≡ done g → ComparisonRead s at g.value g.next
comparison_read ctx s at g e =
    let d = found ((reads_comparison ctx).told s at g.value g.next e) in
    comparison_stand ctx.ints s at g.value g.next d.0 d.1

-- ---- the board
-- the variable table has 4 bytes for each variable
pub table-read : (n : ℕ) (s : List ℕ) (at end : ℕ) (bs : List Bounds) → times n read_bounds s at ≡ finds bs end → (length bs ≡ n) × (end ≡ at + 4 * length bs)
table-read n s at end bs e =
    let d = found ((reads_times reads_bounds n).told s at bs end e) in
    (d.0.0, (stand_row (bounds_at s) 4 bounds_fields s (one_bounds s) at end bs d.1).1)

abbrev pub context_of : Board → Context
context_of B = record { version = the_version; ints = length B.bounds; bools = B.bools }

-- where the variable table ends
abbrev pub table_end : Board → ℕ
table_end B = table_start + 4 * length B.bounds

pub record BoardRead (s : List ℕ) (B : Board) : Type 0 where
  pub ints : length B.bounds ≡ big s 5 2
  pub bools : B.bools ≡ big s 7 2
  pub rules : length B.clauses ≡ big s 9 2
  pub room : table_end B ≤ length s
  pub bounds : (x : ℕ) → x < length B.bounds → bounds_of B x ≡ bounds_at s (table_start + 4 * x)
  pub clauses : times (length B.clauses) (read_clause (context_of B)) (drop (table_end B) s) 0 ≡ finds B.clauses (length (drop (table_end B) s))

bounds_read_lem : (s : List ℕ) (B : Board) → B.bounds ≡ row (bounds_at s) 4 table_start (length B.bounds) → (x : ℕ) → x < length B.bounds → bounds_of B x ≡ bounds_at s (table_start + 4 * x)
unfolding bounds_of
bounds_read_lem s B e x h = ap (λ bs. get_or bs x zeros) e ∙ row_at (bounds_at s) 4 zeros table_start (length B.bounds) x h
  where
    zeros : Bounds
    zeros = record { lo = pos 0; hi = pos 0 }

board_stand : (s : List ℕ) (B : Board) (end : ℕ) → end ≡ length s → Admitted B → Stand s 5 (body_fields B) end → BoardRead s B
board_stand s B end e g (more h v (more h' m (more h'' c p))) =
    let d = append_stand (several bounds_fields B.bounds) _ p in
    let r = stand_row (bounds_at s) 4 bounds_fields s (one_bounds s) table_start d.mid B.bounds d.front in
    let i : table_end B ≤ length s = omega (arith, stand_onward d.back) in
    let c' = reads_times (reads-clause (context_of B)) (length B.clauses) in
    let k = c'.read s d.mid B.clauses end _ (spelt (refl, g.clauses)) d.back in
    record {
      ints = sym v;
      bools = sym m;
      rules = sym c;
      room = i;
      bounds = bounds_read_lem s B r.0;
      clauses = rw (length-drop, ← e) (from_start c'.orderly s (table_end B) i (rw r.1 at k));
    }

pub reading_admitted : (s : List ℕ) (B : Board) → read_board s ≡ done B → Admitted B
reading_admitted s B e = (body-read s B e).0

-- the board of a record: its fields take no more bytes than a record has
pub record Recorded (B : Board) : Type 0 where
  pub admitted : Admitted B
  pub short : span (body_fields B) ≤ 65536

pub reading_recorded : (s : List ℕ) (B : Board) → read_board s ≡ done B → Recorded B
reading_recorded s B e =
    let b = body-read s B e in
    record { admitted = b.0; short = omega (arith, stand_span b.1, (wrapped s B e).short) }

pub accepted_admitted : (s : List ℕ) (B : Board) → accepted s ≡ done B → Admitted B
accepted_admitted s B e = reading_admitted s B ((accepted-parts s B).0 e).0

pub board-read : (s : List ℕ) (B : Board) → read_board s ≡ done B → BoardRead s B
board-read s B e = board_stand s B (length s) refl (body-read s B e).0 (body-read s B e).1
