-- Each reader of the record tells why it refuses: which field, and that its value is out of its range. Assumes nothing.
use Rattle.std.specs.Prelude.{◌≡◌, refl, Bool, true, false, ◌&&◌, length, eqb, ℤ, pos, if◌then◌else◌}
use Rattle.std.proofs.Common.{sym, ap, ◌∙◌, arith, leb-true, leb-false}
use Rattle.std.proofs.Math.Bool.{not}
use mathlib.Core.List.{List, [], ◌∷◌}
use Prim.Native.Nat.{ℕ, zero, suc, ◌+◌, ◌≤◌, ◌<◌}
use Rattle.std.proofs.Math.Dec.{leb, ltb}
use Rattle.std.specs.Int.Signed.{le_z}
use Rattle.definitions.specs.Tools.{any, neg, eq_z, within}
use Rattle.definitions.specs.Board.{is_true, is_false, at_most}
use Rattle.definitions.specs.Result.{Result, done, refused}
use Rattle.definitions.specs.Result as result
use Rattle.definitions.specs.Reading.{Got, Reader, Context, asked, big, twos, unsigned, signed, count, bound, read_bounds, boolean, read_terms, read_comparison, of_kind, read_literal, read_clause, read_body}
use Rattle.laws.specs.Decide.{Decides, apart, both, at-most, at_most_z, is_within}
use Rattle.laws.specs.Some.{new}
use Rattle.laws.specs.Readings.{same, never, Orderly, orderly_give, orderly_asked, orderly_bind, orderly_unsigned}
use Rattle.laws.specs.Grammar.{finds}
use Rattle.laws.specs.Reads.{from-to, equals_z}
use Rattle.laws.specs.Refusals.{Ranged, integer_count, boolean_count, clause_count, lower, upper, literal_count, kind, boolean_number, term_count, coefficient, variable, constant, rule, some_bytes, Agree, big_agree, Outside, Because, missing, bad, Explained, refusal_is, explained_give, explained_bind, explained_mapped, explained_times}

-- ---- a field
module _ {A B : Type 0} where
  through : (k : Got A → Result (Got B)) (why at : ℕ) (g : Got A) (t u : Bool)
      → result.◌>>=◌ (if t then (if u then done g else refused why at) else refused 8 at) k ≡ (if t then (if u then k g else refused why at) else refused 8 at)
  through k why at g true true = refl
  through k why at g true false = refl
  through k why at g false u = refl

module _ {A : Type 0} where
  -- w bytes, a test of their number, why one that fails it is refused, and the value made of it
  abbrev tested : (ℕ → ℕ) → ℕ → (ℕ → A) → (ℕ → Bool) → Reader A
  tested why w value good s at =
      if leb (at + w) (length s) then (if good (big s at w) then finds (value (big s at w)) (at + w) else refused (why (big s at w)) at) else refused 8 at

  record IsField (why : ℕ → ℕ) (w : ℕ) (value : ℕ → A) (good : ℕ → Bool) (r : Reader A) : Type 0 where
    orderly : Orderly r
    is : (s : List ℕ) (at : ℕ) → r s at ≡ tested why w value good s at

  twice : (m e : Result (Got A)) (why n at : ℕ) (t u v : Bool)
      → (if t then (if u then (if v then m else refused n at) else refused why at) else e) ≡ (if t then (if (u && v) then m else refused (if u then n else why) at) else e)
  twice m e why n at true true v = refl
  twice m e why n at true false v = refl
  twice m e why n at false u v = refl

  -- one test more, with a number of its own
  is_asked : {why : ℕ → ℕ} {w : ℕ} {value : ℕ → A} {good : ℕ → Bool} {r : Reader A} (n : ℕ) (also : A → Bool)
      → IsField why w value good r → IsField (λ v. if good v then n else why v) w value (λ v. good v && also (value v)) (asked n also r)
  is_asked {why} {w} {value} {good} {r} n also o = record { orderly = orderly_asked n also o.orderly; is = is }
    where
      is : (s : List ℕ) (at : ℕ) → asked n also r s at ≡ tested (λ v. if good v then n else why v) w value (λ v. good v && also (value v)) s at
      is s at =
          let v = big s at w in
          let g : Got A = record { value = value v; next = at + w } in
          let fits = leb (at + w) (length s) in
          let test : Got A → Result (Got A) = λ g. if also g.value then done g else refused n at in
          ap (λ m. result.◌>>=◌ m test) (o.is s at) ∙ through test (why v) at g fits (good v) ∙ twice (done g) (refused 8 at) (why v) n at fits (good v) (also (value v))

  is_renumbered : {why why' : ℕ → ℕ} {w : ℕ} {value : ℕ → A} {good : ℕ → Bool} {r : Reader A} → ((v : ℕ) → why v ≡ why' v) → IsField why w value good r → IsField why' w value good r
  is_renumbered {w = w} e o = record { orderly = o.orderly; is = λ s at. rw (← e (big s at w)) (o.is s at) }

-- no test yet: any number would do
is_unsigned : (w : ℕ) → IsField (λ v. 8) w (λ v. v) (λ v. true) (unsigned w)
unfolding unsigned
is_unsigned w = record { orderly = orderly_unsigned w; is = λ s at. refl }

is_signed : (w : ℕ) → IsField (λ v. 8) w (twos w) (λ v. true) (signed w)
unfolding signed unsigned
is_signed w = record {
  orderly = orderly_bind (orderly_unsigned w) (λ v. orderly_give (twos w v));
  is = λ s at. through (λ g. finds (twos w g.value) g.next) 8 at (record { value = big s at w; next = at + w }) (leb (at + w) (length s)) true;
}

module _ {A : Type 0} (f : Ranged) {value : ℕ → A} {good : ℕ → Bool} {r : Reader A}
    (o : IsField (rule f).number (rule f).width value good r) (test : (v : ℕ) → Decides (good v) ((rule f).InRange v)) where
  abbrev n : ℕ → ℕ
  n = (rule f).number

  abbrev w : ℕ
  w = (rule f).width

  -- the three answers
  data Answered (s : List ℕ) (at : ℕ) : Type 0 where
    inside : at + w ≤ length s → (rule f).InRange (big s at w) → r s at ≡ finds (value (big s at w)) (at + w) → Answered s at
    outside : at + w ≤ length s → ¬ (rule f).InRange (big s at w) → r s at ≡ refused (n (big s at w)) at → Answered s at
    cut : length s < at + w → r s at ≡ refused 8 at → Answered s at

  answered : (s : List ℕ) (at : ℕ) → Answered s at
  answered s at = go (leb (at + w) (length s)) (good (big s at w)) refl refl
    where
      go : (t u : Bool) → leb (at + w) (length s) ≡ t → good (big s at w) ≡ u → Answered s at
      go true true a b = inside (leb-true _ _ a) ((test (big s at w)).sound (rw b tt)) (o.is s at ∙ rw (a, b))
      go true false a b = outside (leb-true _ _ a) (λ h. rw b at ((test (big s at w)).full h)) (o.is s at ∙ rw (a, b))
      go false u a b = cut (leb-false _ _ a) (o.is s at ∙ rw a)

  when_inside : (s : List ℕ) (at : ℕ) → at + w ≤ length s → (rule f).InRange (big s at w) → r s at ≡ finds (value (big s at w)) (at + w)
  when_inside s at h k = go (answered s at)
    where
      go : Answered s at → r s at ≡ finds (value (big s at w)) (at + w)
      go (inside i j e) = e
      go (outside i j e) = absurd (j k)
      go (cut i e) = absurd (omega arith)

  when_outside : (s : List ℕ) (at : ℕ) → at + w ≤ length s → ¬ (rule f).InRange (big s at w) → r s at ≡ refused (n (big s at w)) at
  when_outside s at h k = go (answered s at)
    where
      go : Answered s at → r s at ≡ refused (n (big s at w)) at
      go (inside i j e) = absurd (k j)
      go (outside i j e) = e
      go (cut i e) = absurd (omega arith)

  field-stays : (s s' : List ℕ) (at : ℕ) (g : Got A) → r s at ≡ done g → Agree g.next s s' → r s' at ≡ done g
  field-stays s s' at g d a = go (answered s at)
    where
      go : Answered s at → r s' at ≡ done g
      go (inside i j e) =
          let x = same (sym e ∙ d) in
          let k : Agree (at + w) s s' = rw (ap (λ g. g.next) x) a in
          let b = big_agree k at w (omega arith) in
          rw (← x, b) (when_inside s' at k.reached' (rw (← b) j))
      go (outside i j e) = never (sym e ∙ d)
      go (cut i e) = never (sym e ∙ d)

  field_explains : (s : List ℕ) (at m p : ℕ) → r s at ≡ refused m p → Because r s at m p
  field_explains s at m p d = go (answered s at)
    where
      here : at + w ≤ length s → ¬ (rule f).InRange (big s at w) → Outside r s at (n (big s at w)) at
      here i j = record {
        field = f;
        numbered = refl;
        there = i;
        outside = j;
        unmended = λ s' a h k. when_outside s' at h k;
        mended = λ s' a h k. rw (when_inside s' at h k) (omega (arith, some_bytes f));
      }

      go : Answered s at → Because r s at m p
      go (inside i j e) = never (sym d ∙ e)
      go (outside i j e) = let x = refusal_is (sym d ∙ e) in rw (x.0, x.1) (bad (here i j))
      go (cut i e) = let x = refusal_is (sym d ∙ e) in rw (x.0, x.1) (missing f i)

  explained_field : Explained r
  explained_field = record { orderly = o.orderly; stays = λ s s' at g h. field-stays s s' at g; explains = λ s at m p h. field_explains s at m p }

-- ---- the record's readers
is_count : (least most w : ℕ) → IsField (λ v. 4) w (λ v. v) (λ v. leb least v && leb v most) (count least most w)
unfolding count
is_count least most w = is_asked 4 (λ v. leb least v && leb v most) (is_unsigned w)

abbrev within_bounds : ℤ → Bool
within_bounds = within (neg 4096) (pos 4095)

either : (t : Bool) {n : ℕ} → (if t then n else n) ≡ n
either true = refl
either false = refl

explained_bounds : Explained read_bounds
unfolding read_bounds bound
explained_bounds =
    explained_bind (explained_field lower (is_asked 5 within_bounds (is_signed 2)) (λ v. is_within (neg 4096) (pos 4095) (twos 2 v))) λ l.
    explained_mapped (λ u. record { lo = l; hi = u })
    (explained_field (upper l) (is_renumbered (λ v. either (within_bounds (twos 2 v))) (is_asked 5 (le_z l) (is_asked 5 within_bounds (is_signed 2)))) (λ v. both _ _ (is_within (neg 4096) (pos 4095) (twos 2 v)) (at_most_z l (twos 2 v))))

module _ (ctx : Context) where
  abbrev some_coefficient : ℤ → Bool
  some_coefficient a = within (neg 64) (pos 64) a && not (eq_z a (pos 0))

  explained_terms : (seen : List ℕ) (n : ℕ) → Explained (read_terms ctx seen n)
  unfolding read_terms
  explained_terms seen zero = explained_give []
  explained_terms seen (suc n) =
      explained_bind (explained_field coefficient (is_asked 7 some_coefficient (is_signed 1)) (λ v. both _ _ (is_within (neg 64) (pos 64) (twos 1 v)) (apart _ (equals_z (twos 1 v) (pos 0))))) λ a.
      explained_bind (explained_field (variable ctx.ints seen) (is_asked 16 (λ x. not (any (eqb x) seen)) (is_asked 15 (λ x. ltb x ctx.ints) (is_unsigned 2)))
      (λ v. both _ _ (at-most (suc v) ctx.ints) (new v seen))) λ x.
      explained_mapped (λ ts. record { coef = a; var = x } ∷ ts) (explained_terms (x ∷ seen) n)

  explained_comparison : Explained (read_comparison ctx)
  unfolding read_comparison
  explained_comparison =
      explained_bind (explained_field term_count (is_count 1 3 1) (from-to 1 3)) λ n.
      explained_bind (explained_terms [] n) λ ts.
      explained_mapped (λ k. record { terms = ts; constant = k })
      (explained_field constant (is_asked 17 (within (neg 1000000) (pos 1000000)) (is_signed 4)) (λ v. is_within (neg 1000000) (pos 1000000) (twos 4 v)))

  explained_boolean : Explained (boolean ctx)
  unfolding boolean
  explained_boolean = explained_field (boolean_number ctx.bools) (is_asked 6 (λ b. leb 1 b && leb b ctx.bools) (is_unsigned 2)) (from-to 1 ctx.bools)

  explained_kind : (k : ℕ) → Explained (of_kind ctx k)
  unfolding of_kind
  explained_kind zero = explained_mapped is_true explained_boolean
  explained_kind (suc zero) = explained_mapped is_false explained_boolean
  explained_kind (suc (suc k)) = explained_mapped at_most explained_comparison

  explained_clause : Explained (read_clause ctx)
  unfolding read_clause read_literal
  explained_clause =
      explained_bind (explained_field literal_count (is_count 0 64 1) (from-to 0 64)) λ n.
      explained_times (explained_bind (explained_field kind (is_asked 6 (λ k. leb k 2) (is_unsigned 1)) (λ v. at-most v 2)) explained_kind) n

pub explained_body : (version : ℕ) → Explained (read_body version)
unfolding read_body
explained_body version =
    explained_bind (explained_field integer_count (is_count 0 1024 2) (from-to 0 1024)) λ v.
    explained_bind (explained_field boolean_count (is_count 0 4096 2) (from-to 0 4096)) λ m.
    explained_bind (explained_field clause_count (is_count 0 4096 2) (from-to 0 4096)) λ c.
    explained_bind (explained_times explained_bounds v) λ bs.
    explained_mapped (λ cs. record { bounds = bs; bools = m; clauses = cs }) (explained_times (explained_clause (record { version = version; ints = v; bools = m })) c)
