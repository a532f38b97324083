-- A reply's model: its bytes, literal by literal, and what is answered with them. Assumes nothing.
use Rattle.std.specs.Prelude.{◌≡◌, refl, Bool, true, false, ◌||◌, List, [], ◌∷◌, ◌++◌, ℕ, zero, suc, ◌+◌, ◌-◌, ◌≤◌, ◌<◌, length, drop, set, replicate, ℤ, pos, nat_abs, if◌then◌else◌}
use Rattle.std.proofs.Common.{sym, ap, ◌∙◌, inl, inr, arith, eq-eqb, ne_eqb}
use Rattle.std.proofs.lemmas.List.{length-replicate, replicate-append-replicate}
use Rattle.definitions.specs.Tools.{any, eq_z}
use Rattle.definitions.specs.Result.{Result, done, refused}
use Rattle.definitions.specs.Operations.{Outcome, lending, ◌leaves◌}
use Rattle.laws.specs.Reads.{equals_z}
use Rattle.laws.specs.Some.{any_append}
use Rattle.laws.specs.Written.{written, written_snoc, written_all}
use Rattle.definitions.specs.TextReading.{number_read, Reply, model, unsatisfiable, read_reply}
use Rattle.definitions.specs.TextOperations.{model_of, taken, read_reply_outcome}
use Rattle.demands.specs.GoodTexts.{yes}
use Rattle.laws.specs.Stepping.{num, cases}
use Rattle.replies.specs.Parts.{reply_from, lines, in_order, without, literals, summary, summed, literals_of, literals_from, HasModel}
use Rattle.replies.specs.Bytes.{made_by, made_not}
use Rattle.replies.specs.Marks.{changed, unchanged, one-changed, once_from, sought_from, sought-all}

-- ---- bytes that are cleared
module _ (old : List ℕ) (i : ℕ) where
  pub cleared_more : i < length old → set (written (replicate i 0) old) i 0 ≡ written (replicate (i + 1) 0) old
  cleared_more h = written_snoc (replicate i 0) old 0 i (length-replicate i 0) h ∙ ap (λ l. written l old) (replicate-append-replicate i 1 0)

  pub cleared_all : i ≡ length old → written (replicate i 0) old ≡ replicate (length old) 0
  cleared_all e = written_all (replicate i 0) old (length-replicate i 0 ∙ e) ∙ ap (λ k. replicate k 0) e

-- ---- one literal more
abbrev pub with_literal : Bool → ℕ → List ℕ → List ℕ
with_literal minus v l = if minus then l else changed (λ b. 1) 1 v l

ne_eq_z : (a b : ℤ) → (a ≡ b → ⊥) → eq_z a b ≡ false
ne_eq_z a b h = elim (cases (eq_z a b)) [ inl e ↦ absurd (h ((equals_z a b).sound (rw e tt))) | inr e ↦ e ]

eq_eq_z : (a : ℤ) → eq_z a a ≡ true
eq_eq_z a = yes (eq_z a a) ((equals_z a a).full refl)

abbrev shown : Bool → ℕ
shown b = if b then 1 else 0

abbrev bit : List ℤ → ℕ → ℕ
bit ns v = shown (any (eq_z (pos v)) ns)

module _ (ns : List ℤ) (z : ℤ) (v : ℕ) where
  bit-same : (pos v ≡ z → ⊥) → bit ns v ≡ bit (ns ++ (z ∷ [])) v
  bit-same h = sym (ap shown (any_append (eq_z (pos v)) ns (z ∷ [])) ∙ rw (ne_eq_z (pos v) z h) (go (any (eq_z (pos v)) ns)))
    where
      go : (b : Bool) → shown (b || false) ≡ shown b
      go true = refl
      go false = refl

  bit-set : z ≡ pos v → 1 ≡ bit (ns ++ (z ∷ [])) v
  bit-set h = sym (ap shown (any_append (eq_z (pos v)) ns (z ∷ [])) ∙ rw (h, eq_eq_z (pos v)) (go (any (eq_z (pos v)) ns)))
    where
      go : (b : Bool) → shown (b || true) ≡ 1
      go true = refl
      go false = refl

-- no variable from 1 on has a literal with a minus
no_minus : (v size : ℕ) → 1 ≤ v → pos v ≡ number_read (num 0 true size) → ⊥
no_minus v zero l e = let y : v ≡ 0 = cc in omega arith
no_minus v (suc w) l e = let y : ◌≡◌ {A = ℕ} 0 1 = cc in omega arith

pub model-more : (N : ℕ) (ns : List ℤ) (minus : Bool) (size : ℕ) → with_literal minus size (model_of N ns) ≡ model_of N (ns ++ (number_read (num 0 minus size) ∷ []))
model-more N ns true size =
    let z = number_read (num 0 true size) in
    unchanged (bit ns) (bit (ns ++ (z ∷ []))) (λ b. 1) 1 N size (λ w l h. bit-same ns z w (no_minus w size l)) (λ l. bit-same ns z size (no_minus size size l))
model-more N ns false size =
    one-changed (bit ns) (bit (ns ++ (pos size ∷ []))) (λ b. 1) 1 N size (λ w l h. bit-same ns (pos size) w (λ e. h (sym (ap nat_abs e)))) (bit-set ns (pos size) size refl)

-- ---- what is answered
-- the literals' lines begin there, with so many, in order or not
pub record Told (N from count : ℕ) (rising : Bool) (t : List ℕ) : Type 0 where
  pub good : HasModel N from t
  pub long : length (literals_from N from t) ≡ count
  pub order : in_order 1 (literals_from N from t) ≡ rising

abbrev pub taken_from : ℕ → ℕ → List ℕ → List ℕ → Outcome Bool (List ℕ)
taken_from N from t lent = lending lent (taken N lent (model (literals_from N from t)))

-- what is sought after the literals in order is sought from 1 on
pub sought_told : {N from count : ℕ} {rising : Bool} {t : List ℕ} → Told N from count rising t → {first : ℕ} → first ≡ sought_from N count rising → {m : Result (Unit {0})}
    → once_from first ((N + 1) - first) (literals_from N from t) ≡ m → once_from 1 N (literals_from N from t) ≡ m
sought_told {N} {from} {count} {rising} {t} k e h =
    let ns = literals_from N from t in
    sym (sought-all N ns rising k.order)
    ∙ ap (λ j. once_from j ((N + 1) - j) ns) (ap (λ c. sought_from N c rising) k.long ∙ sym e)
    ∙ h

module _ (N from : ℕ) (t lent : List ℕ) where
  abbrev ns : List ℤ
  ns = literals_from N from t

  pub answer_not_once : {v : ℕ} → once_from 1 N ns ≡ refused 19 v → (refused 19 v leaves lent) ≡ taken_from N from t lent
  answer_not_once e = rw e

  pub answer_wrong : once_from 1 N ns ≡ done tt → (length lent ≡ N → ⊥) → (refused 11 N leaves lent) ≡ taken_from N from t lent
  answer_wrong e h = rw (e, ne_eqb (length lent) N h)

  pub answer_model : once_from 1 N ns ≡ done tt → length lent ≡ N → (out : List ℕ) → out ≡ model_of (length lent) ns → (done true leaves out) ≡ taken_from N from t lent
  answer_model e h out m = ap (λ o. done true leaves o) (m ∙ ap (λ k. model_of k ns) h) ∙ rw (e, eq-eqb (length lent) N h)

-- ---- the whole reply
is_none : (r : Reply) → summary r ≡ without → r ≡ unsatisfiable
is_none unsatisfiable e = refl
is_none (model ns) e = absurd (let z : ◌≡◌ {A = ℕ} 0 1 = cc in omega arith)

is_model_lem : (r : Reply) {count : ℕ} {rising : Bool} → summary r ≡ literals count rising → (ns : List ℤ) × ((r ≡ model ns) × ((length ns ≡ count) × (in_order 1 ns ≡ rising)))
is_model_lem unsatisfiable e = absurd (let z : ◌≡◌ {A = ℕ} 0 1 = cc in omega arith)
is_model_lem (model ns) e = (ns, (refl, (cc, cc)))

module _ (N : ℕ) (t lent : List ℕ) where
  pub reply-bad : {n d : ℕ} → summed (read_reply N t) ≡ refused n d → (refused n d leaves lent) ≡ read_reply_outcome N t lent
  unfolding read_reply_outcome
  reply-bad e = rw (made_not summary (read_reply N t) e)

  pub reply-nothing : summed (read_reply N t) ≡ done without → (done false leaves lent) ≡ read_reply_outcome N t lent
  unfolding read_reply_outcome
  reply-nothing e = let k = made_by summary (read_reply N t) e in rw (k.is, is_none k.from k.makes)

  module _ {from count : ℕ} {rising : Bool} (e : summed (read_reply N t) ≡ done (literals count rising)) (h : from ≤ length t) (p : read_reply N t ≡ reply_from (lines N) from (drop from t)) where
    pub reply_told : Told N from count rising t
    reply_told =
        let k = made_by summary (read_reply N t) e in
        let r = is_model_lem k.from k.makes in
        let is : reply_from (lines N) from (drop from t) ≡ done (model r.0) = sym p ∙ k.is ∙ ap done r.1.0 in
        let ns : literals_from N from t ≡ r.0 = ap literals_of is in
        record { good = record { inside = h; is = is ∙ ap (λ l. done (model l)) (sym ns) }; long = ap length ns ∙ r.1.1.0; order = ap (in_order 1) ns ∙ r.1.1.1 }

    pub reply-taken : taken_from N from t lent ≡ read_reply_outcome N t lent
    unfolding read_reply_outcome
    reply-taken = rw (p ∙ reply_told.good.is)
