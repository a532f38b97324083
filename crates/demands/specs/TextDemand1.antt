-- The first demand, of text and replies (02, P2): what the three operations accept, and that a refusal changes nothing. Assumes nothing.
use Rattle.std.specs.Prelude.{◌≡◌, refl, ◌↔◌, Bool, true, false, List, ℕ, ◌≤◌, ◌<◌, T, eqb, length, ℤ}
use Rattle.std.proofs.Math.Path.{sym, ap}
use Rattle.std.proofs.Common.{◌∙◌, subst, inl, inr, eqb-true}
use Rattle.std.proofs.lemmas.Bool.{eqb-false}
use Rattle.definitions.specs.Tools.{All}
use Rattle.definitions.specs.Board.{Board}
use Rattle.definitions.specs.Result.{Result, done, refused, ◌>>=◌}
use Rattle.definitions.specs.Operations.{accepted, Outcome, ◌leaves◌, Sizes}
use Rattle.definitions.specs.Texts.{GoodText, GoodReply, no_model}
use Rattle.definitions.specs.TextReading.{Read, Reply, model, unsatisfiable, read_text, read_reply}
use Rattle.definitions.specs.TextOperations.{text_of, taken, write_text_outcome, read_text_outcome, read_reply_outcome}
use Rattle.laws.specs.Readings.{same, never}
use Rattle.laws.specs.Stepping.{cases}
use Rattle.demands.specs.Records.{Admits}
use Rattle.demands.specs.Passed.{lending_then, kept}
use Rattle.demands.specs.Accepts.{room}
use Rattle.demands.specs.Demand1.{exactly}
use Rattle.demands.specs.Reached.{wide}
use Rattle.demands.specs.GoodTexts.{only_good_text_is_read, good_text_is_read}
use Rattle.demands.specs.GoodReplies.{only_a_good_reply_is_read}
use Rattle.demands.specs.ReplyModels.{AllOnce, all_once_or_one_is_least, none_is_none, refused_with_19_at_the_least, refused_with_11_for_its_length, a_model_is_read}

-- ---- the writer: an admitted record, and room for its text
pub write_text_passes_it_on : (s : List ℕ) (n d : ℕ) → accepted s ≡ refused n d → (lent : List ℕ) → write_text_outcome s lent ≡ (refused n d leaves lent)
unfolding write_text_outcome
write_text_passes_it_on s n d e lent = rw e

written_is : (s : List ℕ) (B : Board) → accepted s ≡ done B → (lent : List ℕ) (l : ℕ) → ((write_text_outcome s lent).answer ≡ done l) ↔ ((length (text_of B) ≤ length lent) × (l ≡ length (text_of B)))
unfolding write_text_outcome
written_is s B e lent l = rw e (simp (lending_then, room) (λ h. (h.0, sym (same h.1)), λ h. (h.0, ap done (sym h.1))))

pub write_text_accepts_exactly : (s : List ℕ) → All (λ b. b < 256) s → (lent : List ℕ) (l : ℕ)
    → ((write_text_outcome s lent).answer ≡ done l) ↔ ((B : Board) × Admits s B × ((length (text_of B) ≤ length lent) × (l ≡ length (text_of B))))
write_text_accepts_exactly s bytes lent l =
    exactly s bytes (write_text_outcome s lent).answer _ (λ n d e. ap (λ o. o.answer) (write_text_passes_it_on s n d e lent)) (λ B e. written_is s B e lent l)

pub write_text_refusal_changes_nothing : (s lent : List ℕ) (n d : ℕ) → (write_text_outcome s lent).answer ≡ refused n d → (write_text_outcome s lent).left ≡ lent
unfolding write_text_outcome
write_text_refusal_changes_nothing s lent n d h = kept lent (accepted s >>= _) h

-- ---- the reader of text: good text, and room for its numbers
module _ (t : List ℕ) (list : List ℤ) where
  pub read_text_passes_it_on : (n d : ℕ) → read_text t ≡ refused n d → read_text_outcome t list ≡ (refused n d leaves list)
  unfolding read_text_outcome
  read_text_passes_it_on n d e = rw e

  abbrev sizes_in : Read → Sizes
  sizes_in r = record { n = r.n; m = r.m; k = length r.list }

  read_is : (r : Read) → read_text t ≡ done r → (z : Sizes) → ((read_text_outcome t list).answer ≡ done z) ↔ ((length r.list ≤ length list) × (z ≡ sizes_in r))
  unfolding read_text_outcome
  read_is r e z = rw e (simp (lending_then, room) (λ h. (h.0, sym (same h.1)), λ h. (h.0, ap done (sym h.1))))

  abbrev GoodFor : Sizes → Type 0
  GoodFor z = (ns : List ℤ) × GoodText z.n z.m ns t × ((length ns ≤ length list) × (z.k ≡ length ns))

  pub read_text_accepts_exactly : (z : Sizes) → ((read_text_outcome t list).answer ≡ done z) ↔ GoodFor z
  read_text_accepts_exactly z = (to (read_text t) refl, from)
    where
      to : (m : Result Read) → read_text t ≡ m → (read_text_outcome t list).answer ≡ done z → GoodFor z
      to (done r) e h =
          let i = (read_is r e z).0 h in
          subst GoodFor (sym i.1) (r.list, only_good_text_is_read t r e, (i.0, refl))
      to (refused n d) e h = never (sym (ap (λ (o : Outcome Sizes (List ℤ)). o.answer) (read_text_passes_it_on n d e)) ∙ h)

      from : GoodFor z → (read_text_outcome t list).answer ≡ done z
      from h =
          let r : Read = record { n = z.n; m = z.m; list = h.0 } in
          let is : z ≡ sizes_in r = ap (λ k. record { n = z.n; m = z.m; k = k }) h.2.1 in
          (read_is r (good_text_is_read z.n z.m h.0 t h.1) z).1 (h.2.0, is)

  pub read_text_refusal_changes_nothing : (n d : ℕ) → (read_text_outcome t list).answer ≡ refused n d → (read_text_outcome t list).left ≡ list
  unfolding read_text_outcome
  read_text_refusal_changes_nothing n d h = kept list (read_text t >>= _) h

-- ---- the reader of a reply: a good one with each variable once and a model of N bytes, or 'none'
module _ (N : ℕ) (small : N ≤ wide) (t lent : List ℕ) where
  pub read_reply_passes_it_on : (n d : ℕ) → read_reply N t ≡ refused n d → read_reply_outcome N t lent ≡ (refused n d leaves lent)
  unfolding read_reply_outcome
  read_reply_passes_it_on n d e = rw e

  abbrev OfModel : Type 0
  OfModel = (ns : List ℤ) × GoodReply N ns t × (AllOnce N ns × (length lent ≡ N))

  abbrev answered : Outcome Bool (List ℕ) → Result Bool
  answered o = o.answer

  module _ (ns : List ℤ) (g : GoodReply N ns t) where
    -- a good reply is a model, or is refused
    given : {b : Bool} → (read_reply_outcome N t lent).answer ≡ done b → (b ≡ true) × OfModel
    given h = elim (all_once_or_one_is_least N ns) [
      | inl a ↦ (elim (cases (eqb (length lent) N)) [
        | inl y ↦ (let l = eqb-true (length lent) N y in
            (same (sym h ∙ ap answered (a_model_is_read N small t lent ns g a l)), (ns, g, (a, l))))
        | inr y ↦ never (sym (ap answered (refused_with_11_for_its_length N small t lent ns g a (eqb-false (length lent) N y))) ∙ h)
      ])
      | inr q ↦ never (sym (ap answered (refused_with_19_at_the_least N small t lent ns g q.0 q.1)) ∙ h)
    ]

  not_both : {A : Type 0} → false ≡ true → A
  not_both e = absurd (subst T (sym e) tt)

  pub a_model_is_answered_exactly : ((read_reply_outcome N t lent).answer ≡ done true) ↔ OfModel
  a_model_is_answered_exactly = (to (read_reply N t) refl, λ h. ap answered (a_model_is_read N small t lent h.0 h.1 h.2.0 h.2.1))
    where
      to : (m : Result Reply) → read_reply N t ≡ m → (read_reply_outcome N t lent).answer ≡ done true → OfModel
      to (done (model ns)) e h = (given ns (only_a_good_reply_is_read N small t (model ns) e) h).1
      to (done unsatisfiable) e h = not_both (same (sym (ap answered (none_is_none N small t lent (only_a_good_reply_is_read N small t unsatisfiable e))) ∙ h))
      to (refused n d) e h = never (sym (ap answered (read_reply_passes_it_on n d e)) ∙ h)

  pub none_is_answered_exactly : ((read_reply_outcome N t lent).answer ≡ done false) ↔ (t ≡ no_model)
  none_is_answered_exactly = (to (read_reply N t) refl, λ h. ap answered (none_is_none N small t lent h))
    where
      to : (m : Result Reply) → read_reply N t ≡ m → (read_reply_outcome N t lent).answer ≡ done false → t ≡ no_model
      to (done (model ns)) e h = not_both (given ns (only_a_good_reply_is_read N small t (model ns) e) h).0
      to (done unsatisfiable) e h = only_a_good_reply_is_read N small t unsatisfiable e
      to (refused n d) e h = never (sym (ap answered (read_reply_passes_it_on n d e)) ∙ h)

  pub read_reply_refusal_changes_nothing : (n d : ℕ) → (read_reply_outcome N t lent).answer ≡ refused n d → (read_reply_outcome N t lent).left ≡ lent
  unfolding read_reply_outcome
  read_reply_refusal_changes_nothing n d h = kept lent (read_reply N t >>= taken N lent) h
