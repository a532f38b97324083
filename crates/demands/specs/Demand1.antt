-- The first demand, of what the operations answer. Assumes nothing.
--   "Each operation ends with a result for every record, model and list lent to it, without a fault", "the refusal and detail that 01
--   fixes", "It relies on no check by its caller": each operation is defined as a total function of its inputs, and its contract says
--   that the code gives just that outcome and requires nothing.
use Rattle.std.specs.Prelude.{◌≡◌, refl, ◌↔◌, List, ℕ, ◌≤◌, ◌<◌, length, ℤ}
use Rattle.std.proofs.Common.{sym, ap, ◌∙◌}
use Rattle.definitions.specs.Tools.{All}
use Rattle.definitions.specs.Board.{Board}
use Rattle.definitions.specs.Result.{Result, done, refused, ◌>>=◌}
use Rattle.definitions.specs.Encoding.{N, K}
use Rattle.definitions.specs.Meaning.{Solution, Model}
use Rattle.definitions.specs.Operations.{accepted, ◌leaves◌, long, Sizes, sizes_of, size_outcome, compile_outcome, decode_outcome, judged, judge_outcome, image_outcome}
use Rattle.laws.specs.Readings.{never}
use Rattle.demands.specs.Records.{Admits, accepted_exactly}
use Rattle.demands.specs.Passed.{kept}
use Rattle.demands.specs.Accepts.{size_is, compile_is, decode_is, judge_is, image_is}

-- ---- "otherwise it gives the refusal": all operations make the record's checks first, and pass its refusal on
module _ (s : List ℕ) (n d : ℕ) (e : accepted s ≡ refused n d) where
  pub size_passes_it_on : size_outcome s ≡ refused n d
  unfolding size_outcome
  size_passes_it_on = rw e

  pub compile_passes_it_on : (list : List ℤ) → compile_outcome s list ≡ (refused n d leaves list)
  unfolding compile_outcome
  compile_passes_it_on list = rw e

  pub decode_passes_it_on : (model : List ℕ) (values : List ℤ) (bools : List ℕ) → decode_outcome s model values bools ≡ (refused n d leaves (values, bools))
  unfolding decode_outcome
  decode_passes_it_on model values bools = rw e

  pub judge_passes_it_on : (values : List ℤ) (bools : List ℕ) → judge_outcome s values bools ≡ refused n d
  unfolding judge_outcome judged
  judge_passes_it_on values bools = rw e

  pub image_passes_it_on : (values : List ℤ) (bools model : List ℕ) → image_outcome s values bools model ≡ (refused n d leaves model)
  unfolding image_outcome judged
  image_passes_it_on values bools model = rw e

-- ---- "It accepts exactly what document 01 admits"
module _ (s : List ℕ) (bytes : All (λ b. b < 256) s) where
  pub accepts_exactly_what_01_admits : (B : Board) → (accepted s ≡ done B) ↔ Admits s B
  accepts_exactly_what_01_admits B = accepted_exactly s B bytes

  -- an answer that is refused with the record, and is otherwise given exactly where P holds of its board
  pub exactly : {A : Type 0} {a : A} (r : Result A) (P : Board → Type 0) → ((n d : ℕ) → accepted s ≡ refused n d → r ≡ refused n d)
      → ((B : Board) → accepted s ≡ done B → (r ≡ done a) ↔ P B) → (r ≡ done a) ↔ ((B : Board) × Admits s B × P B)
  exactly {A} {a} r P none some = (to (accepted s) refl, λ h. (some h.0 ((accepts_exactly_what_01_admits h.0).1 h.1)).1 h.2)
    where
      to : (m : Result Board) → accepted s ≡ m → r ≡ done a → (B : Board) × Admits s B × P B
      to (done B) e h = (B, (accepts_exactly_what_01_admits B).0 e, (some B e).0 h)
      to (refused n d) e h = never (sym (none n d e) ∙ h)

  pub size_accepts_exactly : (z : Sizes) → (size_outcome s ≡ done z) ↔ ((B : Board) × Admits s B × (z ≡ sizes_of B))
  size_accepts_exactly z = exactly (size_outcome s) _ (size_passes_it_on s) (λ B e. size_is s B e z)

  pub compile_accepts_exactly : (list : List ℤ) (z : Sizes) → ((compile_outcome s list).answer ≡ done z) ↔ ((B : Board) × Admits s B × ((K B ≤ length list) × (z ≡ sizes_of B)))
  compile_accepts_exactly list z = exactly (compile_outcome s list).answer _ (λ n d e. ap (λ o. o.answer) (compile_passes_it_on s n d e list)) (λ B e. compile_is s B e list z)

  pub decode_accepts_exactly : (model : List ℕ) (values : List ℤ) (bools : List ℕ)
      → ((decode_outcome s model values bools).answer ≡ done tt) ↔ ((B : Board) × Admits s B × (Model B model × (length values ≡ length B.bounds) × (length bools ≡ B.bools)))
  decode_accepts_exactly model values bools =
      exactly (decode_outcome s model values bools).answer _ (λ n d e. ap (λ o. o.answer) (decode_passes_it_on s n d e model values bools)) (λ B e. decode_is s B e model values bools)

  pub judge_accepts_exactly : (values : List ℤ) (bools : List ℕ) → (judge_outcome s values bools ≡ done tt) ↔ ((B : Board) × Admits s B × Solution B values bools)
  judge_accepts_exactly values bools = exactly (judge_outcome s values bools) _ (λ n d e. judge_passes_it_on s n d e values bools) (λ B e. judge_is s B e values bools)

  pub image_accepts_exactly : (values : List ℤ) (bools model : List ℕ)
      → ((image_outcome s values bools model).answer ≡ done tt) ↔ ((B : Board) × Admits s B × (Solution B values bools × (length model ≡ N B)))
  image_accepts_exactly values bools model =
      exactly (image_outcome s values bools model).answer _ (λ n d e. ap (λ o. o.answer) (image_passes_it_on s n d e values bools model)) (λ B e. image_is s B e values bools model)

-- ---- "and each lent list still holds what it held"
module _ (s : List ℕ) (n d : ℕ) where
  pub compile_refusal_changes_nothing : (list : List ℤ) → (compile_outcome s list).answer ≡ refused n d → (compile_outcome s list).left ≡ list
  unfolding compile_outcome
  compile_refusal_changes_nothing list h = kept list (accepted s >>= _) h

  pub decode_refusal_changes_nothing : (model : List ℕ) (values : List ℤ) (bools : List ℕ)
      → (decode_outcome s model values bools).answer ≡ refused n d → (decode_outcome s model values bools).left ≡ (values, bools)
  unfolding decode_outcome
  decode_refusal_changes_nothing model values bools h = kept (values, bools) (accepted s >>= _) h

  pub image_refusal_changes_nothing : (values : List ℤ) (bools model : List ℕ) → (image_outcome s values bools model).answer ≡ refused n d → (image_outcome s values bools model).left ≡ model
  unfolding image_outcome
  image_refusal_changes_nothing values bools model h = kept model (judged s values bools (λ B. long (N B) model) >>= _) h
