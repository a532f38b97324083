-- What each operation accepts and gives, where its record is accepted (01, "Five operations"). Assumes nothing.
use Rattle.std.specs.Prelude.{◌≡◌, ◌↔◌, Bool, List, ◌++◌, map, ℕ, ◌≤◌, T, leb, length, take, drop, ℤ}
use Rattle.std.proofs.Math.Path.{refl, sym, ap}
use Rattle.definitions.specs.Tools.{All, Any, any}
use Rattle.definitions.specs.Board.{Board}
use Rattle.definitions.specs.Result.{Result, done, need, each}
use Rattle.definitions.specs.Encoding.{N, K, clauses, clause_list}
use Rattle.definitions.specs.Meaning.{assigned, Solution, satisfies, in_model, Model, values_of, plain_model}
use Rattle.definitions.specs.Operations.{accepted, ◌leaves◌, long, bits, Sizes, sizes_of, size_outcome, compile_outcome, decode_outcome, judged, judge_outcome, image_outcome}
use Rattle.laws.specs.Decide.{itself, at-most}
use Rattle.laws.specs.Some.{some_true}
use Rattle.laws.specs.Readings.{same}
use Rattle.demands.specs.Passed.{needed, of_length, for_each, and_then, made_of, lending_then, lending_made_of}

-- ---- 10, 12, 14 and 13
pub room : {A : Type 0} (n : ℕ) (list : List A) → (need 10 n (leb n (length list)) ≡ done tt) ↔ (n ≤ length list)
room n list = needed 10 n (leb n (length list)) (at-most n (length list))

pub bytes : (l : List ℕ) → (bits l ≡ done tt) ↔ All (λ b. b ≤ 1) l
bytes = for_each 12 (λ b. leb b 1) (λ b. at-most b 1)

inside : (f : ℕ → Bool) (xs : List ℕ) → (each 14 0 (map f xs) ≡ done tt) ↔ All (λ x. T (f x)) xs
inside f = for_each 14 f (λ x. itself (f x))

lines : {A : Type 0} (f : A → Bool) (ls : List (List A)) → (each 13 0 (map (any f) ls) ≡ done tt) ↔ All (Any (λ x. T (f x))) ls
lines f = for_each 13 (any f) (some_true f)

module _ (s : List ℕ) (B : Board) (e : accepted s ≡ done B) where
  -- ---- Size and Compile
  pub size_gives : size_outcome s ≡ done (sizes_of B)
  unfolding size_outcome
  size_gives = rw e

  pub size_is : (z : Sizes) → (size_outcome s ≡ done z) ↔ (z ≡ sizes_of B)
  size_is z = rw size_gives (λ h. sym (same h), λ h. ap done (sym h))

  pub compile_is : (list : List ℤ) (z : Sizes) → ((compile_outcome s list).answer ≡ done z) ↔ ((K B ≤ length list) × (z ≡ sizes_of B))
  unfolding compile_outcome
  compile_is list z = rw e (simp (lending_then, room) (λ h. (h.0, sym (same h.1)), λ h. (h.0, ap done (sym h.1))))

  pub compile_gives : (list : List ℤ) → K B ≤ length list → compile_outcome s list ≡ (done (sizes_of B) leaves (clause_list B ++ drop (K B) list))
  unfolding compile_outcome
  compile_gives list h = rw (e, (room (K B) list).1 h)

  -- ---- Judge and Image
  judged_is : (values : List ℤ) (bools : List ℕ) (also : Board → Result (Unit {0})) (B' : Board) →
      (judged s values bools also ≡ done B') ↔ (Solution B values bools × (also B ≡ done tt) × (◌≡◌ {A = Result Board} (done B) (done B')))
  unfolding judged Solution
  judged_is values bools also B' =
      rw e (simp (and_then, of_length, bytes, inside, lines) (
        λ h. ((h.0, h.1.0, h.1.1.1.0, h.1.1.1.1.0, h.1.1.1.1.1.0), h.1.1.0, h.1.1.1.1.1.1),
        λ h. (h.0.0, (h.0.1, (h.1, (h.0.2, (h.0.3, (h.0.4, h.2)))))),
      ))

  pub judge_is : (values : List ℤ) (bools : List ℕ) → (judge_outcome s values bools ≡ done tt) ↔ Solution B values bools
  unfolding judge_outcome
  judge_is values bools = (
    λ h. (let j = made_of (judged s values bools (λ B. done tt)) (λ B. done tt) h in ((judged_is values bools (λ B. done tt) j.0).0 j.1).0),
    λ h. rw ((judged_is values bools (λ B. done tt) B).1 (h, refl, refl)),
  )

  module _ (values : List ℤ) (bools model : List ℕ) where
    pub image_gives : Solution B values bools → length model ≡ N B → image_outcome s values bools model ≡ (done tt leaves plain_model B (assigned values bools))
    unfolding image_outcome
    image_gives h l = rw ((judged_is values bools (λ B. long (N B) model) B).1 (h, (of_length (N B) model).1 l, refl))

    pub image_is : ((image_outcome s values bools model).answer ≡ done tt) ↔ (Solution B values bools × (length model ≡ N B))
    unfolding image_outcome
    image_is = (to, λ h. ap (λ o. o.answer) (image_gives h.0 h.1))
      where
        to : (image_outcome s values bools model).answer ≡ done tt → Solution B values bools × (length model ≡ N B)
        to h =
            let j = made_of (judged s values bools (λ B. long (N B) model)) _ (lending_made_of model _ h).1 in
            let k = (judged_is values bools (λ B. long (N B) model) j.0).0 j.1 in
            (k.0, (of_length (N B) model).0 k.1)

  -- ---- Decode
  module _ (model : List ℕ) (values : List ℤ) (bools : List ℕ) where
    pub decode_is : ((decode_outcome s model values bools).answer ≡ done tt) ↔ (Model B model × (length values ≡ length B.bounds) × (length bools ≡ B.bools))
    unfolding decode_outcome Model
    decode_is =
        rw e (simp (lending_then, of_length, bytes, lines) (
          λ h. ((h.0, h.1.1.1.0, h.1.1.1.1.0), h.1.0, h.1.1.0),
          λ h. (h.0.0, (h.1, (h.2, (h.0.1, (h.0.2, refl))))),
        ))

    pub decode_gives : Model B model → length values ≡ length B.bounds → length bools ≡ B.bools → decode_outcome s model values bools ≡ (done tt leaves (values_of B model, take B.bools model))
    unfolding decode_outcome Model
    decode_gives m i b = rw (e, (of_length (N B) model).1 m.0, (of_length (length B.bounds) values).1 i, (of_length B.bools bools).1 b, (bytes model).1 m.1, (lines (satisfies (in_model B model)) (clauses B)).1 m.2)
