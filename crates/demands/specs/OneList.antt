-- P9, one list for every question: 'x is at most h' is asked by the clause p(x,h) at the list's end. Assumes nothing.
use Rattle.std.specs.Prelude.{◌≡◌, ◌↔◌, ◌⊎◌, List, [], ◌∷◌, ◌++◌, ℕ, ◌-◌, ◌≤◌, ◌<◌, length, get_or, take, ℤ, pos, ◌-ℤ◌, ◌≤ℤ◌}
use Rattle.std.proofs.Common.{inl, inr}
use Rattle.definitions.specs.Tools.{All, Any}
use Rattle.definitions.specs.Board.{Board, bounds_of}
use Rattle.definitions.specs.Result.{done}
use Rattle.definitions.specs.Encoding.{order, number, clause_list, N}
use Rattle.definitions.specs.Meaning.{on, assigned, Solution, in_model, Model, values_of, plain_model}
use Rattle.definitions.specs.Operations.{accepted}
use Rattle.laws.specs.Lists.{all_append, append-all}
use Rattle.laws.specs.Decide.{equals}
use Rattle.laws.specs.Admitted.{Admitted}
use Rattle.laws.specs.Layout.{number-range}
use Rattle.laws.specs.Reread.{accepted_admitted}
use Rattle.demands.specs.Flat.{cut, TrueIn, Satisfies, list_cut_more, model_of_list}
use Rattle.demands.specs.Pairing.{model_says, decodes, image_model, image_values, image_bools}
use Rattle.demands.specs.Questions.{adding, added_means}

-- what a solver is given for question h: the board's list, and one clause of one literal
abbrev pub asking : Board → ℕ → ℤ → List ℤ
asking B x h = clause_list B ++ (pos (number B (order x h)) ∷ pos 0 ∷ [])

-- a model of a list of numbers that decodes to these values and Booleans
pub record DecodesTo (B : Board) (list : List ℤ) (values : List ℤ) (bools : List ℕ) : Type 0 where
  pub model : List ℕ
  pub long : length model ≡ N B
  pub bits : All (λ b. b ≤ 1) model
  pub satisfies : Satisfies model list
  pub ints : values_of B model ≡ values
  pub booleans : take B.bools model ≡ bools

module _ (s : List ℕ) (B : Board) (e : accepted s ≡ done B) (x : ℕ) (known : x < length B.bounds) (h : ℤ)
    (least : ((bounds_of B x).lo -ℤ pos 1) ≤ℤ h) (most : h ≤ℤ (bounds_of B x).hi) where
  good : Admitted B
  good = accepted_admitted s B e

  abbrev p : ℕ
  p = number B (order x h)

  -- a model of the longer list is one of the board's, with p(x,h) true
  longer : (model : List ℕ) → Satisfies model (asking B x h) ↔ (Satisfies model (clause_list B) × (get_or model (p - 1) 0 ≡ 1))
  longer model =
      let P : List ℤ → Type 0 = Any (TrueIn model) in
      let rows = cut (clause_list B) in
      let unit : List (List ℤ) = (pos p ∷ []) ∷ [] in
      let c = list_cut_more B good (pos p ∷ []) ((number-range B (order x h) (known, least, most)).0, tt) in
      rw c (λ k. (let a = append-all P rows unit k in (a.0, only a.1.0)), λ k. all_append P rows unit k.0 (inl k.1, tt))
    where
      only : {P : Type 0} → P ⊎ ⊥ → P
      only (inl k) = k
      only (inr k) = absurd k

  says : (model : List ℕ) → Model B model → (get_or model (p - 1) 0 ≡ 1) ↔ (get_or (values_of B model) x (pos 0) ≤ℤ h)
  unfolding in_model on
  says model m =
      let d = equals (get_or model (p - 1) 0) 1 in
      let k = model_says B good model m x known h least most in
      (λ y. k.0 (d.full y), λ y. d.sound (k.1 y))

  -- the models of the list that make p(x,h) true decode exactly to the solutions with x at most h
  pub one_list_serves : (values : List ℤ) (bools : List ℕ) → DecodesTo B (asking B x h) values bools ↔ (Solution B values bools × (get_or values x (pos 0) ≤ℤ h))
  one_list_serves values bools = (
    λ d.
        let l = (longer d.model).0 d.satisfies in
        let m = (model_of_list B good d.model).1 (d.long, d.bits, l.0) in
        (rw (d.ints, d.booleans) at (decodes B good d.model m), rw d.ints at ((says d.model m).0 l.1)),
    λ k.
        let model = plain_model B (assigned values bools) in
        let m = image_model B good values bools k.0 in
        let v = image_values B good values bools k.0 in
        let n = (model_of_list B good model).0 m in
        record {
          model = model;
          long = n.0;
          bits = n.1;
          satisfies = (longer model).1 (n.2, (says model m).1 (rw v k.1));
          ints = v;
          booleans = image_bools B good values bools k.0;
        },
  )

  -- so they are the solutions of the board with that clause added
  pub the_list_answers_the_question : (values : List ℤ) (bools : List ℕ) → DecodesTo B (asking B x h) values bools ↔ Solution (adding B x h) values bools
  the_list_answers_the_question values bools =
      let a = one_list_serves values bools in
      let b = added_means B x h values bools in
      (λ d. b.1 (a.0 d), λ k. a.1 (b.0 k))
