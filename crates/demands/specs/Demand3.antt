-- The third demand, for every accepted record; and what it says of Decode, Judge and Image. Assumes nothing.
use Rattle.std.specs.Prelude.{◌≡◌, refl, ◌↔◌, Bool, List, map, ℕ, ◌-◌, ◌≤◌, ◌<◌, T, get_or, take, ℤ, pos, ◌*ℤ◌, ◌≤ℤ◌}
use Rattle.std.proofs.Common.{sym, ap, ap₂, ◌∙◌, arith}
use Rattle.std.proofs.Math.ListN.{length}
use Rattle.definitions.specs.Tools.{All, Any, sum_z}
use Rattle.definitions.specs.Board.{Board, Literal, is_true, is_false, at_most, bounds_of, variables}
use Rattle.definitions.specs.Result.{done}
use Rattle.definitions.specs.Encoding.{selector, selections, number, clause_list, N}
use Rattle.definitions.specs.Meaning.{on, assigned, in_bounds, compares, holds, Solution, in_model, Model, values_of, selection, Plain, plain_model}
use Rattle.definitions.specs.Operations.{accepted, ◌leaves◌, decode_outcome, judge_outcome, image_outcome}
use Rattle.laws.specs.Lists.{all_read, all-count_up, count_up-all}
use Rattle.laws.specs.Decide.{Decides, equals, at_most_z, is_within, every}
use Rattle.laws.specs.Some.{some, lines}
use Rattle.laws.specs.Admitted.{Admitted}
use Rattle.laws.specs.Reread.{accepted_admitted}
use Rattle.demands.specs.Flat.{Satisfies, is_zero, model_of_list}
use Rattle.demands.specs.Pairing as pairing
use Rattle.demands.specs.Accepts.{judge_is, image_gives, decode_is, decode_gives}

-- a literal under values and Boolean bytes, as ordinary arithmetic
abbrev pub Says : List ℤ → List ℕ → Literal → Type 0
Says values bools (is_true b) = get_or bools (b - 1) 0 ≡ 1
Says values bools (is_false b) = get_or bools (b - 1) 0 ≡ 0
Says values bools (at_most q) = sum_z (map (λ t. t.coef *ℤ get_or values t.var (pos 0)) q.terms) ≤ℤ q.constant

module _ (B : Board) (values : List ℤ) (bools : List ℕ) where
  said : All (λ b. b ≤ 1) bools → (l : Literal) → Decides (holds (assigned values bools) l) (Says values bools l)
  unfolding holds assigned on compares
  said h (is_true b) = equals (get_or bools (b - 1) 0) 1
  said h (is_false b) = let z = is_zero (get_or bools (b - 1) 0) (all_read (λ b. b ≤ 1) 0 (omega arith) bools h (b - 1)) in record { sound = z.0; full = z.1 }
  said h (at_most q) = at_most_z _ _

  inside : (x : ℕ) → Decides (in_bounds B (assigned values bools) x) (((bounds_of B x).lo ≤ℤ get_or values x (pos 0)) × (get_or values x (pos 0) ≤ℤ (bounds_of B x).hi))
  unfolding in_bounds assigned
  inside x = is_within (bounds_of B x).lo (bounds_of B x).hi (get_or values x (pos 0))

  -- "integers within bounds and Booleans under which all clauses hold as ordinary arithmetic"
  pub a_solution_means : Solution B values bools ↔ ((length values ≡ length B.bounds) × (length bools ≡ B.bools) × All (λ b. b ≤ 1) bools ×
      ((x : ℕ) → x < length B.bounds → ((bounds_of B x).lo ≤ℤ get_or values x (pos 0)) × (get_or values x (pos 0) ≤ℤ (bounds_of B x).hi)) ×
      All (Any (Says values bools)) B.clauses)
  unfolding Solution variables
  a_solution_means =
      let n = length B.bounds in
      let tests = lines (holds (assigned values bools)) B.clauses in (
        λ s. (s.0, s.1, s.2, (λ x h. (inside x).sound (count_up-all _ 0 n s.3 x (omega arith) (omega arith))), (every (some (said s.2)) B.clauses).sound (tests.full s.4)),
        λ s. (s.0, s.1, s.2, all-count_up _ 0 n (λ x l u. (inside x).full (s.3 x (omega arith))), tests.sound ((every (some (said s.2)) B.clauses).full s.4)),
      )

-- two tests agree exactly if what they decide does
agree : {b c : Bool} {P Q : Type 0} → Decides b P → Decides c Q → (T b ↔ T c) ↔ (P ↔ Q)
agree p q =
    (λ i. (λ h. q.sound (i.0 (p.full h)), λ h. p.sound (i.1 (q.full h))), λ i. (λ h. q.full (i.0 (p.sound h)), λ h. p.full (i.1 (q.sound h))))

-- a plain model, and the solution that it decodes to
pub record Paired (B : Board) (model : List ℕ) (values : List ℤ) (bools : List ℕ) : Type 0 where
  pub satisfies : Model B model
  pub plain : Plain B model
  pub solution : Solution B values bools
  pub ints : values_of B model ≡ values
  pub booleans : take B.bools model ≡ bools

module _ (s : List ℕ) (B : Board) (e : accepted s ≡ done B) where
  good : Admitted B
  good = accepted_admitted s B e

  -- "each model of that list decodes to a solution"
  pub a_model_means : (model : List ℕ) → Model B model ↔ ((length model ≡ N B) × All (λ b. b ≤ 1) model × Satisfies model (clause_list B))
  a_model_means = model_of_list B good

  pub each_model_decodes_to_a_solution : (model : List ℕ) → Model B model → Solution B (values_of B model) (take B.bools model)
  each_model_decodes_to_a_solution = pairing.decodes B good

  -- "a model is plain if each selector is true exactly when its comparison holds at the decoded values": its byte is 1, the sum at most the constant
  pub plain_means : (model : List ℕ) → Plain B model ↔
      ((j : ℕ) → j < length (selections B) → (get_or model (number B (selector j) - 1) 0 ≡ 1) ↔
      (sum_z (map (λ t. t.coef *ℤ get_or (values_of B model) t.var (pos 0)) (selection B j).terms) ≤ℤ (selection B j).constant))
  unfolding Plain in_model on compares assigned
  plain_means model =
      let n = length (selections B) in (
        λ p j h. (agree (equals _ 1) (at_most_z _ _)).0 (count_up-all _ 0 n p j (omega arith) (omega arith)),
        λ f. all-count_up _ 0 n (λ j l u. (agree (equals _ 1) (at_most_z _ _)).1 (f j (omega arith))),
      )

  -- "decoding pairs the plain models with the solutions": none left over on either side
  pub each_plain_model_is_paired : (model : List ℕ) → Model B model → Plain B model → Paired B model (values_of B model) (take B.bools model)
  each_plain_model_is_paired model m p = record { satisfies = m; plain = p; solution = each_model_decodes_to_a_solution model m; ints = refl; booleans = refl }

  pub each_solution_is_paired : (values : List ℤ) (bools : List ℕ) → Solution B values bools → Paired B (plain_model B (assigned values bools)) values bools
  each_solution_is_paired values bools h =
      record {
        satisfies = pairing.image_model B good values bools h;
        plain = pairing.image_plain B good values bools h;
        solution = h;
        ints = pairing.image_values B good values bools h;
        booleans = pairing.image_bools B good values bools h;
      }

  -- "one to one"
  pub one_solution_each : (model : List ℕ) (values values' : List ℤ) (bools bools' : List ℕ) → Paired B model values bools → Paired B model values' bools' → (values ≡ values') × (bools ≡ bools')
  one_solution_each model values values' bools bools' p q = (cc, cc)

  pub its_plain_model : (model : List ℕ) (values : List ℤ) (bools : List ℕ) → Paired B model values bools → plain_model B (assigned values bools) ≡ model
  its_plain_model model values bools p = ap (λ a. plain_model B a) (ap₂ assigned (sym p.ints) (sym p.booleans)) ∙ pairing.plain_image B good model p.satisfies p.plain

  pub one_plain_model_each : (model model' : List ℕ) (values : List ℤ) (bools : List ℕ) → Paired B model values bools → Paired B model' values bools → model ≡ model'
  one_plain_model_each model model' values bools p q = sym (its_plain_model model values bools p) ∙ its_plain_model model' values bools q

  -- ---- by the operations
  pub judge_accepts_what_decode_leaves : (model : List ℕ) (values : List ℤ) (bools : List ℕ) → (decode_outcome s model values bools).answer ≡ done tt →
      judge_outcome s (decode_outcome s model values bools).left.0 (decode_outcome s model values bools).left.1 ≡ done tt
  judge_accepts_what_decode_leaves model values bools h =
      let m = (decode_is s B e model values bools).0 h in
      rw (decode_gives s B e model values bools m.0 m.1 m.2) ((judge_is s B e (values_of B model) (take B.bools model)).1 (each_model_decodes_to_a_solution model m.0))

  module _ (model : List ℕ) (values : List ℤ) (bools : List ℕ) (p : Paired B model values bools) where
    pub decode_gives_the_solution : (ints : List ℤ) (booleans : List ℕ) → length ints ≡ length B.bounds → length booleans ≡ B.bools → decode_outcome s model ints booleans ≡ (done tt leaves (values, bools))
    decode_gives_the_solution ints booleans i b = decode_gives s B e model ints booleans p.satisfies i b ∙ cc

    pub judge_accepts_it : judge_outcome s values bools ≡ done tt
    judge_accepts_it = (judge_is s B e values bools).1 p.solution

    pub image_gives_the_model_back : (lent : List ℕ) → length lent ≡ N B → image_outcome s values bools lent ≡ (done tt leaves model)
    image_gives_the_model_back lent l = image_gives s B e values bools lent p.solution l ∙ ap (λ m. done tt leaves m) (its_plain_model model values bools p)
