-- The second demand, for every accepted record: the list that is written, its size, and reading a model back. Assumes nothing.
use Rattle.std.specs.Prelude.{◌≡◌, ◌↔◌, List, map, ℕ, ◌≤◌, ◌<◌, length, get_or, take, drop, ℤ, pos, nat_abs}
use Rattle.std.proofs.Math.Path.{sym}
use Rattle.std.proofs.Common.{ap, ◌∙◌, take_at, drop_at}
use Rattle.definitions.specs.Tools.{All, count_up}
use Rattle.definitions.specs.Board.{Board, bounds_of}
use Rattle.definitions.specs.Result.{done}
use Rattle.definitions.specs.Encoding.{order, clauses, atoms, number, literal_number, clause_list, N, K}
use Rattle.definitions.specs.Meaning.{in_model, values_of}
use Rattle.definitions.specs.Operations.{accepted, Sizes, sizes_of, size_outcome, compile_outcome, decode_outcome}
use Rattle.laws.specs.Admitted.{Admitted}
use Rattle.laws.specs.Layout.{numbers_are}
use Rattle.laws.specs.Reread.{accepted_admitted}
use Rattle.laws.specs.Sizes.{K_is}
use Rattle.demands.specs.Order.{LeastTrue}
use Rattle.demands.specs.Pairing.{value-least}
use Rattle.demands.specs.Flat.{cut, list_cut, list_clauses, list_numbers, Satisfies, model_of_list}
use Rattle.demands.specs.Accepts.{size_gives, size_is, compile_gives, decode_is, decode_gives}

-- the three numbers are a list's: how long it is, its clauses where it is cut at its zeros, and no greater number in it
pub record Sized (z : Sizes) (list : List ℤ) : Type 0 where
  pub places : length list ≡ z.k
  pub lines : length (cut list) ≡ z.m
  pub numbers : All (λ v. nat_abs v ≤ z.n) list

module _ (s : List ℕ) (B : Board) (e : accepted s ≡ done B) where
  good : Admitted B
  good = accepted_admitted s B e

  -- ---- "The clause list is, number for number, the order encoding of 000, in 01's order and numbering"
  pub cut_at_its_zeros_the_list_is_the_clauses : cut (clause_list B) ≡ map (map (literal_number B)) (clauses B)
  cut_at_its_zeros_the_list_is_the_clauses = list_cut B good

  pub each_variable_has_its_number : map (number B) (atoms B) ≡ count_up 1 (N B)
  each_variable_has_its_number = numbers_are B

  module _ (list : List ℤ) (room : K B ≤ length list) where
    pub the_list_is_written : take (K B) (compile_outcome s list).left ≡ clause_list B
    the_list_is_written = ap (λ o. take (K B) o.left) (compile_gives s B e list room) ∙ take_at (clause_list B) (drop (K B) list) (K B) (sym (K_is B))

    pub later_places_keep_their_numbers : drop (K B) (compile_outcome s list).left ≡ drop (K B) list
    later_places_keep_their_numbers = ap (λ o. drop (K B) o.left) (compile_gives s B e list room) ∙ drop_at (clause_list B) (drop (K B) list) (K B) (sym (K_is B))

    pub the_size_answered_is_the_size_foretold : (compile_outcome s list).answer ≡ size_outcome s
    the_size_answered_is_the_size_foretold = ap (λ o. o.answer) (compile_gives s B e list room) ∙ sym (size_gives s B e)

  -- ---- "The size foretold is the size written"
  pub the_size_foretold_is_the_size_written : (z : Sizes) → size_outcome s ≡ done z → Sized z (clause_list B)
  unfolding sizes_of
  the_size_foretold_is_the_size_written z h = rw ((size_is s B e z).0 h) (record { places = sym (K_is B); lines = list_clauses B good; numbers = list_numbers B good })

  -- ---- "a model is accepted exactly if it satisfies every clause of that list"
  module _ (model : List ℕ) (values : List ℤ) (bools : List ℕ) where
    pub a_model_is_accepted_exactly_if_it_satisfies_the_list : length model ≡ N B → length values ≡ length B.bounds → length bools ≡ B.bools
        → ((decode_outcome s model values bools).answer ≡ done tt) ↔ (All (λ b. b ≤ 1) model × Satisfies model (clause_list B))
    a_model_is_accepted_exactly_if_it_satisfies_the_list m v b =
        let d = decode_is s B e model values bools in
        let l = model_of_list B good model in
        (λ h. (let k = l.0 (d.0 h).0 in (k.1, k.2)), λ h. d.1 (l.1 (m, h.0, h.1), v, b))

    -- ---- "and its values are read as 000 reads them"
    module _ (h : (decode_outcome s model values bools).answer ≡ done tt) where
      left : (decode_outcome s model values bools).left ≡ (values_of B model, take B.bools model)
      left = let d = (decode_is s B e model values bools).0 h in ap (λ o. o.left) (decode_gives s B e model values bools d.0 d.1 d.2)

      -- each is within its bounds, its p(x,c) is true, and no lesser c within the bounds has a true p(x,c)
      pub each_value_is_the_least_true : (x : ℕ) → x < length B.bounds
          → LeastTrue (λ c. in_model B model (order x c)) (bounds_of B x).lo (bounds_of B x).hi (get_or (decode_outcome s model values bools).left.0 x (pos 0))
      each_value_is_the_least_true x i = rw left (value-least B good model ((decode_is s B e model values bools).0 h).0 x i)

      pub the_booleans_are_the_first_bytes : (decode_outcome s model values bools).left.1 ≡ take B.bools model
      the_booleans_are_the_first_bytes = ap (λ l. l.1) left
