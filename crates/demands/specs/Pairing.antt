-- A model decodes to a solution, and plain models and solutions pair one to one: decode and plain model undo each other. Assumes nothing.
use Rattle.std.specs.Prelude.{◌≡◌, refl, ◌↔◌, Bool, true, false, ℕ, ◌-◌, ◌≤◌, ◌<◌, length, get_or, take, drop, ℤ, pos, ◌-ℤ◌, ◌≤ℤ◌}
use Rattle.std.proofs.Math.Path.{sym, ap}
use Rattle.std.proofs.Common.{◌∙◌, zero-add, arith, get_or-take}
use mathlib.Core.List.{List, map}
use Rattle.std.proofs.Math.Dec.{T, eqb}
use Rattle.std.proofs.Math.ListN.{length-map, take-append-drop}
use Rattle.std.proofs.Math.Seq.{length-take-le}
use Rattle.definitions.specs.Tools.{count_up}
use Rattle.definitions.specs.Board.{Board, bounds_of, variables}
use Rattle.definitions.specs.Encoding.{Atom, bool, order, selector, selections, number, N}
use Rattle.definitions.specs.Meaning.{Assignment, on, assigned, in_bounds, compares, Solution, in_model, Model, value_of, values_of, Plain, truth, plain_model}
use Rattle.laws.specs.Lists.{append-all, length-count_up, all-count_up, count_up-all, counted-at, counted}
use Rattle.laws.specs.Decide.{is_within}
use Rattle.laws.specs.Layout.{Has}
use Rattle.laws.specs.Admitted.{Admitted}
use Rattle.laws.specs.Terms.{good_bounds}
use Rattle.demands.specs.Order.{LeastTrue, axioms-least, proposition_2, tells-least}
use Rattle.demands.specs.Bytes.{bit, truth-bytes, bytes-length, bytes_small, bytes_bools, bytes_read, read-bytes, bytes-alike}
use Rattle.demands.specs.Clauses.{TellsAll, axioms_in, solves, satisfied}

alike : (b c : Bool) → T b ↔ T c → b ≡ c
alike true true h = refl
alike true false h = absurd (h.0 tt)
alike false true h = absurd (h.1 tt)
alike false false h = refl

module _ (B : Board) (good : Admitted B) where
  abbrev ints : ℕ
  ints = length B.bounds

  -- ---- a model
  module _ (model : List ℕ) (m : Model B model) where
    abbrev decoded : Assignment
    decoded = assigned (values_of B model) (take B.bools model)

    value_is : (x : ℕ) → x < ints → decoded.α x ≡ value_of B model x
    unfolding assigned values_of variables
    value_is x h = counted-at (value_of B model) (pos 0) 0 ints x h ∙ ap (value_of B model) (zero-add x)

    pub value-least : (x : ℕ) → x < length B.bounds
        → LeastTrue (λ c. in_model B model (order x c)) (bounds_of B x).lo (bounds_of B x).hi (get_or (values_of B model) x (pos 0))
    unfolding Model value_of assigned
    value-least x h = rw (value_is x h) (axioms-least (bounds_of B) (in_model B model) x (good_bounds B good.bounds x h).ordered (axioms_in B (in_model B model) m.2 x h))

    bools_fit : B.bools ≤ length model
    unfolding Model N
    bools_fit = omega (arith, m.0)

    model-tells : TellsAll B (in_model B model) decoded
    unfolding Model value_of in_model number assigned on
    model-tells = record {
      ints = λ x h. rw (value_is x h) ((proposition_2 (bounds_of B) (in_model B model) x (good_bounds B good.bounds x h).ordered).0 (axioms_in B (in_model B model) m.2 x h));
      bools = λ i l u. ap (λ n. eqb n 1) (sym (get_or-take B.bools model (i - 1) 0 (omega arith)));
    }

    pub model_says : (x : ℕ) → x < length B.bounds → (c : ℤ) → ((bounds_of B x).lo -ℤ pos 1) ≤ℤ c → c ≤ℤ (bounds_of B x).hi
        → T (in_model B model (order x c)) ↔ (get_or (values_of B model) x (pos 0) ≤ℤ c)
    unfolding assigned
    model_says x h c l u = (model-tells.ints x h).says c l u

    pub decodes : Solution B (values_of B model) (take B.bools model)
    unfolding Solution Model values_of variables in_bounds
    decodes =
        let bytes = append-all (λ b. b ≤ 1) (take B.bools model) (drop B.bools model) (rw take-append-drop m.1) in (
          length-map (variables B) (value_of B model) ∙ length-count_up 0 ints,
          length-take-le B.bools model bools_fit,
          bytes.0,
          all-count_up (λ x. T (in_bounds B decoded x)) 0 ints (λ x l u. let t = model-tells.ints x (omega arith) in (is_within (bounds_of B x).lo (bounds_of B x).hi (decoded.α x)).full (t.least, t.most)),
          solves B (in_model B model) decoded good model-tells m.2,
        )

    -- where it is plain, it is the plain model of what it decodes to
    agrees : Plain B model → (v : Atom) → Has B v → truth B decoded v ≡ in_model B model v
    unfolding Plain truth compares assigned
    agrees p (bool i) h = sym (model-tells.bools i h.0 h.1)
    agrees p (order x c) h =
        let t = (model-tells.ints x h.0).says c h.1 h.2 in
        alike _ _ (λ l. t.1 (record { le = l }), λ l. (t.0 l).le)
    agrees p (selector j) h =
        let e = count_up-all _ 0 (length (selections B)) p j (omega arith) (omega arith) in
        alike _ _ (e.1, e.0)

    pub plain_image : Plain B model → plain_model B (assigned (values_of B model) (take B.bools model)) ≡ model
    unfolding plain_model Model
    plain_image p = bytes-alike B (truth B decoded) (in_model B model) (agrees p) ∙ read-bytes B model m.0 m.1

  -- ---- a solution
  module _ (values : List ℤ) (bools : List ℕ) (s : Solution B values bools) where
    abbrev a : Assignment
    a = assigned values bools

    abbrev model : List ℕ
    model = plain_model B a

    reads : (v : Atom) → Has B v → in_model B model v ≡ truth B a v
    unfolding plain_model
    reads v h = bytes_read B (truth B a) v h

    image_tells : TellsAll B (in_model B model) a
    unfolding Solution variables in_bounds truth
    image_tells = record {
      ints = λ x h.
          let w = (is_within (bounds_of B x).lo (bounds_of B x).hi (a.α x)).sound (count_up-all (λ x. T (in_bounds B a x)) 0 ints s.3 x (omega arith) (omega arith)) in
          record { least = w.0; most = w.1; says = λ c l u. rw (reads (order x c) (h, l, u)) (λ t. record { le = t }, λ t. t.le) };
      bools = λ i l u. reads (bool i) (l, u);
    }

    pub image_model : Model B (plain_model B (assigned values bools))
    unfolding Model plain_model Solution truth
    image_model = (
      bytes-length B (truth B a),
      bytes_small B (truth B a),
      satisfied B (in_model B model) a good image_tells (λ j h. rw (reads (selector j) h) (λ t. t, λ t. t)) s.4,
    )

    pub image_values : values_of B (plain_model B (assigned values bools)) ≡ values
    unfolding values_of value_of variables Solution assigned
    image_values =
        ap (λ n. map (value_of B model) (count_up 0 n)) (sym s.0)
        ∙ counted (value_of B model) (pos 0) values 0 (λ x h. rw (zero-add x) (tells-least (bounds_of B) (in_model B model) x (a.α x) (image_tells.ints x (omega (arith, s.0)))))

    pub image_bools : take B.bools (plain_model B (assigned values bools)) ≡ bools
    unfolding plain_model Solution truth assigned
    image_bools = bytes_bools B (truth B a) ∙ ap (λ n. map (λ i. bit (on bools i)) (count_up 1 n)) (sym s.1) ∙ truth-bytes bools s.2

    pub image_plain : Plain B (plain_model B (assigned values bools))
    unfolding Plain truth compares assigned
    image_plain =
        all-count_up _ 0 (length (selections B)) (λ j l u. rw (reads (selector j) (omega arith), image_values) (λ t. t, λ t. t))
