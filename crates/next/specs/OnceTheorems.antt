-- A comparison's clauses, kept once: the same set, pairwise different as numbers, in the order of the first; they say what all say. Assumes nothing.
use Rattle.std.specs.Prelude.{◌≡◌, refl, ◌↔◌, Bool, ℕ, ◌-◌, ◌≤◌, T, length, get_or, ℤ, pos}
use Rattle.std.proofs.Common.{sym, ap₂, ◌∙◌, subst}
use Rattle.std.proofs.Math.Path.{ap}
use mathlib.Core.List.{List, [], ◌∷◌, map, cons≢nil, head-eq_of_cons-eq, tail-eq_of_cons-eq}
use Rattle.definitions.specs.Tools.{All, Any, eq_z, neg, count_up}
use Rattle.definitions.specs.Board.{Board, Bounds, Comparison, bounds_of}
use Rattle.definitions.specs.Encoding.{Atom, SatLiteral, SatClause, minus, plus, clauses_under, atoms, literal_number, number}
use Rattle.definitions.specs.Meaning.{Assignment, compares}
use Rattle.laws.specs.Reads.{equals_z}
use Rattle.laws.specs.Whole.{whole, neg_law, eq_in}
use Rattle.laws.specs.Layout.{Has, number-range, atom_at}
use Rattle.laws.specs.Pieces.{under, piece_clauses}
use Rattle.laws.specs.Mentions.{Mentions, Sound, piece_mentions}
use Rattle.demands.specs.Truth.{Satisfied, Holds}
use Rattle.demands.specs.Rule.{KnownTerm, proposition_1, led}
use Rattle.next.specs.Bools.{alike}
use Rattle.next.specs.Once.{keep, once, same_list, same_clause, clauses_once}
use Rattle.next.specs.Equal.{same_list_decides, clause_decides}
use Rattle.next.specs.OnceLaws.{Different, is_first, once-all, once-any, once_different, once-places, once-most, once-map}

-- ---- the same set
pub same_every : (P : SatClause → Type 0) (lead : SatClause) (of : ℕ → Bounds) (q : Comparison) → All P (clauses_once lead of q) ↔ All P (clauses_under lead of q)
unfolding clauses_once
same_every P lead of q = once-all same_clause clause_decides P (clauses_under lead of q)

pub same_some : (P : SatClause → Type 0) (lead : SatClause) (of : ℕ → Bounds) (q : Comparison) → Any P (clauses_once lead of q) ↔ Any P (clauses_under lead of q)
unfolding clauses_once
same_some P lead of q = once-any same_clause clause_decides P (clauses_under lead of q)

pub satisfied_alike : (v : Atom → Bool) (lead : SatClause) (of : ℕ → Bounds) (q : Comparison) → Satisfied v (clauses_once lead of q) ↔ Satisfied v (clauses_under lead of q)
satisfied_alike v = same_every (Holds v)

pub no_more : (lead : SatClause) (of : ℕ → Bounds) (q : Comparison) → length (clauses_once lead of q) ≤ length (clauses_under lead of q)
unfolding clauses_once
no_more lead of q = once-most same_clause (clauses_under lead of q)

-- ---- in the order of the first: the clauses at the places before which no equal clause stands
pub in_order_lem : (lead : SatClause) (of : ℕ → Bounds) (q : Comparison) → (let cs = clauses_under lead of q in
    clauses_once lead of q ≡ map (λ i. get_or cs i []) (keep (is_first same_clause [] cs) (count_up 0 (length cs))))
unfolding clauses_once
in_order_lem lead of q = once-places same_clause [] (clauses_under lead of q)

-- ---- pairwise different
pub different : (lead : SatClause) (of : ℕ → Bounds) (q : Comparison) → Different (clauses_once lead of q)
unfolding clauses_once
different lead of q = once_different same_clause clause_decides (clauses_under lead of q)

-- a literal's number tells the literal, among those that speak of the board's atoms
module _ (B : Board) where
  atom_told : (a b : Atom) → Has B a → Has B b → number B a ≡ number B b → a ≡ b
  atom_told a b h k e = sym (atom_at B a a h) ∙ ap (λ n. get_or (atoms B) (n - 1) a) e ∙ atom_at B a b k

  signs_differ : (a b : Atom) → Has B a → pos (number B a) ≡ neg (number B b) → ⊥
  signs_differ a b h e = omega (whole, (number-range B a h).0, eq_in _ _ e, neg_law (pos (number B b)))

  literal_told : (l m : SatLiteral) → Mentions B l → Mentions B m → literal_number B l ≡ literal_number B m → l ≡ m
  unfolding literal_number
  literal_told (plus a) (plus b) h k e = ap plus (atom_told a b h k (omega (whole, eq_in _ _ e)))
  literal_told (plus a) (minus b) h k e = absurd (signs_differ a b h e)
  literal_told (minus a) (plus b) h k e = absurd (signs_differ b a k (sym e))
  literal_told (minus a) (minus b) h k e = ap minus (atom_told a b h k (omega (whole, eq_in _ _ e, neg_law (pos (number B a)), neg_law (pos (number B b)))))

  clause_told : (c d : SatClause) → All (Mentions B) c → All (Mentions B) d → map (literal_number B) c ≡ map (literal_number B) d → c ≡ d
  clause_told [] [] h k e = refl
  clause_told [] (m ∷ d) h k e = absurd (cons≢nil (sym e))
  clause_told (l ∷ c) [] h k e = absurd (cons≢nil e)
  clause_told (l ∷ c) (m ∷ d) h k e = ap₂ ◌∷◌ (literal_told l m h.0 k.0 (head-eq_of_cons-eq e)) (clause_told c d h.1 k.1 (tail-eq_of_cons-eq e))

  abbrev pub numbers : SatClause → List ℤ
  numbers c = map (literal_number B) c

  agree : (c d : SatClause) → All (Mentions B) c → All (Mentions B) d → same_clause c d ≡ same_list eq_z (numbers c) (numbers d)
  agree c d h k =
      let symbols = clause_decides c d in
      let integers = same_list_decides eq_z equals_z (numbers c) (numbers d) in
      alike _ _ (λ t. integers.full (ap numbers (symbols.sound t))) (λ t. symbols.full (clause_told c d h k (integers.sound t)))

  -- equal clauses are those equal as lists of numbers; those of a sound comparison's clauses that are kept, as numbers
  pub numbers-once : (lead : SatClause) (q : Comparison) → Sound B (under lead q)
      → map numbers (clauses_once lead (bounds_of B) q) ≡ once (same_list eq_z) (map numbers (clauses_under lead (bounds_of B) q))
  unfolding clauses_once piece_clauses
  numbers-once lead q s = once-map numbers same_clause (same_list eq_z) (All (Mentions B)) agree (clauses_under lead (bounds_of B) q) (piece_mentions B (under lead q) s)

  pub different_numbers : (lead : SatClause) (q : Comparison) → Sound B (under lead q) → Different (map numbers (clauses_once lead (bounds_of B) q))
  different_numbers lead q s =
      subst Different (sym (numbers-once lead q s)) (once_different (same_list eq_z) (same_list_decides eq_z equals_z) (map numbers (clauses_under lead (bounds_of B) q)))

-- ---- they say the comparison, and under a negated selector that it holds where the selector is true (000, Proposition 1, Lemma 2)
pub proposition_1_once : (of : ℕ → Bounds) (v : Atom → Bool) (a : Assignment) (q : Comparison) → All (KnownTerm of v a) q.terms
    → Satisfied v (clauses_once [] of q) ↔ T (compares a q)
proposition_1_once of v a q h =
    let r = satisfied_alike v [] of q in
    let p = proposition_1 of v a q h in
    (λ s. p.0 (r.0 s), λ t. r.1 (p.1 t))

pub selected-once : (of : ℕ → Bounds) (v : Atom → Bool) (j : Atom) (q : Comparison)
    → Satisfied v (clauses_once (minus j ∷ []) of q) ↔ (T (v j) → Satisfied v (clauses_once [] of q))
selected-once of v j q =
    let r = satisfied_alike v (minus j ∷ []) of q in
    let s = satisfied_alike v [] of q in
    let l = led of v j q in
    (λ x t. s.1 (l.0 (r.0 x) t), λ f. r.1 (l.1 (λ t. s.0 (f t))))
