-- The tests of equal clauses, literals and atoms decide that they are equal. Assumes nothing.
use Rattle.std.specs.Prelude.{◌≡◌, refl, Bool, List, [], ◌∷◌, ℕ, T, eqb}
use Rattle.std.proofs.Common.{ap, ap₂, arith}
use Rattle.definitions.specs.Tools.{eq_z}
use Rattle.definitions.specs.Encoding.{Atom, SatLiteral, SatClause, plus, minus, bool, order, selector}
use Rattle.laws.specs.Decide.{Decides, both, equals}
use Rattle.laws.specs.Reads.{equals_z}
use Rattle.next.specs.Once.{same_list, same_atom, same_literal, same_clause}

pub same_list_decides : {A : Type 0} (f : A → A → Bool) → ((x y : A) → Decides (f x y) (x ≡ y)) → (xs ys : List A) → Decides (same_list f xs ys) (xs ≡ ys)
same_list_decides f d [] [] = record { sound = λ t. refl; full = λ e. tt }
same_list_decides f d [] (y ∷ ys) = record { sound = λ t. absurd t; full = λ e. let z : ◌≡◌ {A = ℕ} 0 1 = cc in omega arith }
same_list_decides f d (x ∷ xs) [] = record { sound = λ t. absurd t; full = λ e. let z : ◌≡◌ {A = ℕ} 0 1 = cc in omega arith }
same_list_decides f d (x ∷ xs) (y ∷ ys) =
    let r = both (f x y) (same_list f xs ys) (d x y) (same_list_decides f d xs ys) in
    record { sound = λ t. ap₂ ◌∷◌ (r.sound t).0 (r.sound t).1; full = λ e. r.full (cc, cc) }

never : {b : Bool} {P : Type 0} → (T b → ⊥) → (P → ◌≡◌ {A = ℕ} 0 1) → Decides b P
never t p = record { sound = λ x. absurd (t x); full = λ e. absurd (let z = p e in omega arith) }

atom_decides : (a b : Atom) → Decides (same_atom a b) (a ≡ b)
atom_decides (bool i) (bool j) = let r = equals i j in record { sound = λ t. ap bool (r.sound t); full = λ e. r.full (cc) }
atom_decides (bool i) (order y d) = never (λ t. t) (λ e. cc)
atom_decides (bool i) (selector j) = never (λ t. t) (λ e. cc)
atom_decides (order x c) (bool j) = never (λ t. t) (λ e. cc)
atom_decides (order x c) (order y d) =
    let r = both (eqb x y) (eq_z c d) (equals x y) (equals_z c d) in
    record { sound = λ t. ap₂ order (r.sound t).0 (r.sound t).1; full = λ e. r.full (cc, cc) }
atom_decides (order x c) (selector j) = never (λ t. t) (λ e. cc)
atom_decides (selector i) (bool j) = never (λ t. t) (λ e. cc)
atom_decides (selector i) (order y d) = never (λ t. t) (λ e. cc)
atom_decides (selector i) (selector j) = let r = equals i j in record { sound = λ t. ap selector (r.sound t); full = λ e. r.full (cc) }

pub literal_decides : (a b : SatLiteral) → Decides (same_literal a b) (a ≡ b)
literal_decides (plus a) (plus b) = let r = atom_decides a b in record { sound = λ t. ap plus (r.sound t); full = λ e. r.full (cc) }
literal_decides (plus a) (minus b) = never (λ t. t) (λ e. cc)
literal_decides (minus a) (plus b) = never (λ t. t) (λ e. cc)
literal_decides (minus a) (minus b) = let r = atom_decides a b in record { sound = λ t. ap minus (r.sound t); full = λ e. r.full (cc) }

pub clause_decides : (a b : SatClause) → Decides (same_clause a b) (a ≡ b)
clause_decides = same_list_decides same_literal literal_decides
