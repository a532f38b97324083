-- What the numbers of clauses are added to, from a place on: the laws of it, a loop that adds part by part, and the two that there are,
-- a lent list and lent bytes of text. Assumes nothing.
use Rattle.std.specs.Prelude.{◌≡◌, refl, List, [], ◌∷◌, ◌++◌, ℕ, ◌+◌, ◌≤◌, ℤ, length, map}
use Rattle.std.specs.Borrow.{MutBor}
use Rattle.std.proofs.Common.{sym, ap, ◌∙◌, subst, append_assoc, append-nil, arith, length-append}
use mathlib.Core.List.{flatten, map-append}
use Rattle.definitions.specs.Dimacs.{entry}
use Rattle.laws.specs.Lists.{flatten-append}
use Rattle.text.specs.Entries.{entries}
use Rattle.writing.specs.Adds as adds
use Rattle.writing.specs.Adds.{Adds, Counts, ◌then◌, retold}

-- nothing is added with no trace; what is added behind other numbers is added with them; and of numbers that have room, those in front
-- have it, and behind them the others
pub record IsPart {S : Type 0} (room : S → ℕ → List ℤ → Type 0) (adds : List ℤ → ℕ → S → ℕ → S → Type 0) : Type 0 where
  pub nothing : (at : ℕ) (s : S) → adds [] at s at s
  pub joined : (xs ys : List ℤ) (at : ℕ) (s : S) (n : ℕ) (t : S) (m : ℕ) (u : S) → adds xs at s n t → adds ys n t m u → adds (xs ++ ys) at s m u
  pub front : (xs ys : List ℤ) (at : ℕ) (s : S) → room s at (xs ++ ys) → room s at xs
  pub behind : (xs ys : List ℤ) (at : ℕ) (s : S) (n : ℕ) (t : S) → room s at (xs ++ ys) → adds xs at s n t → room t n ys

-- ---- of `all`, which began at a place, `todo` is still to be added, and has room
pub record Adding {S : Type 0} (room : S → ℕ → List ℤ → Type 0) (adds : List ℤ → ℕ → S → ℕ → S → Type 0) (all todo : List ℤ) (at₀ : ℕ) (s₀ : S) (at : ℕ) (s : S) : Type 0 where
  pub done : List ℤ
  pub whole : done ++ todo ≡ all
  pub added : adds done at₀ s₀ at s
  pub has_room : room s at todo

module _ {S : Type 0} {room : S → ℕ → List ℤ → Type 0} {adds : List ℤ → ℕ → S → ℕ → S → Type 0} (L : IsPart room adds) where
  pub begin : {all todo : List ℤ} (at : ℕ) (s : S) → todo ≡ all → room s at all → Adding room adds all todo at s at s
  begin at s e h = record { done = []; whole = e; added = L.nothing at s; has_room = subst (room s at) (sym e) h }

  -- a place is the same, however it is said
  pub room_at : {xs : List ℤ} {at at' : ℕ} {s : S} → at ≡ at' → room s at xs → room s at' xs
  room_at {xs} {at} {at'} {s} e h = subst (λ at. room s at xs) e h

  pub adds_at : {xs : List ℤ} {at at' : ℕ} {s : S} {n : ℕ} {t : S} → at ≡ at' → adds xs at s n t → adds xs at' s n t
  adds_at {xs} {at} {at'} {s} {n} {t} e a = subst (λ at. adds xs at s n t) e a

  -- numbers in two parts
  module _ {all : List ℤ} (xs ys : List ℤ) (e : all ≡ xs ++ ys) {at : ℕ} {s : S} (h : room s at all) where
    pub front_room : room s at xs
    front_room = L.front xs ys at s (subst (room s at) e h)

    pub rest_room : {n : ℕ} {t : S} → adds xs at s n t → room t n ys
    rest_room {n} {t} a = L.behind xs ys at s n t (subst (room s at) e h) a

  pub both : {all : List ℤ} (xs ys : List ℤ) → all ≡ xs ++ ys → {at : ℕ} {s : S} {n : ℕ} {t : S} {m : ℕ} {u : S} → adds xs at s n t → adds ys n t m u → adds all at s m u
  both xs ys e {at} {s} {n} {t} {m} {u} a b = subst (λ l. adds l at s m u) (sym e) (L.joined xs ys at s n t m u a b)

  module _ {all todo : List ℤ} {at₀ : ℕ} {s₀ : S} {at : ℕ} {s : S} (a : Adding room adds all todo at₀ s₀ at s) where
    pub first_room : (xs todo' : List ℤ) → todo ≡ xs ++ todo' → room s at xs
    first_room xs todo' e = front_room xs todo' e a.has_room

    pub on : (xs todo' : List ℤ) → todo ≡ xs ++ todo' → {n : ℕ} {t : S} → adds xs at s n t → Adding room adds all todo' at₀ s₀ n t
    on xs todo' e {n} {t} b = record {
      done = a.done ++ xs;
      whole = append_assoc a.done xs todo' ∙ ap (λ l. a.done ++ l) (sym e) ∙ a.whole;
      added = L.joined a.done xs at₀ s₀ at s n t a.added b;
      has_room = rest_room xs todo' e a.has_room b;
    }

    pub ended : todo ≡ [] → adds all at₀ s₀ at s
    ended e = subst (λ l. adds l at₀ s₀ at s) (sym (append-nil a.done) ∙ ap (λ l. a.done ++ l) (sym e) ∙ a.whole) a.added

-- ---- a lent list: there is room for all of the numbers
pub list_is : {S : Type 0} (list : S → MutBor (List ℤ))
    → IsPart (λ s at xs. at + length xs ≤ length (list s).now) (λ xs at s n t. Adds xs at (list s).now n (list t).now × ((list t).ghost_name ≡ (list s).ghost_name))
list_is list = record {
  nothing = λ at s. (adds.nothing at (list s).now, refl);
  joined = λ xs ys at s n t m u a b. (a.0 then b.0, b.1 ∙ a.1);
  front = λ xs ys at s h. omega (arith, length-append xs ys);
  behind = λ xs ys at s n t h a. omega (arith, length-append xs ys, a.0.place, a.0.long);
}

-- ---- lent bytes: the numbers' text, whose places can be counted
pub entries-append : (ns ms : List ℤ) → entries (ns ++ ms) ≡ entries ns ++ entries ms
entries-append ns ms = ap flatten (map-append entry ns ms) ∙ flatten-append (map entry ns) (map entry ms)

pub entries-empty : entries [] ≡ []
unfolding flatten
entries-empty = refl

pub entries-one : (n : ℤ) → entry n ≡ entries (n ∷ [])
unfolding flatten
entries-one n = sym (append-nil (entry n))

pub text_is : {S : Type 0} (out : S → MutBor (List ℕ))
    → IsPart (λ s at xs. Counts at (entries xs)) (λ xs at s n t. Adds (entries xs) at (out s).now n (out t).now × ((out t).ghost_name ≡ (out s).ghost_name))
text_is out = record {
  nothing = λ at s. (retold (sym entries-empty) (adds.nothing at (out s).now), refl);
  joined = λ xs ys at s n t m u a b. (retold (sym (entries-append xs ys)) (a.0 then b.0), b.1 ∙ a.1);
  front = λ xs ys at s h. omega (arith, ap length (entries-append xs ys), length-append (entries xs) (entries ys));
  behind = λ xs ys at s n t h a. omega (arith, ap length (entries-append xs ys), length-append (entries xs) (entries ys), a.0.place);
}
