-- An array whose first entries are those of a list: filled from the front, or written out. Assumes nothing.
use mathlib.Core.Path.{◌≡◌, refl, ap, ap₂, ◌∙◌}
use mathlib.Core.List.{List, [], ◌∷◌, map}
use Prim.Native.Nat.{ℕ, zero, suc, ◌+◌, ◌≤◌, ◌<◌}
use native.Mathlib.Numerals.{add-one}
use native.Mathlib.Omega.{arith}
use lib.ListN.{length, get_or, take, set}
use lib.Seq.{take-suc, take-suc-set, take-length}

pub map-set : {A B : Type 0} (f : A → B) (l : List A) (i : ℕ) (x : A) → map f (set l i x) ≡ set (map f l) i (f x)
map-set f [] i x = refl
map-set f (y ∷ l) zero x = refl
map-set f (y ∷ l) (suc i) x = ap (λ r. f y ∷ r) (map-set f l i x)

module _ {A : Type 0} (array l : List A) (i : ℕ) (e : take i array ≡ take i l) where
  pub filled_more : (x d : A) → i < length array → i < length l → x ≡ get_or l i d → take (i + 1) (set array i x) ≡ take (i + 1) l
  filled_more x d ha hl ex = rw (add-one, take-suc-set array i x ha, take-suc l i d hl, e, ex)

  pub filled-all : i ≡ length l → take i array ≡ l
  filled-all h = e ∙ ap (λ n. take n l) h ∙ take-length l

-- an array of three whose first entries are those of a list
pub first_three : {A : Type 0} (l : List A) (n : ℕ) → n ≡ length l → n ≤ 3 → (d a b c : A) → (0 < n → a ≡ get_or l 0 d) → (1 < n → b ≡ get_or l 1 d) → (2 < n → c ≡ get_or l 2 d)
    → take n (a ∷ b ∷ c ∷ []) ≡ l
first_three [] n e h d a b c p q r = ap (λ k. take k (a ∷ b ∷ c ∷ [])) e
first_three (x ∷ []) n e h d a b c p q r = ap (λ k. take k (a ∷ b ∷ c ∷ [])) e ∙ ap (λ z. z ∷ []) (p (omega arith))
first_three (x ∷ y ∷ []) n e h d a b c p q r = ap (λ k. take k (a ∷ b ∷ c ∷ [])) e ∙ ap₂ (λ z w. z ∷ w ∷ []) (p (omega arith)) (q (omega arith))
first_three (x ∷ y ∷ z ∷ []) n e h d a b c p q r =
    ap (λ k. take k (a ∷ b ∷ c ∷ [])) e ∙ ap₂ (λ u v. u ∷ v ∷ c ∷ []) (p (omega arith)) (q (omega arith)) ∙ ap (λ w. x ∷ y ∷ w ∷ []) (r (omega arith))
first_three (x ∷ y ∷ z ∷ w ∷ l) n e h d a b c p q r = absurd (omega arith)
