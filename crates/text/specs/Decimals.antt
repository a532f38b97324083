-- Decimal digits put into a buffer from the last to the first. Assumes nothing.
use Rattle.std.specs.Prelude.{◌≡◌, refl, List, [], ◌∷◌, ◌++◌, ℕ, ◌+◌, ◌-◌, ◌/◌, ◌%◌, ◌^◌, ◌≤◌, ◌<◌, get_or, take, true, false, ltb, if◌then◌else◌}
use Rattle.std.proofs.Common.{sym, ◌∙◌, append_assoc, append-nil, add-one, arith, length-append, length-set, take-append-drop, take-suc, length-take-le}
use Rattle.std.proofs.Math.Path.{ap}
use Rattle.std.proofs.Math.ListN.{length, set, drop}
use Rattle.std.proofs.lemmas.List.{set_at}
use Rattle.definitions.specs.Dimacs.{decimal, digits}
use Rattle.laws.specs.Decimals.{decimal-one, decimal-more, shorter}
use Rattle.laws.specs.Written.{written}

-- those of `left` are still to come, and the last of them goes before `at`
pub record Backwards (n : ℕ) (old out : List ℕ) (left at : ℕ) : Type 0 where
  pub done : List ℕ
  pub whole : decimal left ++ done ≡ decimal n
  pub sized : at ≡ length (decimal left)
  pub held : out ≡ take at old ++ (done ++ drop (length (decimal n)) old)
  pub fit : length (decimal n) ≤ length old
  pub long : length out ≡ length old
  pub fits : left < 2 ^ 64

pub from_end : (n : ℕ) (old : List ℕ) (at : ℕ) → n < 2 ^ 64 → at ≡ length (decimal n) → length (decimal n) ≤ length old → Backwards n old old n at
from_end n old at f e fit = record {
  done = [];
  whole = append-nil (decimal n);
  sized = e;
  held = sym (take-append-drop at old) ∙ ap (λ k. take at old ++ drop k old) e;
  fit = fit;
  long = refl;
  fits = f;
}

-- the last byte of a start is set
set_last : (old rest : List ℕ) (k v : ℕ) → k < length old → set (take (k + 1) old ++ rest) k v ≡ take k old ++ (v ∷ rest)
set_last old rest k v h =
    ap (λ j. set (take j old ++ rest) k v) (add-one k)
    ∙ ap (λ l. set (l ++ rest) k v) (take-suc old k 0 h)
    ∙ ap (λ l. set l k v) (append_assoc (take k old) (get_or old k 0 ∷ []) rest)
    ∙ set_at (take k old) (get_or old k 0) rest v k (length-take-le k old (omega arith))

pub some_digit : (n : ℕ) → 1 ≤ length (decimal n)
unfolding digits
some_digit n = elim (ltb n 10) as (λ b. 1 ≤ length (if b then (48 + n) ∷ [] else digits 18 (n / 10) ++ ((48 + n % 10) ∷ []))) [
  | true ↦ omega arith
  | false ↦ omega (arith, length-append (digits 18 (n / 10)) ((48 + n % 10) ∷ []))
]

module _ {n : ℕ} {old out : List ℕ} {left at : ℕ} (b : Backwards n old out left at) where
  pub at_in : at ≤ length out
  at_in = omega (arith, b.sized, b.fit, b.long, ap length b.whole, length-append (decimal left) b.done)

  pub one_more : 10 ≤ left → Backwards n old (set out (at - 1) (48 + left % 10)) (left / 10) (at - 1)
  one_more h =
      let v = 48 + left % 10 in
      let s = shorter left b.fits h in
      let k : at ≡ (at - 1) + 1 = omega (arith, s, b.sized) in
      record {
        done = v ∷ b.done;
        whole = sym (append_assoc (decimal (left / 10)) (v ∷ []) b.done) ∙ ap (λ l. l ++ b.done) (sym (decimal-more left b.fits h)) ∙ b.whole;
        sized = omega (arith, s, b.sized);
        held =
            ap (λ l. set l (at - 1) v) b.held
            ∙ ap (λ j. set (take j old ++ (b.done ++ drop (length (decimal n)) old)) (at - 1) v) k
            ∙ set_last old (b.done ++ drop (length (decimal n)) old) (at - 1) v (omega (arith, at_in, b.long, s, b.sized));
        fit = b.fit;
        long = length-set out (at - 1) v ∙ b.long;
        fits = omega (arith, b.fits);
      }

  -- `at` tells whether more than the first digit is left
  pub more_left : 1 < at → 10 ≤ left
  more_left h =
      let one : left < 10 → length (decimal left) ≡ 1 = λ k. ap length (decimal-one left k) in
      grind arith

  pub one_left : at ≤ 1 → left < 10
  one_left h =
      let more : 10 ≤ left → length (decimal left) ≡ length (decimal (left / 10)) + 1 = shorter left b.fits in
      grind (arith, some_digit (left / 10))

  pub first-digit : left < 10 → set out 0 (48 + left) ≡ written (decimal n) old
  unfolding written
  first-digit h =
      let e = decimal-one left h in
      let k : at ≡ 0 + 1 = omega (arith, b.sized, ap length e) in
      ap (λ l. set l 0 (48 + left)) b.held
      ∙ ap (λ j. set (take j old ++ (b.done ++ drop (length (decimal n)) old)) 0 (48 + left)) k
      ∙ set_last old (b.done ++ drop (length (decimal n)) old) 0 (48 + left) (omega (arith, at_in, b.long))
      ∙ ap (λ l. l ++ drop (length (decimal n)) old) (ap (λ l. l ++ b.done) (sym e) ∙ b.whole)
