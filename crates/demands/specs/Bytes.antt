-- A list of bytes is the truth of its variables, and a truth of the board's atoms is a list of N bytes. Assumes nothing.
use Rattle.std.specs.Prelude.{◌≡◌, refl, Bool, true, false, eqb, ◌-ℤ◌, if◌then◌else◌}
use Rattle.std.proofs.Math.Path.{sym, ap}
use Rattle.std.proofs.Common.{◌∙◌}
use mathlib.Core.List.{List, ◌++◌, map, flatten, append_assoc, map-append, map-map}
use Prim.Native.Nat.{ℕ, zero, suc, ◌+◌, ◌-◌, ◌≤◌}
use native.Mathlib.Omega.{arith}
use Rattle.std.proofs.Math.ListN.{length, get_or, take, length-map}
use Rattle.std.proofs.Math.Seq.{take_at}
use Rattle.std.proofs.Math.IntN.{pos}
use Rattle.definitions.specs.Tools.{All, count_up, range}
use Rattle.definitions.specs.Board.{Board, bounds_of, variables}
use Rattle.definitions.specs.Encoding.{Atom, bool, order, selector, orders, selections, atoms, number, N}
use Rattle.definitions.specs.Meaning.{on, in_model}
use Rattle.laws.specs.Lists.{all_append, all-flatten, all_every, all_map, all-at, map_same, length-count_up, all-count_up, counted, map_read}
use Rattle.laws.specs.Ranges.{all-range}
use Rattle.laws.specs.Layout.{Has, numbers_are, N_is, number-range, atom_at}

abbrev pub bit : Bool → ℕ
bit b = if b then 1 else 0

bit-on : (b : Bool) → eqb (bit b) 1 ≡ b
bit-on true = refl
bit-on false = refl

on_bit : (n : ℕ) → n ≤ 1 → bit (eqb n 1) ≡ n
on_bit zero h = refl
on_bit (suc zero) h = refl
on_bit (suc (suc n)) h = absurd (omega arith)

pub bit-most : (b : Bool) → bit b ≤ 1
bit-most true = omega arith
bit-most false = omega arith

pub truth-bytes : (l : List ℕ) → All (λ b. b ≤ 1) l → map (λ i. bit (on l i)) (count_up 1 (length l)) ≡ l
unfolding on
truth-bytes l a = counted (λ i. bit (on l i)) 0 l 1 (λ j h. let e : 1 + j - 1 ≡ j = omega arith in rw e (on_bit (get_or l j 0) (all-at (λ b. b ≤ 1) 0 l a j h)))

module _ (B : Board) where
  all-atoms : (P : Atom → Type 0) → ((x : Atom) → Has B x → P x) → All P (atoms B)
  unfolding atoms variables orders
  all-atoms P f =
      let of = bounds_of B in
      let m = B.bools in
      let n = length B.bounds in
      let s = length (selections B) in
      let bs = map bool (count_up 1 m) in
      let os = map (orders of) (count_up 0 n) in
      all_append P (bs ++ flatten os) (map selector (count_up 0 s))
      (all_append P bs (flatten os)
      (all_map P bool (count_up 1 m) (all-count_up (λ i. P (bool i)) 1 m (λ i l u. f (bool i) (l, omega arith))))
      (all-flatten P os (all_map (All P) (orders of) (count_up 0 n) (all-count_up (λ x. All P (orders of x)) 0 n (λ x l u.
      all_map P (order x) (range ((of x).lo -ℤ pos 1) (of x).hi)
      (all-range (λ c. P (order x c)) ((of x).lo -ℤ pos 1) (of x).hi (λ c h k. f (order x c) (omega arith, h, k))))))))
      (all_map P selector (count_up 0 s) (all-count_up (λ j. P (selector j)) 0 s (λ j l u. f (selector j) (omega arith))))

  -- each atom's truth in turn
  abbrev pub model_bytes : (Atom → Bool) → List ℕ
  model_bytes v = map (λ x. bit (v x)) (atoms B)

  pub bytes-length : (v : Atom → Bool) → length (model_bytes v) ≡ N B
  bytes-length v = length-map (atoms B) (λ x. bit (v x)) ∙ sym (N_is B)

  pub bytes_small : (v : Atom → Bool) → All (λ b. b ≤ 1) (model_bytes v)
  bytes_small v = all_map (λ b. b ≤ 1) (λ x. bit (v x)) (atoms B) (all_every (λ x. bit (v x) ≤ 1) (λ x. bit-most (v x)) (atoms B))

  pub bytes_bools : (v : Atom → Bool) → take B.bools (model_bytes v) ≡ map (λ i. bit (v (bool i))) (count_up 1 B.bools)
  unfolding atoms
  bytes_bools v =
      let f : Atom → ℕ = λ x. bit (v x) in
      let is = count_up 1 B.bools in
      let os = flatten (map (orders (bounds_of B)) (variables B)) in
      let ss = map selector (count_up 0 (length (selections B))) in
      ap (λ l. take B.bools (map f l)) (append_assoc (map bool is) os ss)
      ∙ ap (take B.bools) (map-append f (map bool is) (os ++ ss))
      ∙ take_at (map f (map bool is)) (map f (os ++ ss)) B.bools (length-map (map bool is) f ∙ length-map is bool ∙ length-count_up 1 B.bools)
      ∙ map-map f bool is

  pub bytes_read : (v : Atom → Bool) (x : Atom) → Has B x → in_model B (model_bytes v) x ≡ v x
  unfolding in_model on
  bytes_read v x h =
      let r = number-range B x h in
      let e : get_or (model_bytes v) (number B x - 1) 0 ≡ bit (v x) = map_read (λ x. bit (v x)) x 0 (atoms B) (number B x - 1) (omega (arith, N_is B)) ∙ ap (λ y. bit (v y)) (atom_at B x x h) in
      rw e (bit-on (v x))

  pub read-bytes : (model : List ℕ) → length model ≡ N B → All (λ b. b ≤ 1) model → model_bytes (in_model B model) ≡ model
  unfolding in_model
  read-bytes model e a =
      sym (map-map (λ i. bit (on model i)) (number B) (atoms B))
      ∙ ap (map (λ i. bit (on model i))) (numbers_are B ∙ ap (count_up 1) (sym e))
      ∙ truth-bytes model a

  pub bytes-alike : (v w : Atom → Bool) → ((x : Atom) → Has B x → v x ≡ w x) → model_bytes v ≡ model_bytes w
  bytes-alike v w f = map_same (λ x. bit (v x)) (λ x. bit (w x)) (atoms B) (all-atoms (λ x. bit (v x) ≡ bit (w x)) (λ x h. ap bit (f x h)))
