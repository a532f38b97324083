-- A turn of a loop that writes the entries of a list one by one. Assumes nothing.
use Rattle.std.proofs.Common.{Bool, true, false, refl, ◌≡◌, ap, ap₂, ◌∙◌, List, ℕ, ◌+◌, ◌≤◌, ◌<◌, length, get_or, take, set, take_all}
use mir.Val.{bool_byte}
use Rattle.image.specs.Parts.{bit}
use Rattle.laws.specs.Written.{written, written-take}

module _ (q o m : List ℕ) (i : ℕ) (e : m ≡ written (take i q) o) where
  pub put : (v : ℕ) → v ≡ get_or q i 0 → i < length q → i < length o → set m i v ≡ written (take (i + 1) q) o
  put v f hq ho = ap₂ (λ m v. set m i v) e f ∙ written-take 0 q o i hq ho

  pub all_put : length q ≤ i → m ≡ written q o
  all_put h = e ∙ ap (λ l. written l o) (take_all i q h)

-- a truth value's byte
pub byte_is : (b : Bool) → bool_byte b ≡ bit b
byte_is true = refl
byte_is false = refl
