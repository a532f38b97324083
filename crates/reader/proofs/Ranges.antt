-- A field within its range, as the definitions ask it. Assumes nothing.
use Rattle.std.specs.Prelude.{◌≡◌, ℕ, ℤ, Bool, true, false, not, ◌&&◌, ◌||◌, if◌then◌else◌, List, Option, Some, None}
use Rattle.std.proofs.Common.{refl, arith, Ok, Err}
use Rattle.std.proofs.lemmas.Bool.Decides.{nat_tests}
use Rattle.std.specs.Ordering.{nat_cmp, int_cmp}
use Rattle.std.specs.declared.cmp.Ordering.{Ordering}
use lib.Dec.{leb}
use Rattle.definitions.specs.Tools.{within}
use Rattle.definitions.specs.Result.{done, refused}
use Rattle.definitions.specs.Reading.{Reader, asked, unsigned, signed}
use Rattle.definitions.specs.declared.Got.{Got}
use Rattle.fields.specs.Said.{got, said_field}
use Rattle.reader.specs.declared.Why.{Why}
use Rattle.reader.specs.Said.{number, said_got}
use Rattle.reader.specs.Parts.{number_from, whole_from}
use Rattle.reader.specs.Ranges.{below, ranged}

module _ {A : Type 0} (order : A → A → Option Ordering) (least most : A) (good : A → Bool)
    (fits : (v : A) → (below order v least || below order most v) ≡ not (good v)) (why : Why) (s : List ℕ) (at : ℕ) (r : Reader A) where
  ranged_is : (u : Option (Got A)) → said_field at u ≡ r s at → said_got (ranged order least most why at u) ≡ asked (number why) good r s at
  ranged_is None e = rw (← e)
  ranged_is (Some g) e = rw (← e, fits g.value) (go (good g.value))
    where
      go : (t : Bool) → said_got (if not t then Err (record { why = why; place = at }) else Ok g) ≡ (if t then done (got g) else refused (number why) at)
      go true = refl
      go false = refl

number_fits : (least most v : ℕ) → (below (λ a b. Some (nat_cmp a b)) v least || below (λ a b. Some (nat_cmp a b)) most v) ≡ not (leb least v && leb v most)
number_fits least most v = grind (arith, nat_tests)

whole_fits : (least most v : ℤ) → (below (λ a b. Some (int_cmp a b)) v least || below (λ a b. Some (int_cmp a b)) most v) ≡ not (within least most v)
whole_fits least most v = grind (arith, nat_tests)

module _ (why : Why) (n : ℕ) (s : List ℕ) (at : ℕ) where
  pub number_ranged : (least most : ℕ) (u : Option (Got ℕ)) → said_field at u ≡ unsigned n s at
      → said_got (ranged (λ a b. Some (nat_cmp a b)) least most why at u) ≡ number_from why least most n s at
  unfolding number_from
  number_ranged least most = ranged_is (λ a b. Some (nat_cmp a b)) least most (λ v. leb least v && leb v most) (number_fits least most) why s at (unsigned n)

  pub whole_ranged : (least most : ℤ) (u : Option (Got ℤ)) → said_field at u ≡ signed n s at
      → said_got (ranged (λ a b. Some (int_cmp a b)) least most why at u) ≡ whole_from why least most n s at
  unfolding whole_from
  whole_ranged least most = ranged_is (λ a b. Some (int_cmp a b)) least most (within least most) (whole_fits least most) why s at (signed n)
