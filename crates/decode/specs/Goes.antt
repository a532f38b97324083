-- A search for the first test that fails (refusal 13), part by part. Assumes nothing.
use Rattle.std.specs.Prelude.{◌≡◌, refl, Bool, true, false, List, [], ◌∷◌, ◌++◌, map, ℕ, suc, ◌+◌, length, Result, Ok, Err}
use Rattle.std.proofs.Common.{sym, ap, ◌∙◌, map-id, add-one, arith, length-append}
use Rattle.definitions.specs.Tools.{All}
use Rattle.definitions.specs.Result.{done, refused, ◌>>◌, each}
use Rattle.laws.specs.Search.{seek-append}

-- what is found among tests that are counted from i: the number after them, or of the first that fails
abbrev pub Sought : ℕ → List Bool → Result ℕ ℕ → Type 0
Sought i ts (Err n) = refused 13 n ≡ each 13 i ts
Sought i ts (Ok n) = (done tt ≡ each 13 i ts) × (n ≡ i + length ts)

-- where all of them hold
pub sought-all : {A : Type 0} (test : A → Bool) (i : ℕ) (l : List A) → All (λ a. test a ≡ true) l → Sought i (map test l) (Ok (i + length l))
sought-all test i [] h = (refl, refl)
sought-all test i (a ∷ l) h = let k = sought-all test (suc i) l h.1 in rw h.0 (k.0, omega (arith, k.1))

-- of the tests `all`, counted from i, those before number n hold, and `rest` are left
pub record Goes (i : ℕ) (all : List Bool) (n : ℕ) (rest : List Bool) : Type 0 where
  pub same : each 13 n rest ≡ each 13 i all
  pub count : n + length rest ≡ i + length all

pub goes_start : (i : ℕ) (all : List Bool) → Goes i all i all
goes_start i all = record { same = refl; count = refl }

module _ {i : ℕ} {all : List Bool} {n : ℕ} {rest : List Bool} (g : Goes i all n rest) where
  pub goes_end : rest ≡ [] → Sought i all (Ok n)
  goes_end e = (rw e at g.same, omega (arith, g.count, ap length e))

  -- a test
  module _ (b : Bool) (others : List Bool) (e : rest ≡ b ∷ others) where
    pub goes_one : b ≡ true → Goes i all (n + 1) others
    goes_one h = record { same = rw add-one (rw (e, h) at g.same); count = omega (arith, g.count, ap length e) }

    pub goes_stop : b ≡ false → Sought i all (Err n)
    goes_stop h = rw (e, h) at g.same

  -- several tests, and what was found among them
  module _ (part others : List Bool) (e : rest ≡ part ++ others) (r : Result ℕ ℕ) (q : Sought n part r) where
    parted : (each 13 n part >> each 13 (n + length part) others) ≡ each 13 i all
    parted = sym (simp map-id at (seek-append 13 (λ b. b) n part others)) ∙ (rw e at g.same)

    pub goes_part : {k : ℕ} → r ≡ Ok k → Goes i all k others
    goes_part {k} f =
        let h : Sought n part (Ok k) = rw f at q in
        record { same = rw h.1 (rw (← h.0) at parted); count = omega (arith, g.count, h.1, ap length e, length-append part others) }

    pub goes_fails : {k : ℕ} → r ≡ Err k → Sought i all (Err k)
    goes_fails {k} f = let h : Sought n part (Err k) = rw f at q in rw (← h) at parted
