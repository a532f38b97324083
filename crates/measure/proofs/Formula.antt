-- The counting formula as the code adds it up: places that are passed over together are one sum. Assumes nothing.
use mathlib.Core.Path.{◌≡◌}
use Prim.Native.Nat.{ℕ, zero, suc, ◌+◌, ◌-◌, ◌≤◌, ◌<◌}
use native.Mathlib.Nat.{sub-add-eq}
use native.Mathlib.Omega.{arith}
use Rattle.laws.specs.Counting.{tri, triples, three}

module _ (u a b c : ℕ) where
  abbrev pub more : ℕ
  more = tri u + tri (u - (a + b)) + tri (u - (a + c)) + tri (u - (b + c))

  abbrev pub fewer : ℕ
  fewer = tri (u - a) + tri (u - b) + tri (u - c) + tri (u - (a + b + c))

  pub triples_are : triples u a b c ≡ more - fewer
  unfolding triples
  triples_are = simp sub-add-eq

pub no_fewer : (u a b c : ℕ) → 0 < u → 0 < a → 0 < b → 0 < c → fewer u a b c ≤ more u a b c
no_fewer zero a b c hu ha hb hc = absurd (omega arith)
no_fewer (suc t) zero b c hu ha hb hc = absurd (omega arith)
no_fewer (suc t) (suc a) zero c hu ha hb hc = absurd (omega arith)
no_fewer (suc t) (suc a) (suc b) zero hu ha hb hc = absurd (omega arith)
no_fewer (suc t) (suc a) (suc b) (suc c) hu ha hb hc = simp sub-add-eq (omega (arith, three a b c t))
