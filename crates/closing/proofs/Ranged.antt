-- A range between bounds: its numbers fit, and what a reply leaves of it. Assumes nothing.
use Rattle.std.proofs.Common.{◌≡◌, refl, sym, ◌≢◌, ℕ, ◌≤◌, arith, ℤ, pos, nat_abs, ◌+ℤ◌, w32, SFits}
use Rattle.definitions.specs.Tools.{floor}
use Rattle.definitions.specs.Closing.{halfway}
use Rattle.laws.specs.Whole.{whole, add_law, abs_le, abs_fits, sfits}
use Rattle.laws.specs.Halving.{narrowed_yes, narrowed_no}
use Rattle.slots.specs.declared.Bounds.{Bounds}
use Rattle.slots.specs.Variables.{bounds_read}
use Rattle.closing.specs.Ranges.{Small, Asked, Left}

module _ (b : Bounds) (s : Small b) where
  pub low_fits : SFits w32 b.lower
  low_fits = sfits (omega (whole, s.least, s.near, s.most, add_law b.upper (pos 1)))

  pub high_fits : SFits w32 b.upper
  high_fits = sfits (omega (whole, s.least, s.near, s.most, add_law b.upper (pos 1)))

  pub sum-small : nat_abs (b.lower +ℤ b.upper) ≤ 1000000
  sum-small = abs_le (b.lower +ℤ b.upper) (omega (whole, s.least, s.near, s.most, add_law b.upper (pos 1), add_law b.lower b.upper))

  pub sum_fits : SFits w32 (b.lower +ℤ b.upper)
  sum_fits = abs_fits (omega (arith, sum-small))

pub half_is : (b : Bounds) → floor (b.lower +ℤ b.upper) (pos 2) ≡ halfway (bounds_read b)
unfolding halfway
half_is b = refl

module _ (b : Bounds) (h : ℤ) (a : Asked (bounds_read b) h) where
  pub asked-small : Small b
  asked-small = record { least = a.least; near = omega (whole, a.from, a.to, add_law b.upper (pos 1)); most = a.most }

  pub near_fits : (n : ℕ) → n ≤ 1 → SFits w32 (h +ℤ pos n)
  near_fits n l = sfits (omega (whole, a.least, a.from, a.to, a.most, add_law h (pos n)))

  module _ (reply : ℕ) where
    pub left_yes : reply ≡ 1 → Left b h reply (record { lower = b.lower; upper = h })
    left_yes e = record {
      small = record { least = a.least; near = omega (whole, a.from, add_law h (pos 1)); most = omega (whole, a.to, a.most) };
      cuts = sym (narrowed_yes (bounds_read b) h reply e);
    }

    pub left_no : reply ≢ 1 → Left b h reply (record { lower = h +ℤ pos 1; upper = b.upper })
    left_no n = record {
      small = record {
        least = omega (whole, a.least, a.from, add_law h (pos 1));
        near = omega (whole, a.to, add_law h (pos 1), add_law b.upper (pos 1));
        most = a.most;
      };
      cuts = sym (narrowed_no (bounds_read b) h reply n);
    }
