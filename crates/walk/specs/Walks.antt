-- A walk over tuples: the present one and those still to come. Assumes nothing.
use Rattle.std.specs.Prelude.{◌≡◌, List, [], ◌∷◌, map, ℕ, ◌-◌, ◌≤◌, ℤ, nat_abs, Option, Some, None}
use Rattle.definitions.specs.Tools.{All}
use Rattle.laws.specs.Offsets.{offsets, later}
use Rattle.laws.specs.Tuples.{shift}
use Rattle.walk.specs.declared.Place.{Place}
use Rattle.walk.specs.declared.Walk.{Walk}

abbrev pub places_of : Walk → List Place
places_of w = w.a ∷ w.b ∷ w.c ∷ []

-- a place at another offset
abbrev pub moved : Place → ℕ → Place
moved p k = record { lo = p.lo; k = k; w = p.w }

abbrev pub blank : Place → Place
blank p = moved p 0

-- the last two places hold t, the last as much of it as it can
abbrev pub refill : Place → Place → Place → ℕ → Option Walk
refill a b c t = Some (record { a = a; b = moved b (t - c.w); c = moved c (t - (t - c.w)) })

-- the bounds of places at these offsets
abbrev pub bounds_at : List Place → List ℕ → List ℤ
bounds_at ps ks = shift (map (λ p. p.lo) ps) ks

-- every tuple whose offsets have the sum t
unfoldable pub above : List Place → ℕ → List (List ℤ)
above ps t = map (bounds_at ps) (offsets (map (λ p. p.w) ps) t)

-- the present tuple, and it with those after it
unfoldable pub seen : Walk → List ℤ
seen w = bounds_at (places_of w) (map (λ p. p.k) (places_of w))

unfoldable pub tuples_left : Option Walk → List (List ℤ)
tuples_left (Some w) = seen w ∷ map (bounds_at (places_of w)) (later (map (λ p. p.w) (places_of w)) (map (λ p. p.k) (places_of w)))
tuples_left None = []

pub record Fine (p : Place) : Type 0 where
  pub near : nat_abs p.lo ≤ 262145
  pub inside : p.k ≤ p.w
  pub narrow : p.w ≤ 524290

-- a walk over these places, whatever their offsets
unfoldable pub Over : List Place → Option Walk → Type 0
Over ps (Some w) = All Fine (places_of w) × (map blank (places_of w) ≡ map blank ps)
Over ps None = Unit {0}
