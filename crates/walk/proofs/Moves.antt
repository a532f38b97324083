-- The moves of a walk: the first tuple, the next, and none. Assumes nothing.
use Rattle.std.specs.Prelude.{Option, Some, None}
use mathlib.Core.Path.{◌≡◌, refl, sym, ap}
use mathlib.Core.List.{List, [], ◌∷◌, map, zip_with}
use Prim.Native.Nat.{ℕ, min, ◌+◌, ◌-◌, ◌≤◌, ◌<◌}
use native.Mathlib.Omega.{arith}
use lib.IntN.{ℤ}
use Rattle.definitions.specs.Tools.{All}
use Rattle.walk.specs.declared.Place.{Place}
use Rattle.walk.specs.declared.Walk.{Walk}
use Rattle.walk.specs.Walks.{places_of, moved, refill, bounds_at, above, seen, tuples_left, Fine, Over}
use Rattle.walk.proofs.Three.{start_none, start-three, step_second, step-first, step_none}

fine_at : (p : Place) (k : ℕ) → Fine p → k ≤ p.w → Fine (moved p k)
fine_at p k f h = record { near = f.near; inside = h; narrow = f.narrow }

held : (t w : ℕ) → t - (t - w) ≤ w
held t w = omega arith

-- ---- to the first
module _ (a b c : Place) (f : All Fine (a ∷ b ∷ c ∷ [])) (t : ℕ) where
  abbrev pub Begins : Option Walk → Type 0
  Begins r = Over (a ∷ b ∷ c ∷ []) r × (tuples_left r ≡ above (a ∷ b ∷ c ∷ []) t)

  pub begin_none : a.w + (b.w + c.w) < t → Begins None
  unfolding Over tuples_left above
  begin_none h = (tt, sym (ap (map (bounds_at (a ∷ b ∷ c ∷ []))) (start_none a.w b.w c.w t h)))

  pub begin_at : t ≤ a.w + (b.w + c.w) → Begins (refill (moved a (t - (b.w + c.w))) b c (t - (t - (b.w + c.w))))
  unfolding Over tuples_left above seen zip_with
  begin_at h =
      let i = t - (b.w + c.w) in
      let r = t - i in (
        ((fine_at a i f.0 (omega arith), (fine_at b (r - c.w) f.1.0 (omega arith), (fine_at c (r - (r - c.w)) f.1.1.0 (held r c.w), tt))), refl),
        sym (ap (map (bounds_at (a ∷ b ∷ c ∷ []))) (start-three a.w b.w c.w t h)),
      )

-- ---- to the next
module _ (w : Walk) (f : All Fine (places_of w)) where
  abbrev pub Steps : Option Walk → Type 0
  Steps r = Over (places_of w) r × (tuples_left (Some w) ≡ seen w ∷ tuples_left r)

  abbrev to_come : List (List ℕ) → List (List ℤ)
  to_come l = seen w ∷ map (bounds_at (places_of w)) l

  pub move_second : 0 < min (w.b.w - w.b.k) w.c.k → Steps (Some (record { a = w.a; b = moved w.b (w.b.k + 1); c = moved w.c (w.c.k - 1) }))
  unfolding Over tuples_left seen zip_with
  move_second h = (
    ((f.0, (fine_at w.b (w.b.k + 1) f.1.0 (omega arith), (fine_at w.c (w.c.k - 1) f.1.1.0 (omega arith), tt))), refl),
    ap to_come (step_second w.a.w w.b.w w.c.w w.a.k w.b.k w.c.k h f.1.1.0.inside),
  )

  pub move_first : min (w.b.w - w.b.k) w.c.k ≡ 0 → 0 < min (w.a.w - w.a.k) (w.b.k + w.c.k)
      → Steps (refill (moved w.a (w.a.k + 1)) w.b w.c (w.b.k + w.c.k - 1))
  unfolding Over tuples_left seen zip_with
  move_first n h =
      let t = w.b.k + w.c.k - 1 in (
        ((fine_at w.a (w.a.k + 1) f.0 (omega arith), (fine_at w.b (t - w.c.w) f.1.0 (omega arith), (fine_at w.c (t - (t - w.c.w)) f.1.1.0 (held t w.c.w), tt))), refl),
        ap to_come (step-first w.a.w w.b.w w.c.w w.a.k w.b.k w.c.k n h f.1.0.inside f.1.1.0.inside),
      )

  pub move_none : min (w.b.w - w.b.k) w.c.k ≡ 0 → min (w.a.w - w.a.k) (w.b.k + w.c.k) ≡ 0 → Steps None
  unfolding Over tuples_left seen
  move_none n h = (tt, ap to_come (step_none w.a.w w.b.w w.c.w w.a.k w.b.k w.c.k n h))
