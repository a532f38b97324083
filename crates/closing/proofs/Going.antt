-- A turn of the search: the next reply, the last one, and replies that are left over. Assumes nothing.
use Rattle.std.proofs.Common.{◌≡◌, refl, sym, ap, ◌∙◌, List, ◌∷◌, ℕ, suc, ◌+◌, ◌-◌, ◌≤◌, ◌<◌, arith, add-one, length, get_or, drop, drop_of_length-le, length-drop, drop-cons, ℤ}
use Rattle.definitions.specs.Result.{done, refused}
use Rattle.definitions.specs.Closing.{unfinished, tells, after}
use Rattle.definitions.specs.Answers.{hour_said}
use Rattle.definitions.specs.declared.Hour.{Hour}
use Rattle.laws.specs.Whole.{whole}
use Rattle.laws.specs.Halving.{half_law, is_open, is_empty, is_one, stands, tells_open, tells_none, tells_found, after-end, after_one}
use Rattle.slots.specs.declared.Bounds.{Bounds}
use Rattle.slots.specs.Variables.{bounds_read}
use Rattle.closing.specs.Ranges.{Small, Asked, Left, Sound, Going}

-- ---- replies left over
-- an answer that ends a search
abbrev Over : Hour → Type 0
Over hour = (low high question : ℤ) → hour ≡ Hour.Unfinished low high question → ⊥

over : (hour : Hour) → Over hour → (b : ℕ) (bs : List ℕ) → after (hour_said hour) (b ∷ bs) ≡ refused 23 (suc (length bs))
unfolding after
over (Hour.Found v) k b bs = refl
over Hour.None k b bs = refl
over (Hour.Unfinished low high question) k b bs = absurd (k low high question refl)

-- what a range tells is sound
tells_sound : (b : Bounds) → Small b → Sound (tells (bounds_read b))
tells_sound b s = elim (stands (bounds_read b)) [
  | is_open k ↦ rw (tells_open (bounds_read b) k)
      (record { least = s.least; from = omega (whole, half_law (bounds_read b)); to = omega (whole, half_law (bounds_read b)); most = s.most })
  | is_empty k ↦ rw (tells_none (bounds_read b) k) tt
  | is_one k ↦ rw (tells_found (bounds_read b) k) tt
]

-- before the first reply
pub begins : (replies : List ℕ) (b : Bounds) (h : ℤ) → Asked (bounds_read b) h
    → Going replies (Hour.Unfinished b.lower b.upper h) (Hour.Unfinished b.lower b.upper h) 0
begins replies b h a = record { sound = a; answers = refl }

module _ {replies : List ℕ} {start hour : Hour} {i : ℕ} (g : Going replies start hour i) where
  pub ends : length replies ≤ i → done (hour_said hour) ≡ after (hour_said start) replies
  ends k = sym (after-end (hour_said hour)) ∙ ap (after (hour_said hour)) (sym (drop_of_length-le replies k)) ∙ g.answers

  pub leaves_over : i < length replies → Over hour → refused 23 (length replies - i) ≡ after (hour_said start) replies
  leaves_over k o =
      let e : length replies - i ≡ suc (length (drop (suc i) replies)) = omega (arith, length-drop (suc i) replies) in
      ap (refused 23) e ∙ sym (over hour o (get_or replies i 0) (drop (suc i) replies)) ∙ ap (after (hour_said hour)) (sym (drop-cons replies i 0 k)) ∙ g.answers

  pub goes_on : {b : Bounds} {h : ℤ} {r : Bounds} {next : Hour} → hour ≡ Hour.Unfinished b.lower b.upper h → i < length replies
      → Left b h (get_or replies i 0) r → hour_said next ≡ tells (bounds_read r) → Going replies start next (i + 1)
  goes_on {b} {h} {r} {next} e k l q = record {
    sound = rw q (tells_sound r l.small);
    answers =
        rw (add-one, q, l.cuts)
        (sym (after_one (bounds_read b) h (get_or replies i 0) (drop (suc i) replies)) ∙ ap (after (unfinished (bounds_read b) h)) (sym (drop-cons replies i 0 k)) ∙ (rw e at g.answers));
  }

  pub asks : {b : Bounds} {h : ℤ} → hour ≡ Hour.Unfinished b.lower b.upper h → Asked (bounds_read b) h
  asks e = rw e at g.sound
