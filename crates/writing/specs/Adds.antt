-- Things of any kind that are added at a place of a lent list, and counted where it has no room. Assumes nothing.
--     nothing, retold, left_as, _then_
--     put, no_room    what a callee put at the start of the rest of the list, and nothing
use Rattle.std.specs.Prelude.{◌≡◌, refl, List, [], ◌∷◌, ◌++◌, ℕ, ◌+◌, ◌≤◌, ◌<◌, length, set, take, drop}
use Rattle.std.proofs.Common.{sym, ap, ◌∙◌, subst, append_assoc, append-nil, arith, length-append, length-set, take-append-drop, take_at, drop_at, drop-drop, length-take-le}
use Rattle.laws.specs.Written.{written, back, rest, written-length, written_snoc, written_part}

-- from place `at` of the list `out` on, `text` is added: that makes it `out'`, and `next` is the place behind it. Where it has no
-- room the place alone is told
pub record Adds {A : Type 0} (text : List A) (at : ℕ) (out : List A) (next : ℕ) (out' : List A) : Type 0 where
  pub place : next ≡ at + length text
  pub long : length out' ≡ length out
  pub held : next ≤ length out → out' ≡ written (take at out ++ text) out

-- places of bytes never overflow
abbrev pub Counts : ℕ → List ℕ → Type 0
Counts at text = at + length text < 9223372036854775808

module _ {A : Type 0} where
  itself : (at : ℕ) (out : List A) → at ≤ length out → out ≡ written (take at out) out
  unfolding written
  itself at out h = sym (take-append-drop at out) ∙ ap (λ n. take at out ++ drop n out) (sym (length-take-le at out h))

  pub nothing : (at : ℕ) (out : List A) → Adds [] at out at out
  nothing at out = record {
    place = omega arith;
    long = refl;
    held = λ h. itself at out h ∙ ap (λ l. written l out) (sym (append-nil (take at out)));
  }

  pub retold : {t u : List A} → t ≡ u → {at : ℕ} {out : List A} {next : ℕ} {out' : List A} → Adds t at out next out' → Adds u at out next out'
  retold e {at} {out} {next} {out'} a = subst (λ l. Adds l at out next out') e a

  -- the list is known by another name
  pub left_as : {t : List A} {at : ℕ} {out : List A} {next : ℕ} {out' out'' : List A} → out'' ≡ out' → Adds t at out next out' → Adds t at out next out''
  left_as {t} {at} {out} {next} e a = subst (Adds t at out next) (sym e) a

  -- text written over what it begins with
  over : (w f o : List A) → written (w ++ f) (written w o) ≡ written (w ++ f) o
  unfolding written
  over w f o =
      ap (λ l. (w ++ f) ++ l)
      (ap (λ n. drop n (w ++ drop (length w) o)) (length-append w f)
      ∙ sym (drop-drop (length f) (length w) (w ++ drop (length w) o))
      ∙ ap (drop (length f)) (drop_at w (drop (length w) o) (length w) refl)
      ∙ drop-drop (length f) (length w) o
      ∙ ap (λ n. drop n o) (sym (length-append w f)))

  infixr 20 ◌then◌
  pub ◌then◌ : {t u : List A} {at : ℕ} {out : List A} {next : ℕ} {out' : List A} {next' : ℕ} {out'' : List A}
      → Adds t at out next out' → Adds u next out' next' out'' → Adds (t ++ u) at out next' out''
  unfolding written
  ◌then◌ {t} {u} {at} {out} {next} {out'} {next'} {out''} a b = record {
    place = omega (arith, a.place, b.place, length-append t u);
    long = b.long ∙ a.long;
    held = λ h.
        let w = take at out ++ t in
        let e = a.held (omega (arith, b.place)) in
        let n : length w ≡ next = omega (arith, length-append (take at out) t, length-take-le at out (omega (arith, a.place, b.place)), a.place) in
        let k : take next out' ≡ w = ap (take next) e ∙ take_at w (drop (length w) out) next n in
        b.held (omega (arith, a.long))
        ∙ ap (λ l. written (l ++ u) out') k
        ∙ ap (written (w ++ u)) e
        ∙ over w u out
        ∙ ap (λ l. written l out) (append_assoc (take at out) t u);
  }

  -- one thing
  pub set_one : (v : A) (at : ℕ) (out : List A) → at < length out → Adds (v ∷ []) at out (at + 1) (set out at v)
  set_one v at out h =
      record {
        place = refl;
        long = length-set out at v;
        held = λ k. ap (λ o. set o at v) (itself at out (omega arith)) ∙ written_snoc (take at out) out v at (length-take-le at out (omega arith)) h;
      }

  -- however its place and the one behind it are said
  pub set_at : (v : A) (at k n : ℕ) (out : List A) → at ≡ k → at + 1 ≡ n → at < length out → Adds (v ∷ []) at out n (set out k v)
  set_at v at k n out e en h = subst (λ k. Adds (v ∷ []) at out n (set out k v)) e (subst (λ n. Adds (v ∷ []) at out n (set out at v)) en (set_one v at out h))

  -- what a callee has put at the start of `&mut out[at..]`
  pub put : (t : List A) (at : ℕ) (out : List A) (n : ℕ) (ys : List A) → at + length t ≤ length out → n ≡ length t → ys ≡ written t (rest out at)
      → Adds t at out (at + n) (back out at ys)
  put t at out n ys fit en ey =
      let l = length-take-le at out (omega arith) in
      let e : back out at ys ≡ written (take at out ++ t) out =
      ap (back out at) ey
      ∙ ap (λ o. back o at (written t (rest o at))) (itself at out (omega arith))
      ∙ written_part (take at out) t out at l fit
      in record {
        place = omega arith;
        long = ap length e ∙ written-length (take at out ++ t) out (omega (arith, length-append (take at out) t));
        held = λ h. e;
      }

  -- it has no room
  pub no_room : (t : List A) (at : ℕ) (out : List A) (n : ℕ) → n ≡ length t → length out < at + n → Adds t at out (at + n) out
  no_room t at out n e h = record { place = omega arith; long = refl; held = λ k. absurd (omega arith) }

  -- all of it has room
  pub all_held : {t : List A} {out : List A} {next : ℕ} {out' : List A} → Adds t 0 out next out' → length t ≤ length out → out' ≡ written t out
  all_held a h = a.held (omega (arith, a.place))
