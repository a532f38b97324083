-- What a reader's refusal means (01, "What is said no to", 4 to 8; 02, P1): the field at its place, that field's range, and what another record
-- is told that begins with the same bytes. Assumes nothing.
use Rattle.std.specs.Prelude.{◌≡◌, ◌≢◌, List, [], ◌∷◌, ltb, length, get_or, ℤ, pos, ◌≤ℤ◌, if◌then◌else◌}
use Rattle.std.proofs.Math.Path.{refl}
use Rattle.std.proofs.Common.{sym, arith}
use Prim.Native.Nat.{ℕ, zero, suc, ◌+◌, ◌≤◌, ◌<◌}
use Rattle.definitions.specs.Tools.{All, neg}
use Rattle.definitions.specs.Result.{Result, done, refused}
use Rattle.definitions.specs.Result as result
use Rattle.definitions.specs.Reading.{Got, Reader, give, ◌>>=◌, mapped, times, big, twos}
use Rattle.laws.specs.Readings.{never, Orderly, place, orderly_give, orderly_bind}
use Rattle.laws.specs.Reads.{FromTo, Within}

-- ---- 01's fields, each with its range
-- a range may hang on what was read before: an upper bound's on its lower, a Boolean's on how many there are, a variable's on how many
-- there are and on those of the terms before
pub data Ranged : Type 0 where
  integer_count : Ranged
  boolean_count : Ranged
  clause_count : Ranged
  lower : Ranged
  upper : ℤ → Ranged
  literal_count : Ranged
  kind : Ranged
  boolean_number : ℕ → Ranged
  term_count : Ranged
  coefficient : Ranged
  variable : ℕ → List ℕ → Ranged
  constant : Ranged

-- its bytes, where the number in them is in range, and with which number one out of range is refused
pub record Rule : Type 1 where
  pub number : ℕ → ℕ
  pub width : ℕ
  pub InRange : ℕ → Type 0

abbrev pub rule : Ranged → Rule
rule integer_count = record { number = λ v. 4; width = 2; InRange = FromTo 0 1024 }
rule boolean_count = record { number = λ v. 4; width = 2; InRange = FromTo 0 4096 }
rule clause_count = record { number = λ v. 4; width = 2; InRange = FromTo 0 4096 }
rule lower = record { number = λ v. 5; width = 2; InRange = λ v. Within (neg 4096) (pos 4095) (twos 2 v) }
rule (upper l) = record { number = λ v. 5; width = 2; InRange = λ v. Within (neg 4096) (pos 4095) (twos 2 v) × (l ≤ℤ twos 2 v) }
rule literal_count = record { number = λ v. 4; width = 1; InRange = FromTo 0 64 }
rule kind = record { number = λ v. 6; width = 1; InRange = λ v. v ≤ 2 }
rule (boolean_number m) = record { number = λ v. 6; width = 2; InRange = FromTo 1 m }
rule term_count = record { number = λ v. 4; width = 1; InRange = FromTo 1 3 }
rule coefficient = record { number = λ v. 7; width = 1; InRange = λ v. Within (neg 64) (pos 64) (twos 1 v) × (twos 1 v ≢ pos 0) }
rule (variable ints seen) = record { number = λ v. if ltb v ints then 16 else 15; width = 2; InRange = λ v. (v < ints) × All (λ y. v ≢ y) seen }
rule constant = record { number = λ v. 17; width = 4; InRange = λ v. Within (neg 1000000) (pos 1000000) (twos 4 v) }

pub some_bytes : (f : Ranged) → 1 ≤ (rule f).width
some_bytes integer_count = omega arith
some_bytes boolean_count = omega arith
some_bytes clause_count = omega arith
some_bytes lower = omega arith
some_bytes (upper l) = omega arith
some_bytes literal_count = omega arith
some_bytes kind = omega arith
some_bytes (boolean_number m) = omega arith
some_bytes term_count = omega arith
some_bytes coefficient = omega arith
some_bytes (variable ints seen) = omega arith
some_bytes constant = omega arith

-- ---- records that begin alike
-- both reach a place, and before it they have the same bytes
pub record Agree (n : ℕ) (s s' : List ℕ) : Type 0 where
  pub reached : n ≤ length s
  pub reached' : n ≤ length s'
  pub bytes : (i : ℕ) → i < n → get_or s i 0 ≡ get_or s' i 0

module _ {s s' : List ℕ} where
  pub agree_less : {m n : ℕ} → m ≤ n → Agree n s s' → Agree m s s'
  agree_less h a = record { reached = omega (arith, a.reached); reached' = omega (arith, a.reached'); bytes = λ i k. a.bytes i (omega arith) }

  pub big_agree : {n : ℕ} → Agree n s s' → (at w : ℕ) → at + w ≤ n → big s at w ≡ big s' at w
  unfolding big
  big_agree a at zero h = refl
  big_agree a at (suc w) h = rw (big_agree a at w (omega arith), a.bytes (at + w) (omega arith))

-- ---- why a reader refuses
module _ {A : Type 0} (r : Reader A) (s : List ℕ) (at : ℕ) where
  -- a field at the place is out of its range. What begins alike before it is refused there too where its own value is out of range, and read
  -- beyond it where that is in range
  pub record Outside (n p : ℕ) : Type 0 where
    pub field : Ranged
    pub numbered : n ≡ (rule field).number (big s p (rule field).width)
    pub there : p + (rule field).width ≤ length s
    pub outside : ¬ (rule field).InRange (big s p (rule field).width)
    pub unmended : (s' : List ℕ) → Agree p s s' → p + (rule field).width ≤ length s' → ¬ (rule field).InRange (big s' p (rule field).width)
        → r s' at ≡ refused ((rule field).number (big s' p (rule field).width)) p
    pub mended : (s' : List ℕ) → Agree p s s' → p + (rule field).width ≤ length s' → (rule field).InRange (big s' p (rule field).width) → p < place (r s' at)

  -- that, or a field runs past the end
  pub data Because : ℕ → ℕ → Type 0 where
    missing : {p : ℕ} (f : Ranged) → length s < p + (rule f).width → Because 8 p
    bad : {n p : ℕ} → Outside n p → Because n p

-- it tells why, and what it reads hangs on no byte beyond
pub record Explained {A : Type 0} (r : Reader A) : Type 0 where
  pub orderly : Orderly r
  pub stays : (s s' : List ℕ) (at : ℕ) (g : Got A) → at ≤ length s → r s at ≡ done g → Agree g.next s s' → r s' at ≡ done g
  pub explains : (s : List ℕ) (at n p : ℕ) → at ≤ length s → r s at ≡ refused n p → Because r s at n p

-- ---- combinators tell why
pub refusal_is : {A : Type 0} {n p m q : ℕ} → ◌≡◌ {A = Result A} (refused n p) (refused m q) → (n ≡ m) × (p ≡ q)
refusal_is e = (cc, cc)

module _ {A : Type 0} where
  pub explained_give : (a : A) → Explained (give a)
  explained_give a = record { orderly = orderly_give a; stays = λ s s' at g h e k. e; explains = λ s at n p h e. never (sym e) }

module _ {A B : Type 0} {r : Reader A} {f : A → Reader B} (o : Explained r) (next : (a : A) → Explained (f a)) where
  abbrev go_on : List ℕ → Got A → Result (Got B)
  go_on s g = f g.value s g.next

  stops : (s : List ℕ) (at : ℕ) (g : Got A) → at ≤ length s → r s at ≡ done g → g.next ≤ length s
  stops s at g h e = rw e at (o.orderly.inside s at h)

  bind_stays : (s s' : List ℕ) (at : ℕ) (b : Got B) → at ≤ length s → (r >>= f) s at ≡ done b → Agree b.next s s' → (r >>= f) s' at ≡ done b
  bind_stays s s' at b h d a = go (r s at) refl d
    where
      go : (m : Result (Got A)) → r s at ≡ m → result.◌>>=◌ m (go_on s) ≡ done b → (r >>= f) s' at ≡ done b
      go (done g) e d =
          let i = stops s at g h e in
          let l : g.next ≤ b.next = rw d at ((next g.value).orderly.onward s g.next i) in
          rw (o.stays s s' at g h e (agree_less l a)) ((next g.value).stays s s' g.next b i d a)
      go (refused n p) e d = never d

  -- the first refuses
  first_refuses : (s : List ℕ) (at n p : ℕ) → at ≤ length s → r s at ≡ refused n p → Because r s at n p → Because (r >>= f) s at n p
  first_refuses s at n p h e (missing w l) = missing w l
  first_refuses s at n p h e (bad b) = bad (record {
    field = b.field;
    numbered = b.numbered;
    there = b.there;
    outside = b.outside;
    unmended = λ s' a l k. rw (b.unmended s' a l k);
    mended = λ s' a l k. beyond s' (omega (arith, rw e at (o.orderly.onward s at h), a.reached')) (r s' at) refl (b.mended s' a l k);
  })
    where
      beyond : (s' : List ℕ) → at ≤ length s' → (m : Result (Got A)) → r s' at ≡ m → p < place m → p < place (result.◌>>=◌ m (go_on s'))
      beyond s' l (done g) d k = omega (arith, (next g.value).orderly.onward s' g.next (stops s' at g l d))
      beyond s' l (refused n' p') d k = k

  -- the first is done, the second refuses
  second_refuses : (s : List ℕ) (at n p : ℕ) (g : Got A) → at ≤ length s → r s at ≡ done g → g.next ≤ p → Because (f g.value) s g.next n p → Because (r >>= f) s at n p
  second_refuses s at n p g h e l (missing w c) = missing w c
  second_refuses s at n p g h e l (bad b) = bad (record {
    field = b.field;
    numbered = b.numbered;
    there = b.there;
    outside = b.outside;
    unmended = λ s' a i k. rw (o.stays s s' at g h e (agree_less l a)) (b.unmended s' a i k);
    mended = λ s' a i k. rw (o.stays s s' at g h e (agree_less l a)) (b.mended s' a i k);
  })

  bind_explains : (s : List ℕ) (at n p : ℕ) → at ≤ length s → (r >>= f) s at ≡ refused n p → Because (r >>= f) s at n p
  bind_explains s at n p h d = go (r s at) refl d
    where
      go : (m : Result (Got A)) → r s at ≡ m → result.◌>>=◌ m (go_on s) ≡ refused n p → Because (r >>= f) s at n p
      go (done g) e d =
          let i = stops s at g h e in
          second_refuses s at n p g h e (rw d at ((next g.value).orderly.onward s g.next i)) ((next g.value).explains s g.next n p i d)
      go (refused n' p') e d =
          let x = refusal_is d in
          let e' : r s at ≡ refused n p = rw (← x.0, ← x.1) e in
          first_refuses s at n p h e' (o.explains s at n p h e')

  pub explained_bind : Explained (r >>= f)
  explained_bind = record { orderly = orderly_bind o.orderly (λ a. (next a).orderly); stays = bind_stays; explains = bind_explains }

pub explained_mapped : {A B : Type 0} (f : A → B) {r : Reader A} → Explained r → Explained (mapped f r)
explained_mapped f o = explained_bind o (λ a. explained_give (f a))

pub explained_times : {A : Type 0} {r : Reader A} → Explained r → (n : ℕ) → Explained (times n r)
explained_times o zero = explained_give []
explained_times o (suc n) = explained_bind o λ a. explained_mapped (λ l. a ∷ l) (explained_times o n)
