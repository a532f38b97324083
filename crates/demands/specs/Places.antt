-- Where reading stops: the first byte that begins nothing good, for text and replies alike. Assumes nothing.
use Rattle.std.specs.Prelude.{◌≡◌, refl, ◌⊎◌, ◌↔◌, List, [], ◌∷◌, ◌++◌, ℕ, suc, ◌+◌, ◌≤◌, ◌<◌, length, get_or, take, drop}
use Rattle.std.proofs.Common.{sym, ap, ◌∙◌, subst, inl, inr, append_assoc, add-zero, arith, length-append, take-append-drop, take_at, take-suc, length-take-le}
use Rattle.definitions.specs.Result.{Result, ◌>>=◌, done, refused}
use Rattle.laws.specs.Readings.{never}
use Rattle.laws.specs.Refusals.{refusal_is}
use Rattle.definitions.specs.TextReading.{State, step, fed}
use Rattle.laws.specs.Stepping.{fed-append, fed-one}

-- something good begins with these bytes
pub record Begins (Good : List ℕ → Type 0) (t : List ℕ) : Type 0 where
  pub rest : List ℕ
  pub good : Good (t ++ rest)

-- e is the least place such that nothing good begins with the bytes through e
pub record Wrong (Good : List ℕ → Type 0) (t : List ℕ) (e : ℕ) : Type 0 where
  pub inside : e < length t
  pub fine : Begins Good (take e t)
  pub wrong : ¬ Begins Good (take (suc e) t)

pub not_refused : {A B : Type 0} {a : A} {n d : ℕ} → done a ≡ refused n d → B
not_refused e = never (sym e)

-- ---- the byte at which a step refuses
record Stop (s : State) (at : ℕ) (t : List ℕ) (n d : ℕ) : Type 0 where
  before : List ℕ
  byte : ℕ
  rest : List ℕ
  is : t ≡ before ++ (byte ∷ rest)
  state : State
  reached : fed s at before ≡ done state
  refuses : step state (at + length before) byte ≡ refused n d

stop : (t : List ℕ) (s : State) (at n d : ℕ) → fed s at t ≡ refused n d → Stop s at t n d
stop [] s at n d h = not_refused h
stop (b ∷ t) s at n d h = go (step s at b) refl h (λ s' k. stop t s' (suc at) n d k)
  where
    go : (m : Result State) → step s at b ≡ m → (m >>= λ s'. fed s' (suc at) t) ≡ refused n d → ((s' : State) → fed s' (suc at) t ≡ refused n d → Stop s' (suc at) t n d) → Stop s at (b ∷ t) n d
    go (done s') e h k =
        let i = k s' h in
        let place : at + suc (length i.before) ≡ suc at + length i.before = omega arith in
        record {
          before = b ∷ i.before;
          byte = i.byte;
          rest = i.rest;
          is = ap (λ x. b ∷ x) i.is;
          state = i.state;
          reached = ap (λ m. m >>= λ s'. fed s' (suc at) i.before) e ∙ i.reached;
          refuses = ap (λ k. step i.state k i.byte) place ∙ i.refuses;
        }
    go (refused n' d') e h k = record { before = []; byte = b; rest = t; is = refl; state = s; reached = refl; refuses = ap (λ k. step s k b) (add-zero at) ∙ e ∙ h }

-- ---- 18's detail, pinned from both sides. `Beyond u d`: these bytes end in a number beyond N, whose first byte stands at d
pub record Pinned (Good : List ℕ → Type 0) (Beyond : List ℕ → ℕ → Type 0) (t : List ℕ) (n d : ℕ) : Type 0 where
  pub is_18 : n ≡ 18
  pub at_the_end : (d ≡ length t) ↔ Begins Good t
  pub a_wrong_byte : ¬ Begins Good t → (e : ℕ) × Wrong Good t e
  pub at_the_number : (e d' : ℕ) → Wrong Good t e → Beyond (take (suc e) t) d' → d ≡ d'
  pub at_the_byte : (e : ℕ) → Wrong Good t e → ((d' : ℕ) → ¬ Beyond (take (suc e) t) d') → d ≡ e
  pub at_one_of_them : (e : ℕ) → Wrong Good t e → (d ≡ e) ⊎ Beyond (take (suc e) t) d

-- what is good is read, what is not refused begins something good, and why a byte or the end is refused
pub record Reader {A : Type 0} (start : State) (end : ℕ → State → Result A) (Good : List ℕ → Type 0) (Beyond : List ℕ → ℕ → Type 0) : Type 0 where
  pub reads : (t : List ℕ) → Good t → (a : A) × ((fed start 0 t >>= end (length t)) ≡ done a)
  pub lives : (t : List ℕ) (s : State) → fed start 0 t ≡ done s → Begins Good t
  pub ends : (at : ℕ) (s : State) (n d : ℕ) → end at s ≡ refused n d → (n ≡ 18) × (d ≡ at)
  pub steps : (t : List ℕ) (s : State) (b n d : ℕ) → fed start 0 t ≡ done s → step s (length t) b ≡ refused n d
      → (n ≡ 18) × ((d ≡ length t) ⊎ (Beyond (t ++ (b ∷ [])) d × (d ≤ length t)))
  pub numbers : (t : List ℕ) (s : State) (b n d d' : ℕ) → fed start 0 t ≡ done s → fed start 0 (t ++ (b ∷ [])) ≡ refused n d → Beyond (t ++ (b ∷ [])) d' → d ≡ d'

module _ {A : Type 0} (start : State) (end : ℕ → State → Result A) (Good : List ℕ → Type 0) (Beyond : List ℕ → ℕ → Type 0) (reader : Reader start end Good Beyond) where
  -- what is refused before its end is refused with anything after it
  refused_on : (t u : List ℕ) (n d : ℕ) → fed start 0 t ≡ refused n d → fed start 0 (t ++ u) ≡ refused n d
  refused_on t u n d h = fed-append t u start 0 ∙ ap (λ m. m >>= λ s. fed s (0 + length t) u) h

  never_begins : (t : List ℕ) (n d : ℕ) → fed start 0 t ≡ refused n d → ¬ Begins Good t
  never_begins t n d h g =
      let r = reader.reads (t ++ g.rest) g.good in
      never (sym (ap (λ m. m >>= end (length (t ++ g.rest))) (refused_on t g.rest n d h)) ∙ r.1)

  begun_done : (t : List ℕ) → Begins Good t → (s : State) × (fed start 0 t ≡ done s)
  begun_done t g = go (fed start 0 t) refl
    where
      go : (m : Result State) → fed start 0 t ≡ m → (s : State) × (fed start 0 t ≡ done s)
      go (done s) e = (s, e)
      go (refused n d) e = absurd (never_begins t n d e g)

  one_more : (t : List ℕ) (s : State) (b : ℕ) → fed start 0 t ≡ done s → fed start 0 (t ++ (b ∷ [])) ≡ step s (length t) b
  one_more t s b h =
      let e : 0 + length t ≡ length t = omega arith in
      fed-append t (b ∷ []) start 0 ∙ ap (λ m. m >>= λ s'. fed s' (0 + length t) (b ∷ [])) h ∙ fed-one s (0 + length t) b ∙ ap (λ k. step s k b) e

  module _ (t : List ℕ) (n d : ℕ) (h : (fed start 0 t >>= end (length t)) ≡ refused n d) where
    -- by a byte, or at the end
    either : (fed start 0 t ≡ refused n d) ⊎ ((s : State) × ((fed start 0 t ≡ done s) × (end (length t) s ≡ refused n d)))
    either = go (fed start 0 t) refl h
      where
        go : (m : Result State) → fed start 0 t ≡ m → (m >>= end (length t)) ≡ refused n d
            → (fed start 0 t ≡ refused n d) ⊎ ((s : State) × ((fed start 0 t ≡ done s) × (end (length t) s ≡ refused n d)))
        go (done s) e k = inr (s, (e, k))
        go (refused n' d') e k = let r = refusal_is k in inl (e ∙ ap (λ x. refused x d') r.0 ∙ ap (refused n) r.1)

    -- the byte that refuses is wrong, and the detail does not come after it
    the_byte : fed start 0 t ≡ refused n d → (n ≡ 18) × ((d < length t) × ((e : ℕ) × Wrong Good t e))
    the_byte k =
        let i = stop t start 0 n d k in
        let u : List ℕ = i.before in
        let e : ℕ = length u in
        let b : ℕ = i.byte in
        let long = ap length i.is in
        let place : 0 + e ≡ e = omega arith in
        let refuses : step i.state e b ≡ refused n d = ap (λ k. step i.state k b) (sym place) ∙ i.refuses in
        let why = reader.steps u i.state b n d i.reached refuses in
        let until : take e t ≡ u = ap (take e) i.is ∙ take_at u (b ∷ i.rest) e refl in
        let through : take (suc e) t ≡ u ++ (b ∷ []) =
        ap (take (suc e)) (i.is ∙ sym (append_assoc u (b ∷ []) i.rest)) ∙ take_at (u ++ (b ∷ [])) i.rest (suc e) (omega (arith, length-append u (b ∷ []))) in
        let inside : e < length t = omega (arith, long, length-append u (b ∷ i.rest)) in
        let refused-there : fed start 0 (u ++ (b ∷ [])) ≡ refused n d = one_more u i.state b i.reached ∙ refuses in (
          why.0,
          (
            elim why.1 [ inl z ↦ omega (arith, z, inside) | inr z ↦ omega (arith, z.1, inside) ],
            (
              e,
              record {
                inside = inside;
                fine = rw until (reader.lives u i.state i.reached);
                wrong = rw through (never_begins (u ++ (b ∷ [])) n d refused-there);
              },
            ),
          ),
        )

    -- through a wrong byte the text is refused as the whole is
    wrong_step : (e : ℕ) → Wrong Good t e → (s : State) × ((fed start 0 (take e t) ≡ done s) × (fed start 0 (take e t ++ (get_or t e 0 ∷ [])) ≡ refused n d))
    wrong_step e w = let s = begun_done (take e t) w.fine in (s.0, (s.1, ap (fed start 0) (sym through) ∙ go (fed start 0 (take (suc e) t)) refl))
      where
        through : take (suc e) t ≡ take e t ++ (get_or t e 0 ∷ [])
        through = take-suc t e 0 w.inside

        whole : (n' d' : ℕ) → fed start 0 (take (suc e) t) ≡ refused n' d' → fed start 0 t ≡ refused n' d'
        whole n' d' k = ap (fed start 0) (sym (take-append-drop (suc e) t)) ∙ refused_on (take (suc e) t) (drop (suc e) t) n' d' k

        go : (m : Result State) → fed start 0 (take (suc e) t) ≡ m → fed start 0 (take (suc e) t) ≡ refused n d
        go (done s') k = absurd (w.wrong (reader.lives (take (suc e) t) s' k))
        go (refused n' d') k =
            let r = refusal_is (sym (ap (λ m. m >>= end (length t)) (whole n' d' k)) ∙ h) in
            k ∙ ap (λ x. refused x d') r.0 ∙ ap (refused n) r.1

    byte_or_number : (e : ℕ) → Wrong Good t e → (d ≡ e) ⊎ Beyond (take (suc e) t) d
    byte_or_number e w =
        let s = wrong_step e w in
        let u : List ℕ = take e t in
        let why = reader.steps u s.0 (get_or t e 0) n d s.1.0 (sym (one_more u s.0 (get_or t e 0) s.1.0) ∙ s.1.1) in
        let long = length-take-le e t (omega (arith, w.inside)) in
        elim why.1 [ inl z ↦ inl (z ∙ long) | inr z ↦ inr (subst (λ u. Beyond u d) (sym (take-suc t e 0 w.inside)) z.0) ]

    pub pinned : Pinned Good Beyond t n d
    pinned = record {
      is_18 = elim either [ inl k ↦ (the_byte k).0 | inr k ↦ (reader.ends (length t) k.0 n d k.1.1).0 ];
      at_the_end = (
        (λ e. elim either [ inl k ↦ absurd (omega (arith, (the_byte k).1.0)) | inr k ↦ reader.lives t k.0 k.1.0 ]),
        (λ g. elim either [ inl k ↦ absurd (never_begins t n d k g) | inr k ↦ (reader.ends (length t) k.0 n d k.1.1).1 ]),
      );
      a_wrong_byte = λ f. (elim either [ inl k ↦ (the_byte k).1.1 | inr k ↦ absurd (f (reader.lives t k.0 k.1.0)) ]);
      at_the_number = λ e d' w b.
          let s = wrong_step e w in
          reader.numbers (take e t) s.0 (get_or t e 0) n d d' s.1.0 s.1.1 (subst (λ u. Beyond u d') (take-suc t e 0 w.inside) b);
      at_the_byte = λ e w f. (elim (byte_or_number e w) [ inl z ↦ z | inr z ↦ absurd (f d z) ]);
      at_one_of_them = byte_or_number;
    }
