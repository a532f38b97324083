-- A reply is read exactly if it is good: its literals, or 'none' (02, P2). Assumes nothing.
use Rattle.std.specs.Prelude.{◌≡◌, ◌↔◌, ℕ, ◌+◌, ◌≤◌, length, ℤ, nat_abs}
use Rattle.std.proofs.Math.Path.{refl, ap}
use Rattle.std.proofs.Common.{◌∙◌, subst, arith, ne_eqb}
use mathlib.Core.List.{List, [], ◌∷◌, ◌++◌}
use Rattle.definitions.specs.Tools.{All}
use Rattle.definitions.specs.Result.{◌>>=◌, done}
use Rattle.definitions.specs.Dimacs.{ascii}
use Rattle.laws.specs.Readings.{same, never}
use Rattle.laws.specs.Lists.{append-all}
use Rattle.definitions.specs.Texts.{numeral, Values, first, on_line, new_line, GoodReply, no_model}
use Rattle.definitions.specs.TextReading.{reply, Reply, model, unsatisfiable, State, word, count, count_on, verdict, at_number, in_number, over, awaits, fed, end_reply, read_reply}
use Rattle.laws.specs.Stepping.{fed-on}
use Rattle.demands.specs.Reached.{made, wide, of_reply, Reached, all_kept}
use Rattle.demands.specs.GoodTexts.{number_at, numeral-whole, number_read_lem}

abbrev pub reply_start : ℕ → State
reply_start N = awaits (ascii "s ") (verdict N)

-- what is good for an answer
abbrev pub Answers : ℕ → List ℕ → Reply → Type 0
Answers N t (model ns) = GoodReply N ns t
Answers N t unsatisfiable = t ≡ no_model

module _ (N : ℕ) (small : N ≤ wide) where
  -- ---- only a good reply is read
  ends_good : (t : List ℕ) (r : Reply) (s : State) → Reached (of_reply N) s t → end_reply (length t) s ≡ done r → Answers N t r
  ends_good t r (over (model ns)) i h = subst (Answers N t) (same h) (subst (λ n. GoodReply n ns t) i.1.0 i.1.1)
  ends_good t r (over unsatisfiable) i h = subst (Answers N t) (same h) i.1.1
  ends_good t r (word c cs s) i h = never h
  ends_good t r (count c) i h = never h
  ends_good t r (count_on c v) i h = never h
  ends_good t r (verdict n) i h = never h
  ends_good t r (at_number k ns) i h = never h
  ends_good t r (in_number k ns p) i h = never h

  pub only_a_good_reply_is_read : (t : List ℕ) (r : Reply) → read_reply N t ≡ done r → Answers N t r
  unfolding read_reply
  only_a_good_reply_is_read t r h =
      let m = made (fed (reply_start N) 0 t) (end_reply (length t)) h in
      ends_good t r m.0 (all_kept (of_reply N) (λ n o. rw o small) t (reply_start N) [] m.0 (refl, refl) m.1.0) m.1.1

  -- ---- a good reply is read
  abbrev Literals : List ℤ → Type 0
  Literals = All (λ n. (1 ≤ nat_abs n) × (nat_abs n ≤ N))

  abbrev from : ℕ
  from = 14

  abbrev lines : State
  lines = awaits (ascii "v ") (at_number (reply N) [])

  -- a literal has ended, and the next number may begin
  literal_ended : (ns : List ℤ) (x : ℤ) (start at : ℕ) → 1 ≤ nat_abs x
      → (fed (in_number (reply N) ns (number_at start x)) at (ascii " ") ≡ done (at_number (reply N) (ns ++ (x ∷ []))))
      × (fed (in_number (reply N) ns (number_at start x)) at (ascii "\nv ") ≡ done (at_number (reply N) (ns ++ (x ∷ []))))
  literal_ended ns x start at l =
      let w = numeral-whole start x in
      let z = ne_eqb (nat_abs x) 0 (λ e. omega arith) in
      (rw (w.0, z, w.1), rw (w.0, z, w.1))

  values_read : {ns : List ℤ} {n : ℤ} {t : List ℕ} → Values ns n t → Literals ns → nat_abs n ≤ N → (start : ℕ) × (fed lines from t ≡ done (in_number (reply N) ns (number_at start n)))
  values_read (first n) a m = (from + 2, number_read_lem (reply N) [] (from + 2) n refl m small)
  values_read (on_line n {ns = ns} {m = x} {t = t} v) a m =
      let b = append-all (λ n. (1 ≤ nat_abs n) × (nat_abs n ≤ N)) ns (x ∷ []) a in
      let k = values_read v b.0 b.1.0.1 in
      let at : ℕ = from + length t in (
        at + 1,
        fed-on t (ascii " " ++ numeral n) lines from k.1
            (fed-on (ascii " ") (numeral n) (in_number (reply N) ns (number_at k.0 x)) at (literal_ended ns x k.0 at b.1.0.0).0
            (number_read_lem (reply N) (ns ++ (x ∷ [])) (at + 1) n refl m small)),
      )
  values_read (new_line n {ns = ns} {m = x} {t = t} v) a m =
      let b = append-all (λ n. (1 ≤ nat_abs n) × (nat_abs n ≤ N)) ns (x ∷ []) a in
      let k = values_read v b.0 b.1.0.1 in
      let at : ℕ = from + length t in (
        at + 3,
        fed-on t (ascii "\nv " ++ numeral n) lines from k.1
            (fed-on (ascii "\nv ") (numeral n) (in_number (reply N) ns (number_at k.0 x)) at (literal_ended ns x k.0 at b.1.0.0).1
            (number_read_lem (reply N) (ns ++ (x ∷ [])) (at + 3) n refl m small)),
      )

  pub a_good_reply_is_read : (t : List ℕ) (r : Reply) → Answers N t r → read_reply N t ≡ done r
  unfolding read_reply
  a_good_reply_is_read t (model ns) g =
      let k = values_read g.listed g.literals (omega arith) in
      ap (λ r. r >>= end_reply (length t))
      (ap (fed (reply_start N) 0) g.lined
      ∙ fed-on (ascii "s SATISFIABLE\n") (g.values ++ ascii "\n") (reply_start N) 0 refl (fed-on g.values (ascii "\n") lines from k.1 refl))
  a_good_reply_is_read t unsatisfiable g = ap (λ t. fed (reply_start N) 0 t >>= end_reply (length t)) g

  -- its literals, or 'none'
  pub a_reply_is_read_exactly_if_good : (t : List ℕ) (r : Reply) → (read_reply N t ≡ done r) ↔ Answers N t r
  a_reply_is_read_exactly_if_good t r = (only_a_good_reply_is_read t r, a_good_reply_is_read t r)
