-- What is not refused begins something good: from every state that is reached some bytes lead to an end. Assumes nothing.
use Rattle.std.specs.Prelude.{◌≡◌, refl, Bool, true, false, List, [], ◌∷◌, ◌++◌, ℕ, zero, suc, ◌+◌, ◌-◌, ◌≤◌, ltb, length, ℤ, pos}
use Rattle.std.proofs.Common.{ap, arith, lt-ltb, le-leb, eq-eqb, ne_eqb}
use Rattle.definitions.specs.Result.{Result, ◌>>=◌, done}
use Rattle.definitions.specs.Dimacs.{ascii}
use Rattle.definitions.specs.Texts.{zeros}
use Rattle.definitions.specs.TextReading.{number_read, count_N, count_M, text, reply, Reply, model, unsatisfiable, State, word, count, count_on, verdict, at_number, in_number, over, fed, end_text, end_reply}
use Rattle.laws.specs.Stepping.{fed-on, fed-awaits, num}
use Rattle.demands.specs.Reached.{zeros-append, more_room, of_text, of_reply, Reached}
use Rattle.demands.specs.GoodTexts.{count_ends}

-- some bytes from here lead to an end
pub record Lives {A : Type 0} (end : ℕ → State → Result A) (s : State) (at : ℕ) : Type 0 where
  pub rest : List ℕ
  pub last : State
  pub leads : fed s at rest ≡ done last
  pub answer : A
  pub ends : (n : ℕ) → end n last ≡ done answer

module _ {A : Type 0} (end : ℕ → State → Result A) where
  then_lives : (u : List ℕ) (s s' : State) (at : ℕ) → fed s at u ≡ done s' → Lives end s' (at + length u) → Lives end s at
  then_lives u s s' at e l = record { rest = u ++ l.rest; last = l.last; leads = fed-on u l.rest s at e l.leads; answer = l.answer; ends = l.ends }

-- ---- text: as many clauses of no literal as are wanted
clauses_live : (k N M : ℕ) (ns : List ℤ) (at : ℕ) → zeros ns + k ≡ M → Lives end_text (at_number (text N M) ns) at
clauses_live zero N M ns at e = record {
  rest = [];
  last = at_number (text N M) ns;
  leads = refl;
  answer = record { n = N; m = M; list = ns };
  ends = λ n. rw (eq-eqb (zeros ns) M (omega arith));
}
clauses_live (suc k) N M ns at e =
    then_lives end_text (ascii "0 ") (at_number (text N M) ns) (at_number (text N M) (ns ++ (pos 0 ∷ []))) at
    (rw (lt-ltb (zeros ns) M (omega arith), le-leb 0 N (omega arith)))
    (clauses_live k N M (ns ++ (pos 0 ∷ [])) (at + 2) (omega (arith, zeros-append ns (pos 0 ∷ []), e)))

-- a number that is being read may end: after a minus alone, with a 1
number_lives : (N M : ℕ) (ns : List ℤ) (start : ℕ) (minus : Bool) (size at : ℕ) → ltb (zeros ns) M ≡ true → (minus ≡ true → 1 ≤ N) → Lives end_text (in_number (text N M) ns (num start minus size)) at
number_lives N M ns start minus size at f r = go minus size r
  where
    next : (x : ℤ) (at : ℕ) → Lives end_text (at_number (text N M) (ns ++ (x ∷ []))) at
    next x at = let m = (more_room M ns x f).few in clauses_live (M - zeros (ns ++ (x ∷ []))) N M (ns ++ (x ∷ [])) at (omega (arith, m))

    go : (minus : Bool) (size : ℕ) → (minus ≡ true → 1 ≤ N) → Lives end_text (in_number (text N M) ns (num start minus size)) at
    go true zero r = then_lives end_text (ascii "1 ") _ _ at (rw (le-leb 1 N (r refl))) (next (number_read (num start true 1)) (at + 2))
    go true (suc v) r = then_lives end_text (ascii " ") _ _ at (rw (lt-ltb 0 (suc v) (omega arith))) (next (number_read (num start true (suc v))) (at + 1))
    go false zero r = then_lives end_text (ascii " ") _ _ at refl (next (pos 0) (at + 1))
    go false (suc v) r = then_lives end_text (ascii " ") _ _ at (rw (lt-ltb 0 (suc v) (omega arith))) (next (pos (suc v)) (at + 1))

pub text_lives : (s : State) (w : List ℕ) (at : ℕ) → Reached of_text s w → Lives end_text s at
text_lives (word c cs s) w at r = then_lives end_text (c ∷ cs) (word c cs s) s at (fed-awaits (c ∷ cs) s at) (text_lives s (w ++ (c ∷ cs)) (at + length (c ∷ cs)) r)
text_lives (count count_N) w at r = then_lives end_text (ascii "0 0\n") (count count_N) (at_number (text 0 0) []) at refl (clauses_live 0 0 0 [] (at + 4) refl)
text_lives (count (count_M N)) w at r = then_lives end_text (ascii "0\n") (count (count_M N)) (at_number (text N 0) []) at refl (clauses_live 0 N 0 [] (at + 2) refl)
text_lives (count_on count_N v) w at r =
    then_lives end_text (ascii " 0\n") (count_on count_N v) (at_number (text v 0) []) at
    (ap (λ m. m >>= λ s. fed s (suc at) (ascii "0\n")) (count_ends count_N v at 32 refl)) (clauses_live 0 v 0 [] (at + 3) refl)
text_lives (count_on (count_M N) v) w at r =
    then_lives end_text (ascii "\n") (count_on (count_M N) v) (at_number (text N v) []) at
    (ap (λ m. m >>= λ s. fed s (suc at) []) (count_ends (count_M N) v at 10 refl)) (clauses_live v N v [] (at + 1) (omega arith))
text_lives (verdict N) w at r = absurd r.0
text_lives (at_number (text N M) ns) w at r = let m = r.1.room.few in clauses_live (M - zeros ns) N M ns at (omega (arith, m))
text_lives (at_number (reply N) ns) w at r = absurd r.0
text_lives (in_number (text N M) ns p) w at r = number_lives N M ns p.start p.minus p.size at r.more r.room
text_lives (in_number (reply N) ns p) w at r = absurd r.before.0
text_lives (over (model ns)) w at r = absurd r.1.0
text_lives (over unsatisfiable) w at r = absurd r.1.0

-- ---- a reply: the 0 and a newline
over_lives : (r : Reply) (at : ℕ) → Lives end_reply (over r) at
over_lives r at = record { rest = []; last = over r; leads = refl; answer = r; ends = λ n. refl }

module _ (N : ℕ) where
  zero_lives : (ns : List ℤ) (at : ℕ) → Lives end_reply (at_number (reply N) ns) at
  zero_lives ns at = then_lives end_reply (ascii "0\n") (at_number (reply N) ns) (over (model ns)) at (rw (le-leb 0 N (omega arith))) (over_lives (model ns) (at + 2))

  literal_lives : (ns : List ℤ) (start : ℕ) (minus : Bool) (size at : ℕ) → (minus ≡ true → 1 ≤ N) → Lives end_reply (in_number (reply N) ns (num start minus size)) at
  literal_lives ns start true zero at r = then_lives end_reply (ascii "1 ") _ _ at (rw (le-leb 1 N (r refl))) (zero_lives (ns ++ (number_read (num start true 1) ∷ [])) (at + 2))
  literal_lives ns start true (suc v) at r =
      then_lives end_reply (ascii " ") _ _ at (rw (lt-ltb 0 (suc v) (omega arith), ne_eqb (suc v) 0 (λ e. omega arith))) (zero_lives (ns ++ (number_read (num start true (suc v)) ∷ [])) (at + 1))
  literal_lives ns start false zero at r = then_lives end_reply (ascii "\n") _ _ at refl (over_lives (model ns) (at + 1))
  literal_lives ns start false (suc v) at r =
      then_lives end_reply (ascii " ") _ _ at (rw (lt-ltb 0 (suc v) (omega arith), ne_eqb (suc v) 0 (λ e. omega arith))) (zero_lives (ns ++ (pos (suc v) ∷ [])) (at + 1))

pub reply_lives : (N : ℕ) (s : State) (w : List ℕ) (at : ℕ) → Reached (of_reply N) s w → Lives end_reply s at
reply_lives N (word c cs s) w at r = then_lives end_reply (c ∷ cs) (word c cs s) s at (fed-awaits (c ∷ cs) s at) (reply_lives N s (w ++ (c ∷ cs)) (at + length (c ∷ cs)) r)
reply_lives N (count c) w at r = absurd r.0
reply_lives N (count_on c v) w at r = absurd r.0
reply_lives N (verdict n) w at r = then_lives end_reply (ascii "UNSATISFIABLE\n") (verdict n) (over unsatisfiable) at refl (over_lives unsatisfiable (at + 14))
reply_lives N (at_number (text n m) ns) w at r = absurd r.0
reply_lives N (at_number (reply n) ns) w at r = zero_lives n ns at
reply_lives N (in_number (text n m) ns p) w at r = absurd r.before.0
reply_lives N (in_number (reply n) ns p) w at r = literal_lives n ns p.start p.minus p.size at r.room
reply_lives N (over r') w at r = over_lives r' at
