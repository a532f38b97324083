-- A driver: it puts one question after another to a function, and notes the replies. Assumes nothing.
use Rattle.std.specs.Prelude.{◌≡◌, ◌↔◌, Bool, true, false, List, [], ◌∷◌, ◌++◌, T, get_or, take, ℤ}
use Rattle.std.proofs.Math.Path.{refl, ap}
use Rattle.std.proofs.Common.{sym, ◌∙◌, arith}
use Prim.Native.Nat.{ℕ, zero, suc, ◌≤◌, ◌<◌}
use Rattle.std.proofs.Math.ListN.{length}
use Rattle.definitions.specs.Tools.{All}
use Rattle.definitions.specs.Board.{Bounds}
use Rattle.definitions.specs.Result.{Result, done, refused}
use Rattle.definitions.specs.Closing.{Earliest, found, none, unfinished, narrowed, tells, after}
use Rattle.demands.specs.Bytes.{bit, bit-most}
use Rattle.demands.specs.Bisection.{Finished, Ends, AtMost, True}

bit_says : (t : Bool) → (bit t ≡ 1) ↔ T t
bit_says true = ((λ e. tt), (λ e. refl))
bit_says false = ((λ e. omega arith), (λ e. absurd e))

-- an answer that ends a search
pub record Ended (answer : Result Earliest) : Type 0 where
  pub last : Earliest
  pub is : answer ≡ done last
  pub finished : Finished last

module _ (f : ℤ → Bool) where
  -- the reply to a question; where none is put, no reply
  abbrev pub reply : Result Earliest → List ℕ
  reply (done (unfinished r h)) = bit (f h) ∷ []
  reply (done (found v)) = []
  reply (done none) = []
  reply (refused n d) = []

  -- the replies to n questions at the most: each is put where the replies before it leave one
  unfoldable pub driven : (List ℕ → Result Earliest) → ℕ → List ℕ
  driven answer zero = []
  driven answer (suc n) = driven answer n ++ reply (answer (driven answer n))

  -- ---- the same from the first reply on
  abbrev ahead : ℕ → Earliest → List ℕ
  ahead zero e = []
  ahead (suc n) (found v) = []
  ahead (suc n) none = []
  ahead (suc n) (unfinished r h) = bit (f h) ∷ ahead n (tells (narrowed r h (bit (f h))))

  ahead_more : (n : ℕ) (e : Earliest) → ahead n e ++ reply (after e (ahead n e)) ≡ ahead (suc n) e
  unfolding after
  ahead_more zero (found v) = refl
  ahead_more zero none = refl
  ahead_more zero (unfinished r h) = refl
  ahead_more (suc n) (found v) = refl
  ahead_more (suc n) none = refl
  ahead_more (suc n) (unfinished r h) = ap (λ l. bit (f h) ∷ l) (ahead_more n (tells (narrowed r h (bit (f h)))))

  driven-ahead : (n : ℕ) (e : Earliest) → driven (after e) n ≡ ahead n e
  unfolding driven
  driven-ahead zero e = refl
  driven-ahead (suc n) e = ap (λ l. l ++ reply (after e l)) (driven-ahead n e) ∙ ahead_more n e

  -- ---- they are few, they are bits, and they end the search
  ahead_few : (n : ℕ) (e : Earliest) → length (ahead n e) ≤ n
  ahead_few zero e = omega arith
  ahead_few (suc n) (found v) = omega arith
  ahead_few (suc n) none = omega arith
  ahead_few (suc n) (unfinished r h) = let k = ahead_few n (tells (narrowed r h (bit (f h)))) in omega arith

  ahead-bits : (n : ℕ) (e : Earliest) → All (λ b. b ≤ 1) (ahead n e)
  ahead-bits zero e = tt
  ahead-bits (suc n) (found v) = tt
  ahead-bits (suc n) none = tt
  ahead-bits (suc n) (unfinished r h) = (bit-most (f h), ahead-bits n (tells (narrowed r h (bit (f h)))))

  ahead_ends : (n : ℕ) (e : Earliest) → Ends n e → Ended (after e (ahead n e))
  unfolding after
  ahead_ends zero e k = record { last = e; is = refl; finished = k }
  ahead_ends (suc n) (found v) k = record { last = found v; is = refl; finished = tt }
  ahead_ends (suc n) none k = record { last = none; is = refl; finished = tt }
  ahead_ends (suc n) (unfinished r h) k = ahead_ends n (tells (narrowed r h (bit (f h)))) (k (bit (f h)))

  module _ (n : ℕ) (e : Earliest) where
    pub driven_few : length (driven (after e) n) ≤ n
    driven_few = rw (driven-ahead n e) (ahead_few n e)

    pub driven-bits : All (λ b. b ≤ 1) (driven (after e) n)
    driven-bits = rw (driven-ahead n e) (ahead-bits n e)

    pub driven_ends : Ends n e → Ended (after e (driven (after e) n))
    driven_ends k = rw (driven-ahead n e) (ahead_ends n e k)

  -- ---- they are true where f is
  module _ (S : ℤ → Type 0) (right : (h : ℤ) → T (f h) ↔ AtMost S h) where
    one_more : (r : Bounds) (h : ℤ) (b : ℕ) (bs : List ℕ) → (b ≡ 1) ↔ AtMost S h → True S (after (tells (narrowed r h b))) bs → True S (after (unfinished r h)) (b ∷ bs)
    unfolding after
    one_more r h b bs k t = record { each = go }
      where
        go : (i : ℕ) → i < length (b ∷ bs) → (r' : Bounds) (q : ℤ) → after (unfinished r h) (take i (b ∷ bs)) ≡ done (unfinished r' q) → (get_or (b ∷ bs) i 0 ≡ 1) ↔ AtMost S q
        go zero l r' q d = let e : h ≡ q = cc in rw (sym e) k
        go (suc i) l r' q d = t.each i (omega arith) r' q d

    ahead_true : (n : ℕ) (e : Earliest) → True S (after e) (ahead n e)
    ahead_true zero e = record { each = λ i l r h d. absurd (omega arith) }
    ahead_true (suc n) (found v) = record { each = λ i l r h d. absurd (omega arith) }
    ahead_true (suc n) none = record { each = λ i l r h d. absurd (omega arith) }
    ahead_true (suc n) (unfinished r h) =
        let b = bit_says (f h) in
        let k = right h in
        one_more r h (bit (f h)) (ahead n (tells (narrowed r h (bit (f h))))) (λ e. k.0 (b.0 e), λ a. b.1 (k.1 a)) (ahead_true n (tells (narrowed r h (bit (f h)))))

    pub driven_true : (n : ℕ) (e : Earliest) → True S (after e) (driven (after e) n)
    driven_true n e = rw (driven-ahead n e) (ahead_true n e)
