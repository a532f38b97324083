-- 18's detail, of text and of replies, for all bytes (02, P2). Assumes nothing.
use Rattle.std.specs.Prelude.{◌≡◌, refl, List, [], ◌∷◌, ◌++◌, ℕ, ◌+◌, ◌≤◌, ◌&&◌, eqb, ℤ}
use Rattle.std.proofs.Math.Path.{sym, subst}
use Rattle.std.proofs.Common.{ap, ◌∙◌}
use Rattle.std.proofs.Math.ListN.{length}
use Rattle.definitions.specs.Result.{Result, ◌>>=◌, done, refused}
use Rattle.definitions.specs.Texts.{zeros, GoodText}
use Rattle.definitions.specs.TextReading.{number_read, whole, text, reply, Reply, State, word, count, count_on, verdict, at_number, in_number, over, fed, Read, end_text, end_reply, read_text, read_reply}
use Rattle.laws.specs.Stepping.{fed-on}
use Rattle.demands.specs.Reached.{wide, of_text, of_reply, Narrow, Reached, all_kept}
use Rattle.demands.specs.GoodTexts.{text_start, only_good_text_is_read, good_text_is_read}
use Rattle.demands.specs.GoodReplies.{reply_start, Answers, only_a_good_reply_is_read, a_good_reply_is_read}
use Rattle.demands.specs.Places.{Pinned, Reader, pinned}
use Rattle.demands.specs.Lives.{Lives, text_lives, reply_lives}
use Rattle.demands.specs.Details.{Beyond, Here, here_done, here_refused, here_need, why_refused, beyond_refused, Free, text_head, reply_head}

-- what a state that some bytes lead on from gives: a whole that is read
lived : {A : Type 0} (start : State) (end : ℕ → State → Result A) (t : List ℕ) (s : State) → fed start 0 t ≡ done s → (l : Lives end s (0 + length t))
    → (fed start 0 (t ++ l.rest) >>= end (length (t ++ l.rest))) ≡ done l.answer
lived start end t s e l = ap (λ m. m >>= end (length (t ++ l.rest))) (fed-on t l.rest start 0 e l.leads) ∙ l.ends (length (t ++ l.rest))

-- ---- text
abbrev pub SomeText : List ℕ → Type 0
SomeText t = (r : Read) × GoodText r.n r.m r.list t

text_ends : (at : ℕ) (s : State) → Here at (end_text at s)
text_ends at (at_number (text N M) ns) = here_need at (eqb (zeros ns) M) (here_done at (record { n = N; m = M; list = ns }))
text_ends at (in_number (text N M) ns p) =
    let all : List ℤ = ns ++ (number_read p ∷ []) in
    here_need at (whole p && eqb (zeros all) M) (here_done at (record { n = N; m = M; list = all }))
text_ends at (at_number (reply N) ns) = here_refused at
text_ends at (in_number (reply N) ns p) = here_refused at
text_ends at (word c cs s) = here_refused at
text_ends at (count c) = here_refused at
text_ends at (count_on c v) = here_refused at
text_ends at (verdict N) = here_refused at
text_ends at (over r) = here_refused at

no_reply : Narrow of_text
no_reply N o = absurd o

text_reached : (t : List ℕ) (s : State) → fed text_start 0 t ≡ done s → Reached of_text s t
text_reached t s e = all_kept of_text no_reply t text_start [] s (tt, refl) e

text_reader : Reader text_start end_text SomeText (Beyond of_text)
unfolding read_text
text_reader = record {
  reads = λ t g. (g.0, good_text_is_read g.0.n g.0.m g.0.list t g.1);
  lives = λ t s e.
      let l = text_lives s t (0 + length t) (text_reached t s e) in
      record { rest = l.rest; good = (l.answer, only_good_text_is_read (t ++ l.rest) l.answer (lived text_start end_text t s e l)) };
  ends = text_ends;
  steps = λ t s b n d e h. why_refused of_text no_reply t s b n d (text_reached t s e) h;
  numbers = λ t s b n d d' e h g.
      beyond_refused text_start g.head (text_head g.N g.head g.after) t b s g.x n d g.far.0 g.far.1 g.is e h ∙ sym g.starts;
}

-- "18 bad text, detail the offset of the first number beyond N or past clause M, or of an earlier byte that no good text has there,
-- else the text's length"
pub bad_text_is_pinned : (t : List ℕ) (n d : ℕ) → read_text t ≡ refused n d → Pinned SomeText (Beyond of_text) t n d
unfolding read_text
bad_text_is_pinned t n d h = pinned text_start end_text SomeText (Beyond of_text) text_reader t n d h

-- ---- replies: good are 'none', and also those in which a variable comes twice
module _ (N : ℕ) (small : N ≤ wide) where
  abbrev pub SomeReply : List ℕ → Type 0
  SomeReply t = (r : Reply) × Answers N t r

  reply_ends : (at : ℕ) (s : State) → Here at (end_reply at s)
  reply_ends at (over r) = here_done at r
  reply_ends at (word c cs s) = here_refused at
  reply_ends at (count c) = here_refused at
  reply_ends at (count_on c v) = here_refused at
  reply_ends at (verdict n) = here_refused at
  reply_ends at (at_number k ns) = here_refused at
  reply_ends at (in_number k ns p) = here_refused at

  only_this : Narrow (of_reply N)
  only_this n o = rw o small

  reply_reached : (t : List ℕ) (s : State) → fed (reply_start N) 0 t ≡ done s → Reached (of_reply N) s t
  reply_reached t s e = all_kept (of_reply N) only_this t (reply_start N) [] s (refl, refl) e

  reply_reader : Reader (reply_start N) end_reply SomeReply (Beyond (of_reply N))
  unfolding read_reply
  reply_reader = record {
    reads = λ t g. (g.0, a_good_reply_is_read N small t g.0 g.1);
    lives = λ t s e.
        let l = reply_lives N s t (0 + length t) (reply_reached t s e) in
        record { rest = l.rest; good = (l.answer, only_a_good_reply_is_read N small (t ++ l.rest) l.answer (lived (reply_start N) end_reply t s e l)) };
    ends = reply_ends;
    steps = λ t s b n d e h. why_refused (of_reply N) only_this t s b n d (reply_reached t s e) h;
    numbers = λ t s b n d d' e h g.
        beyond_refused (reply_start N) g.head (λ s k. subst (λ n. Free n s) (sym g.after.0) (reply_head N g.after.1.0 g.head g.after.1.1 s k)) t b s g.x n d g.far.0 g.far.1 g.is e h
        ∙ sym g.starts;
  }

  pub a_bad_reply_is_pinned : (t : List ℕ) (n d : ℕ) → read_reply N t ≡ refused n d → Pinned SomeReply (Beyond (of_reply N)) t n d
  unfolding read_reply
  a_bad_reply_is_pinned t n d h = pinned (reply_start N) end_reply SomeReply (Beyond (of_reply N)) reply_reader t n d h
