-- What each call leaves, its answer and the lists that were lent, is one: two outcomes that its contract allows are equal. Assumes nothing.
use Rattle.std.specs.Prelude.{◌≡◌, List, ℕ, ℤ}
use Rattle.std.proofs.Common.{sym, ◌∙◌}
use Rattle.definitions.specs.Operations.{size_outcome, compile_outcome, decode_outcome, judge_outcome, image_outcome}
use Rattle.definitions.specs.Closing.{closing_outcome}
use Rattle.definitions.specs.TextOperations.{write_text_outcome, read_text_outcome, read_reply_outcome}
use Rattle.basmuthar.specs.Interface.{sizes_written, verdict_written, hour_written, hours_written, length_written, reply_written}

one : {A : Type 0} {x y z : A} → x ≡ z → y ≡ z → x ≡ y
one h k = h ∙ sym k

-- what a call allows of the four numbers `answer` and of the lists as they are left
module _ (s : List ℕ) where
  abbrev pub SizeLeaves : List ℕ → Type 0
  SizeLeaves answer = answer ≡ sizes_written (size_outcome s)

  abbrev pub CompileLeaves : List ℤ → List ℕ → List ℤ → Type 0
  CompileLeaves list answer left = (answer ≡ sizes_written (compile_outcome s list).answer) × (left ≡ (compile_outcome s list).left)

  abbrev pub DecodeLeaves : List ℕ → List ℤ → List ℕ → List ℕ → List ℤ → List ℕ → Type 0
  DecodeLeaves model values booleans answer ints bools =
      let o = decode_outcome s model values booleans in (answer ≡ verdict_written o.answer) × (ints ≡ o.left.0) × (bools ≡ o.left.1)

  abbrev pub JudgeLeaves : List ℤ → List ℕ → List ℕ → Type 0
  JudgeLeaves values booleans answer = answer ≡ verdict_written (judge_outcome s values booleans)

  abbrev pub ImageLeaves : List ℤ → List ℕ → List ℕ → List ℕ → List ℕ → Type 0
  ImageLeaves values booleans model answer left =
      (answer ≡ verdict_written (image_outcome s values booleans model).answer) × (left ≡ (image_outcome s values booleans model).left)

  abbrev pub ClosingLeaves : ℕ → List ℕ → List ℤ → List ℕ → List ℤ → Type 0
  ClosingLeaves x replies hours answer left = (answer ≡ hour_written (closing_outcome s x replies)) × (left ≡ hours_written (closing_outcome s x replies) hours)

  abbrev pub WriteTextLeaves : List ℕ → List ℕ → List ℕ → Type 0
  WriteTextLeaves text answer left = (answer ≡ length_written (write_text_outcome s text).answer) × (left ≡ (write_text_outcome s text).left)

  -- here s is the text that is read
  abbrev pub ReadTextLeaves : List ℤ → List ℕ → List ℤ → Type 0
  ReadTextLeaves list answer left = (answer ≡ sizes_written (read_text_outcome s list).answer) × (left ≡ (read_text_outcome s list).left)

  abbrev pub ReadReplyLeaves : ℕ → List ℕ → List ℕ → List ℕ → Type 0
  ReadReplyLeaves n model answer left = (answer ≡ reply_written (read_reply_outcome n s model).answer) × (left ≡ (read_reply_outcome n s model).left)

  module _ (a a' : List ℕ) where
    pub one_size : SizeLeaves a → SizeLeaves a' → a ≡ a'
    one_size = one

    pub one_compile : (list l l' : List ℤ) → CompileLeaves list a l → CompileLeaves list a' l' → (a ≡ a') × (l ≡ l')
    one_compile list l l' h k = (one h.0 k.0, one h.1 k.1)

    pub one_decode : (model : List ℕ) (values : List ℤ) (booleans : List ℕ) (v v' : List ℤ) (w w' : List ℕ)
        → DecodeLeaves model values booleans a v w → DecodeLeaves model values booleans a' v' w' → (a ≡ a') × (v ≡ v') × (w ≡ w')
    one_decode model values booleans v v' w w' h k = (one h.0 k.0, one h.1 k.1, one h.2 k.2)

    pub one-judge : (values : List ℤ) (booleans : List ℕ) → JudgeLeaves values booleans a → JudgeLeaves values booleans a' → a ≡ a'
    one-judge values booleans = one

    pub one_image : (values : List ℤ) (booleans model l l' : List ℕ) → ImageLeaves values booleans model a l → ImageLeaves values booleans model a' l' → (a ≡ a') × (l ≡ l')
    one_image values booleans model l l' h k = (one h.0 k.0, one h.1 k.1)

    pub one_closing : (x : ℕ) (replies : List ℕ) (hours l l' : List ℤ) → ClosingLeaves x replies hours a l → ClosingLeaves x replies hours a' l' → (a ≡ a') × (l ≡ l')
    one_closing x replies hours l l' h k = (one h.0 k.0, one h.1 k.1)

    pub one_write_text : (text l l' : List ℕ) → WriteTextLeaves text a l → WriteTextLeaves text a' l' → (a ≡ a') × (l ≡ l')
    one_write_text text l l' h k = (one h.0 k.0, one h.1 k.1)

    pub one-read-text : (list l l' : List ℤ) → ReadTextLeaves list a l → ReadTextLeaves list a' l' → (a ≡ a') × (l ≡ l')
    one-read-text list l l' h k = (one h.0 k.0, one h.1 k.1)

    pub one-read-reply : (n : ℕ) (model l l' : List ℕ) → ReadReplyLeaves n model a l → ReadReplyLeaves n model a' l' → (a ≡ a') × (l ≡ l')
    one-read-reply n model l l' h k = (one h.0 k.0, one h.1 k.1)
