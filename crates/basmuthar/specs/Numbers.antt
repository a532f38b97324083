-- Nothing of an operation's answer is lost in the four numbers: they tell which answer it was. Assumes nothing.
use Rattle.std.specs.Prelude as code
use Rattle.std.specs.Prelude.{◌≡◌, refl, Ok, Err, Bool, true, false, List, ◌∷◌, ℕ, zero, suc, ℤ, pos, get_or, eqb, if◌then◌else◌}
use Rattle.std.proofs.Common.{sym, ap, ap₂, ◌∙◌}
use Rattle.definitions.specs.Result.{Result, done, refused}
use Rattle.definitions.specs.Closing.{Earliest, found, none, unfinished}
use Rattle.definitions.specs.Answers.{said, answered, sizes_said, reply_said, said_sizing, said_verdict, said_hour, said_texted, said_replied}
use Rattle.definitions.specs.declared.Refusal.{Refusal}
use Rattle.definitions.specs.declared.Sizes.{Sizes}
use Rattle.definitions.specs.declared.Hour.{Hour}
use Rattle.definitions.specs.declared.Reply.{Reply}
use Rattle.laws.specs.Outcomes.{one_sizing, one_verdict, one_hour, one-text, one-reply}
use Rattle.basmuthar.specs.Interface.{answer_written, sizes_numbers, verdict_numbers, length_numbers, reply_numbers, sizes_written, verdict_written, hour_written, hours_written, length_written, reply_written}

-- no refusal has the number 0
not_zero : (r : Refusal) → eqb (said r).0 0 ≡ false
not_zero Refusal.RecordTooLong = refl
not_zero Refusal.LengthWrong = refl
not_zero Refusal.VersionUnknown = refl
not_zero (Refusal.CountWrong place) = refl
not_zero (Refusal.BoundWrong place) = refl
not_zero (Refusal.LiteralWrong place) = refl
not_zero (Refusal.CoefficientWrong place) = refl
not_zero (Refusal.EndWrong place) = refl
not_zero Refusal.ListTooLong = refl
not_zero (Refusal.ListTooShort wanted) = refl
not_zero (Refusal.LentWrong wanted) = refl
not_zero (Refusal.ByteWrong index) = refl
not_zero (Refusal.ClauseFails number) = refl
not_zero (Refusal.ValueOutside index) = refl
not_zero (Refusal.VariableUnknown place) = refl
not_zero (Refusal.VariableRepeated place) = refl
not_zero (Refusal.ConstantWrong place) = refl
not_zero (Refusal.TextWrong place) = refl
not_zero (Refusal.VariableNotOnce number) = refl
not_zero (Refusal.NoVariable number) = refl
not_zero (Refusal.RepliesLeft count) = refl

-- an answer read back from its numbers, with what is meant where the first is 0
abbrev pub read_as : {A : Type 0} → A → List ℕ → Result A
read_as a numbers = if eqb (get_or numbers 0 0) 0 then done a else refused (get_or numbers 0 0) (get_or numbers 1 0)

-- what is meant can be read back from its numbers, and so can the answer
module _ {A B : Type 0} (meaning : A → B) (numbers : B → List ℕ) (back : List ℕ → B) (is : (b : B) → back (0 ∷ numbers b) ≡ b) where
  answer_back : (r : code.Result A Refusal) → let w = answer_written numbers (answered meaning r) in read_as (back w) w ≡ answered meaning r
  answer_back (Ok a) = ap done (is (meaning a))
  answer_back (Err r) = rw (not_zero r)

  answer_told : (r r' : code.Result A Refusal) → answer_written numbers (answered meaning r) ≡ answer_written numbers (answered meaning r') → answered meaning r ≡ answered meaning r'
  answer_told r r' h = sym (answer_back r) ∙ ap (λ w. read_as (back w) w) h ∙ answer_back r'

pub sizing_told : (z z' : code.Result Sizes Refusal) → sizes_written (said_sizing z) ≡ sizes_written (said_sizing z') → z ≡ z'
sizing_told z z' h =
    one_sizing z z' (answer_told sizes_said sizes_numbers (λ w. record { n = get_or w 1 0; m = get_or w 2 0; k = get_or w 3 0 }) (λ s. refl) z z' h)

pub verdict_told : (v v' : code.Result (Unit {0}) Refusal) → verdict_written (said_verdict v) ≡ verdict_written (said_verdict v') → v ≡ v'
verdict_told v v' h = one_verdict v v' (answer_told (λ u. u) verdict_numbers (λ w. tt) (λ u. refl) v v' h)

-- so do the four numbers and the hours of Closing
pub hour_told : (h h' : code.Result Hour Refusal) (hours : List ℤ) → hour_written (said_hour h) ≡ hour_written (said_hour h') → hours_written (said_hour h) hours ≡ hours_written (said_hour h') hours → h ≡ h'
hour_told h h' hours e f = one_hour h h' (sym (is h) ∙ ap₂ back e f ∙ is h')
  where
    kind : ℕ → List ℤ → Earliest
    kind zero hours = found (get_or hours 0 (pos 0))
    kind (suc zero) hours = none
    kind (suc (suc k)) hours = unfinished (record { lo = get_or hours 0 (pos 0); hi = get_or hours 1 (pos 0) }) (get_or hours 2 (pos 0))

    back : List ℕ → List ℤ → Result Earliest
    back numbers hours = read_as (kind (get_or numbers 1 0) hours) numbers

    is : (h : code.Result Hour Refusal) → back (hour_written (said_hour h)) (hours_written (said_hour h) hours) ≡ said_hour h
    is (Ok (Hour.Found v)) = refl
    is (Ok Hour.None) = refl
    is (Ok (Hour.Unfinished low high question)) = refl
    is (Err r) = rw (not_zero r)

pub text_told : (t t' : code.Result ℕ Refusal) → length_written (said_texted t) ≡ length_written (said_texted t') → t ≡ t'
text_told t t' h = one-text t t' (answer_told (λ n. n) length_numbers (λ w. get_or w 1 0) (λ n. refl) t t' h)

pub reply_told : (r r' : code.Result Reply Refusal) → reply_written (said_replied r) ≡ reply_written (said_replied r') → r ≡ r'
reply_told r r' h = one-reply r r' (answer_told reply_said reply_numbers (λ w. eqb (get_or w 1 0) 0) is r r' h)
  where
    is : (b : Bool) → eqb (get_or (0 ∷ reply_numbers b) 1 0) 0 ≡ b
    is true = refl
    is false = refl
