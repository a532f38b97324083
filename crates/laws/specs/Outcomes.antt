-- Two answers of the code's own types that say the same (01's number and values) are one answer.
use Rattle.std.specs.Prelude as code
use Rattle.std.specs.Prelude.{◌≡◌, refl, Ok, Err, Bool, true, false, [], ◌∷◌, ◌++◌, ℕ, ◌-◌, get_or, replicate}
use Rattle.std.proofs.Common.{sym, ap, ◌∙◌}
use Rattle.definitions.specs.declared.Refusal.{Refusal}
use Rattle.definitions.specs.declared.Sizes as sizes
use Rattle.definitions.specs.declared.Hour.{Hour}
use Rattle.definitions.specs.declared.Reply.{Reply}
use Rattle.definitions.specs.Result.{Result, done, refused}
use Rattle.definitions.specs.Closing.{Earliest, found, none, unfinished}
use Rattle.definitions.specs.Answers.{said, answered, sizes_said, hour_said, reply_said, said_verdict, said_sizing, said_hour, said_texted, said_replied}

-- a refusal's number and detail tell which it is; 20 and 21 are not given yet
pub unsaid : ℕ × ℕ → Refusal
unsaid p =
    let d = p.1 in
    get_or
    (Refusal.RecordTooLong ∷ Refusal.LengthWrong ∷ Refusal.VersionUnknown ∷ Refusal.CountWrong d ∷ Refusal.BoundWrong d ∷
    Refusal.LiteralWrong d ∷ Refusal.CoefficientWrong d ∷ Refusal.EndWrong d ∷ Refusal.ListTooLong ∷ Refusal.ListTooShort d ∷
    Refusal.LentWrong d ∷ Refusal.ByteWrong d ∷ Refusal.ClauseFails d ∷ Refusal.ValueOutside d ∷
    Refusal.VariableUnknown d ∷ Refusal.VariableRepeated d ∷ Refusal.ConstantWrong d ∷
    Refusal.TextWrong d ∷ Refusal.VariableNotOnce d ∷
    (replicate 2 Refusal.RecordTooLong ++ (Refusal.NoVariable d ∷ Refusal.RepliesLeft d ∷ [])))
    (p.0 - 1) Refusal.RecordTooLong

pub unsaid_said : (r : Refusal) → unsaid (said r) ≡ r
unfolding unsaid
unsaid_said Refusal.RecordTooLong = refl
unsaid_said Refusal.LengthWrong = refl
unsaid_said Refusal.VersionUnknown = refl
unsaid_said (Refusal.CountWrong d) = refl
unsaid_said (Refusal.BoundWrong d) = refl
unsaid_said (Refusal.LiteralWrong d) = refl
unsaid_said (Refusal.CoefficientWrong d) = refl
unsaid_said (Refusal.EndWrong d) = refl
unsaid_said Refusal.ListTooLong = refl
unsaid_said (Refusal.ListTooShort d) = refl
unsaid_said (Refusal.LentWrong d) = refl
unsaid_said (Refusal.ByteWrong d) = refl
unsaid_said (Refusal.ClauseFails d) = refl
unsaid_said (Refusal.ValueOutside d) = refl
unsaid_said (Refusal.VariableUnknown d) = refl
unsaid_said (Refusal.VariableRepeated d) = refl
unsaid_said (Refusal.ConstantWrong d) = refl
unsaid_said (Refusal.TextWrong d) = refl
unsaid_said (Refusal.VariableNotOnce d) = refl
unsaid_said (Refusal.NoVariable d) = refl
unsaid_said (Refusal.RepliesLeft d) = refl

-- what can be read back from its saying is told by it
pub told : {A S : Type 0} (say : A → S) (back : S → A) → ((a : A) → back (say a) ≡ a) → (a b : A) → say a ≡ say b → a ≡ b
told say back e a b h = sym (e a) ∙ ap back h ∙ e b

-- answers whose meaning tells them, refusals among them
pub one_answer : {A B : Type 0} (meaning : A → B) (back : B → A) → ((a : A) → back (meaning a) ≡ a) → (a b : code.Result A Refusal) → answered meaning a ≡ answered meaning b → a ≡ b
one_answer {A = A} {B = B} meaning back is = told (answered meaning) back' is'
  where
    back' : Result B → code.Result A Refusal
    back' (done a) = Ok (back a)
    back' (refused n d) = Err (unsaid (n, d))

    is' : (a : code.Result A Refusal) → back' (answered meaning a) ≡ a
    is' (Ok a) = ap Ok (is a)
    is' (Err r) = ap Err (unsaid_said r)

pub one_verdict : (v v' : code.Result (Unit {0}) Refusal) → said_verdict v ≡ said_verdict v' → v ≡ v'
one_verdict = one_answer (λ u. u) (λ u. u) (λ u. refl)

pub one_sizing : (z z' : code.Result sizes.Sizes Refusal) → said_sizing z ≡ said_sizing z' → z ≡ z'
one_sizing = one_answer sizes_said (λ s. record { n = s.n; m = s.m; k = s.k }) (λ s. refl)

pub one_hour : (h h' : code.Result Hour Refusal) → said_hour h ≡ said_hour h' → h ≡ h'
one_hour = one_answer hour_said back is
  where
    back : Earliest → Hour
    back (found v) = Hour.Found v
    back none = Hour.None
    back (unfinished r question) = Hour.Unfinished r.lo r.hi question

    is : (h : Hour) → back (hour_said h) ≡ h
    is (Hour.Found v) = refl
    is Hour.None = refl
    is (Hour.Unfinished low high question) = refl

pub one-text : (r r' : code.Result ℕ Refusal) → said_texted r ≡ said_texted r' → r ≡ r'
one-text = one_answer (λ n. n) (λ n. n) (λ n. refl)

pub one-reply : (r r' : code.Result Reply Refusal) → said_replied r ≡ said_replied r' → r ≡ r'
one-reply = one_answer reply_said back is
  where
    back : Bool → Reply
    back true = Reply.Model
    back false = Reply.None

    is : (r : Reply) → back (reply_said r) ≡ r
    is Reply.Model = refl
    is Reply.None = refl
