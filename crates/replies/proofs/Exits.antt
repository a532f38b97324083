-- What the exit of a `?` returns: the callee's refusal, as it is or as 18.
use Rattle.std.specs.Prelude as code
use Rattle.std.proofs.Common.{◌≡◌}
use Rattle.std.specs.Result.{IsErrAnd}
use Rattle.std.proofs.lemmas.Result.{err_from_is_err_and}
use Rattle.definitions.specs.Result.{Result, refused}
use Rattle.definitions.specs.Answers.{answered}
use Rattle.definitions.specs.declared.Refusal.{Refusal}
use Rattle.replies.specs.declared.Bad.{Bad}
use Rattle.replies.specs.Said.{said}

pub bad_exit : {A B : Type 0} (meaning : A → B) (r : code.Result A Bad) {bad : Bad} {m : Result B} → IsErrAnd r (λ e. e ≡ bad) → refused 18 bad.place ≡ m → said meaning r ≡ m
bad_exit meaning r h e = let p = err_from_is_err_and r h in rw (p.1, p.2) e

pub refusal_exit : {A B : Type 0} (meaning : A → B) (r : code.Result A Refusal) {bad : Bad} {m : Result B} → IsErrAnd r (λ e. e ≡ Refusal.TextWrong bad.place) → refused 18 bad.place ≡ m → answered meaning r ≡ m
refusal_exit meaning r h e = let p = err_from_is_err_and r h in rw (p.1, p.2) e
