-- What is made of a reply's literals by a pass through them. Assumes nothing.
use Rattle.std.specs.Prelude.{◌≡◌, refl, Option, Some, None, true, ℕ, ℤ}
use Rattle.std.proofs.Common.{◌∙◌}
use mathlib.Core.List.{List, [], ◌∷◌, ◌++◌}
use Rattle.definitions.specs.Tools.{drop}
use Rattle.definitions.specs.Result.{Result, done, refused}
use Rattle.definitions.specs.TextReading.{number_read}
use Rattle.replies.specs.declared.Number.{Number}
use Rattle.replies.specs.declared.literals.Literals.{Literals}
use Rattle.replies.specs.Parts.{Taken, last, more, value_at, literals_from, HasModel}
use Rattle.replies.specs.Said.{number_said}
use Rattle.replies.specs.Gives.{Ends, Gives}
use Rattle.replies.specs.Replied.{Passing, passing_none, passing-more, passing-all, passing-bad}

abbrev pub Steps : Literals → Option Number → Literals → Type 0
Steps s r t = (t.text.now ≡ s.text.now) × (t.n ≡ s.n) × Gives s.n s.line s.at s.text.now r t.line t.at

module _ {A : Type 0} (f : List ℤ → A) (N from : ℕ) (t : List ℕ) where
  -- the pass goes through that text, and this is made of what it gave
  pub record Making (p : Literals) (now : A) : Type 0 where
    pub text : p.text.now ≡ t
    pub n : p.n ≡ N
    pub passing : Passing f N from p.line p.at t now

  pub making_none : {p : Literals} {now : A} → p.text.now ≡ t → p.n ≡ N → p.line ≡ true → p.at ≡ from → now ≡ f [] → Making p now
  making_none e n l a h = record { text = e; n = n; passing = rw (l, a) (passing_none f N from t h) }

  module _ (p q : Literals) (r : Option Number) (now : A) (k : Making p now) (g : Steps p r q) where
    given : Gives N p.line p.at t r q.line q.at
    given = rw (k.text, k.n) at g.2

    pub making-more : {number : Number} {after : A} → r ≡ Some number
        → ((ns : List ℤ) → now ≡ f ns → after ≡ f (ns ++ (number_read (number_said number) ∷ []))) → Making q after
    making-more e h = record { text = g.0 ∙ k.text; n = g.1 ∙ k.n; passing = passing-more f N from t k.passing (rw e at given).0 h }

    pub making-all : HasModel N from t → r ≡ None → now ≡ f (literals_from N from t)
    making-all m e = go (value_at N p.line p.at (drop p.at t)) refl (rw e at given)
      where
        go : (v : Result Taken) → value_at N p.line p.at (drop p.at t) ≡ v → Ends v → now ≡ f (literals_from N from t)
        go (done last) w o = passing-all f N from t k.passing w
        go (done (more z b at u)) w o = absurd o
        go (refused n d) w o = passing-bad f N from t k.passing m w
