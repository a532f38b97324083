-- `rules::past_literal` meets its contract.
use Rattle.std.proofs.Common.{to_z-of_z, inl, inr}
use Rattle.laws.specs.Fits.{good-constant}
use Rattle.rules.proofs.Steps.{literal_there, known, goes_bool, goes_negated, goes_led, goes_lone}
use Rattle.rules.proofs.past_literal.Goals as goal

pub literal_again-read-requires : goal.literal_again-read-requires
literal_again-read-requires c = let p = c.requires in literal_there p.0.0 _ _ p.0.1 p.1

pub returns-in-Boolean : goal.returns-in-Boolean
returns-in-Boolean c =
    λ ctx s.
    let h = c.requires.1 in
    let a = c.literal_again-read.ensures in
    rw c.after.ensures (elim c.in-Boolean.is [ inl w ↦ goes_bool ctx _ _ s h _ a w.1 | inr w ↦ goes_negated ctx _ _ s h _ a w.1 ])

pub returns-then-c : goal.returns-then-c
returns-then-c c =
    let h = c.requires.1 in
    let e = c.in-Comparison.is in
    let a = c.literal_again-read.ensures in
    λ ctx s. rw (c.after-then-c.ensures, to_z-of_z (good-constant (known ctx _ _ s h _ a e).good))
    (goes_led ctx _ _ s h _ a e c.if-c.true)

pub returns-else-c : goal.returns-else-c
returns-else-c c =
    let h = c.requires.1 in
    let e = c.in-Comparison.is in
    let a = c.literal_again-read.ensures in
    λ ctx s. rw (c.after-else-c.ensures, to_z-of_z (good-constant (known ctx _ _ s h _ a e).good))
    (goes_lone ctx _ _ s h _ a e c.if-c.false)
