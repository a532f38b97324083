-- A field's value, where it is within its range by an order.
use Rattle.std.specs.Prelude.{ℕ, Bool, ◌||◌, if◌then◌else◌, Option, Some, None, Result, Ok, Err}
use Rattle.std.specs.Ordering.{is_lt, is_some_and}
use Rattle.std.specs.declared.cmp.Ordering.{Ordering}
use Rattle.definitions.specs.declared.Got.{Got}
use Rattle.reader.specs.declared.Why.{Why}
use Rattle.reader.specs.declared.Fault.{Fault}

module _ {A : Type 0} (order : A → A → Option Ordering) where
  abbrev pub below : A → A → Bool
  below a b = is_some_and is_lt (order a b)

  abbrev pub ranged : A → A → Why → ℕ → Option (Got A) → Result (Got A) Fault
  ranged least most why at None = Err (record { why = Why.End; place = at })
  ranged least most why at (Some g) = if below g.value least || below most g.value then Err (record { why = why; place = at }) else Ok g
