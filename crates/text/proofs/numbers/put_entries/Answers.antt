-- The text of each number comes next, and there is room for it.
use Rattle.std.proofs.Common.{◌≡◌, refl, ◌++◌, List, ℕ, ◌+◌, ◌≤◌, ◌<◌, length, get_or, drop, arith, rules, ℤ, pos, FitsSigned, w32, to_z, of_z, to_z-of_z}
use Rattle.definitions.specs.Dimacs.{entry}
use Rattle.laws.specs.Written.{rest-length}
use Rattle.laws.specs.Filling.{Filling, begin, room_for, part, ended}
use Rattle.text.specs.Entries.{entries, entries-more, entries_none}
use Rattle.text.proofs.numbers.put_entries.Goals as goal

-- the number at i
module _ (list : List ℤ) (i : ℕ) (h : i < length list) (f : FitsSigned w32 (get_or list i (pos 0))) where
  next : entries (drop i list) ≡ entry (to_z w32 (of_z w32 (get_or list i (pos 0)))) ++ entries (drop (i + 1) list)
  next = simp to_z-of_z (entries-more list i (pos 0) h)

  room : {old out : List ℕ} {at : ℕ} → Filling (entries list) (entries (drop i list)) old out at → at + length (entry (to_z w32 (of_z w32 (get_or list i (pos 0))))) ≤ length out
  room inv = room_for inv _ _ next

pub loop-number-init : goal.loop-number-init
loop-number-init c = begin _ _ _ refl c.requires

pub put_entry-at-requires : goal.put_entry-at-requires
put_entry-at-requires c =
    let l = c.loop-number in
    omega (arith, rest-length l.out l.at, room c.args.list.now l.number-index c.loop-number-test.true (search rules) l.invariant)

pub overflow_add-at : goal.overflow_add-at
overflow_add-at c =
    let l = c.loop-number in
    let k : l.at + c.put_entry-at.result ≤ length c.args.out.now = omega (arith, c.put_entry-at.ensures.0, room c.args.list.now l.number-index c.loop-number-test.true (search rules) l.invariant) in
    search rules

pub loop-number-preserved : goal.loop-number-preserved
loop-number-preserved c =
    let l = c.loop-number in
    part l.invariant _ _ (next c.args.list.now l.number-index c.loop-number-test.true (search rules)) _ _ c.put_entry-at.ensures.0 c.put_entry-at.ensures.1

pub returns : goal.returns
returns c = ended c.loop-number.invariant (entries_none c.args.list.now c.loop-number.number-index (omega arith))
