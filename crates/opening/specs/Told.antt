-- What `open`'s answer tells of the record, for its callers. Assumes nothing.
use Rattle.std.specs.Prelude.{◌≡◌, refl, List, ℕ}
use Rattle.std.proofs.Common.{sym, ap, ◌∙◌}
use Rattle.definitions.specs.Result.{Result, done, refused}
use Rattle.definitions.specs.Operations.{read_board}
use Rattle.laws.specs.Readings.{same, never}
use Rattle.laws.specs.Boards.{board_is, opens}
use Rattle.opening.specs.declared.Header.{Header}
use Rattle.opening.specs.Said.{map_done, header_of}
use Rattle.opening.specs.Headers.{Opened}

-- what a result was before it was mapped
module _ {A B : Type 0} (f : A → B) where
  pub mapped_done : (m : Result A) {b : B} → map_done f m ≡ done b → (a : A) × (m ≡ done a) × (b ≡ f a)
  mapped_done (done a) e = (a, refl, sym (same e))
  mapped_done (refused n d) e = never e

  pub mapped_refused : (m : Result A) {n d : ℕ} → map_done f m ≡ refused n d → m ≡ refused n d
  mapped_refused (done a) e = never (sym e)
  mapped_refused (refused why p) e = cc

pub opened : (s : List ℕ) {h : Header} → map_done header_of (read_board s) ≡ done h → Opened s h
opened s e =
    let m = mapped_done header_of (read_board s) e in
    record { opens = opens s m.0 m.1; header = m.2 ∙ ap header_of (sym (board_is s m.0 m.1)) }
