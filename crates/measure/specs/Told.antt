-- What `measure`'s answer tells of the record, for its callers. Assumes nothing.
use Rattle.std.specs.Prelude.{◌≡◌, List, ℕ}
use Rattle.std.proofs.Common.{sym, ap, ◌∙◌}
use Rattle.definitions.specs.Result.{done, refused}
use Rattle.definitions.specs.Operations.{accepted}
use Rattle.laws.specs.Reread.{accepted-parts}
use Rattle.laws.specs.Boards.{board_of, board_is, opens}
use Rattle.opening.specs.Said.{map_done, header_of}
use Rattle.opening.specs.Headers.{Opened}
use Rattle.opening.specs.Told.{mapped_done, mapped_refused}
use Rattle.measure.specs.declared.Measured.{Measured}
use Rattle.measure.specs.Said.{totals_of, measured_of}

pub record Measures (s : List ℕ) (m : Measured) : Type 0 where
  pub board : accepted s ≡ done (board_of s)
  pub opened : Opened s m.header
  pub totals : m.sizes ≡ totals_of (board_of s)

module _ (s : List ℕ) where
  pub measured : {m : Measured} → map_done measured_of (accepted s) ≡ done m → Measures s m
  measured e =
      let m = mapped_done measured_of (accepted s) e in
      let r = ((accepted-parts s m.0).0 m.1).0 in
      let b = sym (board_is s m.0 r) in record {
        board = m.1 ∙ ap done b;
        opened = record { opens = opens s m.0 r; header = ap (λ z. z.header) m.2 ∙ ap header_of b };
        totals = ap (λ z. z.sizes) m.2 ∙ ap totals_of b;
      }

  pub not_measured : {n d : ℕ} → map_done measured_of (accepted s) ≡ refused n d → accepted s ≡ refused n d
  not_measured e = mapped_refused measured_of (accepted s) e
