-- `judge::clauses::piece_holds` meets its contract.
use Rattle.std.proofs.Common.{◌≡◌, length, List, ℕ, ℤ, subst, to_z-of_z}
use Rattle.definitions.specs.Meaning.{assigned, compares}
use Rattle.laws.specs.Fits.{good-constant}
use Rattle.laws.specs.Reread.{Stands}
use Rattle.rules.specs.declared.Piece.{Piece}
use Rattle.rules.specs.Cursors.{Held}
use Rattle.judge.specs.Suited.{Suiting}
use Rattle.judge.proofs.clauses.piece_holds.Goals as goal

-- a comparison alone
stands : {values : List ℤ} {booleans t : List ℕ} {p : Piece} → Suiting values booleans (λ ctx. Held ctx t p) → {place : ℕ} {k : ℤ} → p ≡ Piece.Lone place k → Stands (length values) t place k
stands {t = t} s e = rw s.suited.ints (subst (Held s.ctx t) e s.such)

pub any_holds-requires : goal.any_holds-requires
any_holds-requires c = let s = c.requires in record { ctx = s.ctx; suited = s.suited; such = subst (Held s.ctx c.args.rules.now) c.in-Line.is s.such }

pub compares-requires : goal.compares-requires
compares-requires c =
    let s = stands c.requires c.in-Lone.is in
    (c.requires.suited.near, rw (to_z-of_z (good-constant s.good)) s)

pub returns-in-Line : goal.returns-in-Line
returns-in-Line c = rw c.in-Line.is c.any_holds.ensures

pub returns-in-Lone : goal.returns-in-Lone
unfolding assigned compares
returns-in-Lone c =
    let s = stands c.requires c.in-Lone.is in
    rw c.in-Lone.is (rw (to_z-of_z (good-constant s.good)) at c.compares.ensures)

pub returns-in-Led : goal.returns-in-Led
returns-in-Led c = rw c.in-Led.is
