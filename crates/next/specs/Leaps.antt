-- Hops taken twice as many at a time: a sum of many thousand hops is computed without going as deep. Assumes nothing.
use Rattle.std.specs.Prelude.{◌≡◌, Bool, T, ltb, if◌then◌else◌}
use Rattle.std.proofs.Math.Path.{sym}
use Rattle.std.proofs.Common.{◌∙◌, arith, ltb→lt}
use Rattle.std.proofs.Math.Bool.{true, false}
use Prim.Native.Nat.{ℕ, zero, suc, ◌+◌, ◌-◌, ◌≤◌, ◌<◌}
use Rattle.next.specs.RunSums.{total, turn_end}
use Rattle.next.specs.Hops.{hops, Hops, hop, hops-total}

-- a sum, and the number after the last one in it
pub record Sum : Type 0 where
  pub so_far : ℕ
  pub from : ℕ

-- 2 ^ d hops from k, or fewer where the end comes
unfoldable pub leap : (ℕ → ℕ) → (ℕ → ℕ) → ℕ → ℕ → ℕ → Sum
leap next g end zero k = elim (ltb k end) [ true ↦ record { so_far = g k; from = next k } | false ↦ record { so_far = 0; from = k } ]
leap next g end (suc d) k =
    elim (ltb k end) [ true ↦ (let p = leap next g end d k in let q = leap next g end d p.from in record { so_far = p.so_far + q.so_far; from = q.from }) | false ↦ record { so_far = 0; from = k } ]

module _ (f : ℕ → Bool) (next : ℕ → ℕ) (end : ℕ) (h : Hops f next end) (g : ℕ → ℕ) where
  abbrev passing : ℕ → ℕ
  passing i = if f i then g i else 0

  record Leapt (k : ℕ) (p : Sum) : Type 0 where
    pub sum : p.so_far + total passing p.from (end - p.from) ≡ total passing k (end - k)
    pub lands : p.from < end → f p.from ≡ true

  leapt : (d k : ℕ) → (k < end → f k ≡ true) → Leapt k (leap next g end d k)
  unfolding leap
  leapt zero k t = go (ltb k end) (ltb→lt k end)
    where
      go : (b : Bool) → (T b → k < end) → Leapt k (elim b [ true ↦ record { so_far = g k; from = next k } | false ↦ record { so_far = 0; from = k } ])
      go true y = let l = y tt in record { sum = sym (hop f next end h g k l (t l)); lands = λ u. h.lands k l u }
      go false y = record { sum = omega arith; lands = t }
  leapt (suc d) k t = let once = leapt d k t in go (ltb k end) once (leapt d (leap next g end d k).from once.lands)
    where
      go : (b : Bool) → Leapt k (leap next g end d k) → Leapt (leap next g end d k).from (leap next g end d (leap next g end d k).from)
          → Leapt k (elim b [ true ↦ (let p = leap next g end d k in let q = leap next g end d p.from in record { so_far = p.so_far + q.so_far; from = q.from }) | false ↦ record { so_far = 0; from = k } ])
      go true once twice = record { sum = omega (arith, once.sum, twice.sum); lands = twice.lands }
      go false once twice = record { sum = omega arith; lands = t }

  -- enough of them are all
  pub leaps : (d n k : ℕ) → end ≤ k + n → (k < end → f k ≡ true) → end ≤ (leap next g end d k).from → hops next g end n k ≡ (leap next g end d k).so_far
  leaps d n k e t u =
      let w = leapt d k t in
      hops-total f next end h g n k e t ∙ sym w.sum ∙ omega (arith, turn_end passing (leap next g end d k).from end u)
