-- The whole record, in the code's parts. Assumes nothing.
use mathlib.Core.Path.{◌≡◌, refl, sym, ap, ◌∙◌}
use mathlib.Core.Bool.{Bool, true, false, ◌&&◌}
use mathlib.Core.List.{List}
use Prim.Native.Nat.{ℕ, ◌+◌, ◌-◌, ◌≤◌, ◌<◌}
use native.Mathlib.Decide.{dec_le}
use native.Mathlib.Omega.{arith}
use lib.ListN.{length, get_or}
use lib.Dec.{leb, eqb}
use borrow.Author.Tests.{le-leb, lt-leb, eq-eqb, ne_eqb}
use Rattle.definitions.specs.Board.{Bounds, Clause, Board}
use Rattle.definitions.specs.Result.{Result, done, refused, need, ◌>>◌}
use Rattle.definitions.specs.Result as result
use Rattle.definitions.specs.Reading.{Got, Context, times, big, unsigned, count, read_bounds, read_clause, read_body}
use Rattle.definitions.specs.Operations.{read_board}
use Rattle.laws.specs.Readings.{same, never, place}
use Rattle.laws.specs.Grammar.{reads_times, found}
use Rattle.laws.specs.Reads.{from-to, reads_bounds, reads-clause}
use Rattle.laws.specs.Reread.{the_version, table_start, table-read}
use Rattle.fields.proofs.Laws.{unsigned_there, unsigned_got}
use Rattle.opening.specs.declared.Counts.{Counts}
use Rattle.opening.specs.declared.Header.{Header}
use Rattle.opening.specs.Said.{map_done, header_of}
use Rattle.reader.specs.Parts.{past}
use Rattle.opening.specs.Parts.{read_counts, rules_from, headed, header_from}
use Rattle.reader.proofs.Steps.{passed, asked_got, asked-good, past_done}

-- ---- places stay within the record, and counts within their ranges
pub table_inside : (n : ℕ) (s : List ℕ) (at : ℕ) → at ≤ length s → {p : ℕ} → past (times n read_bounds s at) ≡ done p → p ≤ length s
table_inside n s at h e =
    let q = past_done (times n read_bounds s at) e in
    omega (arith, (reads_times reads_bounds n).orderly.inside s at h, ap place q.read, same q.rest)

record Counted (most : ℕ) (s : List ℕ) (at : ℕ) (g : Got ℕ) : Type 0 where
  pub next : g.next ≡ at + 2
  pub inside : at + 2 ≤ length s
  pub few : g.value ≤ most

counted : (most : ℕ) (s : List ℕ) (at : ℕ) {g : Got ℕ} → count 0 most 2 s at ≡ done g → Counted most s at g
unfolding count
counted most s at {g} e =
    let good : ℕ → Bool = λ c. leb 0 c && leb c most in
    let u = unsigned_got 2 s at (asked_got 4 at good (unsigned 2 s at) e) in
    let t = (from-to 0 most g.value).sound (asked-good 4 at good (unsigned 2 s at) e) in
    record { next = ap (λ g. g.next) u.0; inside = u.1; few = t.1 }

pub record CountsGot (s : List ℕ) (at : ℕ) (g : Got Counts) : Type 0 where
  pub next : g.next ≡ at + 6
  pub inside : g.next ≤ length s
  pub few : (g.value.ints ≤ 1024) × (g.value.bools ≤ 4096)

pub counts_got : (s : List ℕ) (at : ℕ) {g : Got Counts} → read_counts s at ≡ done g → CountsGot s at g
unfolding read_counts
counts_got s at {g} e =
    let v = passed (count 0 1024 2 s at) _ e in
    let m = passed (count 0 4096 2 s v.got.next) _ v.rest in
    let c = passed (count 0 4096 2 s m.got.next) _ m.rest in
    let v' = counted 1024 s at v.read in
    let m' = counted 4096 s v.got.next m.read in
    let c' = counted 4096 s m.got.next c.read in
    rw (← same c.rest)
    (record { next = omega (arith, v'.next, m'.next, c'.next); inside = omega (arith, c'.next, c'.inside); few = (v'.few, m'.few) })

-- ---- the table and the clauses, and nothing after them
either_way : {A P : Type 0} (m : Result A) → ((n d : ℕ) → m ≡ refused n d → P) → ((a : A) → m ≡ done a → P) → P
either_way (refused n d) r f = r n d refl
either_way (done a) r f = f a refl

module _ (s : List ℕ) where
  abbrev closed : Got Board → Result Board
  closed g = need 8 g.next (eqb g.next (length s)) >> done g.value

  module _ (z : Counts) (at : ℕ) (begins : at ≡ table_start) where
    abbrev ctx : Context
    ctx = record { version = the_version; ints = z.ints; bools = z.bools }

    abbrev table : Result (Got (List Bounds))
    table = times z.ints read_bounds s at

    abbrev rules : ℕ → Result (Got (List Clause))
    rules = times z.clauses (read_clause ctx) s

    abbrev board : Got (List Bounds) → Got (List Clause) → Board
    board g h = record { bounds = g.value; bools = z.bools; clauses = h.value }

    ended : (g : Got (List Bounds)) (h : Got (List Clause)) → table ≡ done g → rules g.next ≡ done h → (t : Bool)
        → map_done header_of (need 8 h.next t >> done (board g h))
        ≡ result.◌>>=◌ (result.◌>>=◌ (need 8 h.next t) (λ _. done h.next)) (λ _. done (headed the_version z at g.next))
    ended g h b c false = refl
    ended g h b c true =
        let t = table-read z.ints s at g.next g.value b in
        let k = (found ((reads_times (reads-clause ctx) z.clauses).told s g.next h.value h.next c)).0.0 in
        rw (t.1, begins, t.0, k)

    body_is : map_done header_of (result.◌>>=◌ (result.◌>>=◌ table λ g. result.◌>>=◌ (rules g.next) λ h. done (record { value = board g h; next = h.next })) closed)
        ≡ (result.◌>>=◌ (past table) λ place. result.◌>>=◌ (rules_from (headed the_version z at place) s) λ _. done (headed the_version z at place))
    unfolding rules_from
    body_is =
        either_way table (λ n d b. rw b) λ g b.
        either_way (rules g.next) (λ n d c. rw (b, c)) λ h c.
        rw (b, c) (ended g h b c (eqb h.next (length s)))

  -- ---- and the counts before them
  in_parts : map_done header_of (result.◌>>=◌ (read_body the_version s 5) closed) ≡ header_from the_version s 5
  unfolding read_body read_counts header_from
  in_parts =
      either_way (count 0 1024 2 s 5) (λ n d e. rw e) λ v e.
      either_way (count 0 4096 2 s v.next) (λ n d e'. rw (e, e')) λ m e'.
      either_way (count 0 4096 2 s m.next) (λ n d e''. rw (e, e', e'')) λ c e''.
      rw (e, e', e'')
      (body_is (record { ints = v.value; bools = m.value; clauses = c.value }) c.next
      (omega (arith, (counted 1024 s 5 e).next, (counted 4096 s v.next e').next, (counted 4096 s m.next e'').next)))

-- ---- version and stated length
missing : (n : ℕ) (s : List ℕ) (at : ℕ) {why d : ℕ} → unsigned n s at ≡ refused why d → length s < at + n
missing n s at e = elim (dec_le (at + n) (length s)) [ yes k ↦ never (sym (unsigned_there n s at k ∙ e)) | no k ↦ omega arith ]

-- ---- the checks in 01's order
module _ (s : List ℕ) (short : length s ≤ 65536) where
  abbrev reads : ℕ → ℕ → ℕ → ℕ → Type 0
  reads n at value next = unsigned n s at ≡ done (record { value = value; next = next })

  abbrev opened : Result Header
  opened = map_done header_of (read_board s)

  too_few : length s < 5 → opened ≡ refused 2 0
  unfolding read_board
  too_few h = rw (le-leb _ _ short, lt-leb _ _ h)

  pub no_version : {why d : ℕ} → unsigned 1 s 0 ≡ refused why d → opened ≡ refused 2 0
  no_version e = too_few (omega (arith, missing 1 s 0 e))

  module _ {version next : ℕ} (e : reads 1 0 version next) where
    next_is : next ≡ 1
    next_is = ap (λ g. g.next) (unsigned_got 1 s 0 e).0

    version_is : version ≡ get_or s 0 0
    unfolding big
    version_is = omega (arith, ap (λ g. g.value) (unsigned_got 1 s 0 e).0)

    pub no_length : {why d : ℕ} → unsigned 4 s next ≡ refused why d → opened ≡ refused 2 0
    no_length f = too_few (omega (arith, missing 4 s next f, next_is))

    module _ {stated body : ℕ} (f : reads 4 next stated body) where
      stated_is : stated ≡ big s 1 4
      stated_is = ap (λ g. g.value) (unsigned_got 4 s next f).0 ∙ ap (λ n. big s n 4) next_is

      pub begins : (body ≡ 5) × (5 ≤ length s)
      begins = let u = unsigned_got 4 s next f in omega (arith, next_is, ap (λ g. g.next) u.0, u.1)

      pub version_wrong : (version ≡ the_version → ⊥) → opened ≡ refused 3 0
      unfolding read_board
      version_wrong h = rw (le-leb _ _ short, le-leb _ _ begins.1, ← version_is, ne_eqb _ _ h)

      pub length_wrong : version ≡ the_version → (stated ≡ length s - body → ⊥) → opened ≡ refused 2 0
      unfolding read_board
      length_wrong one h =
          rw (le-leb _ _ short, le-leb _ _ begins.1, ← version_is, one, ne_eqb (big s 1 4) (length s - 5) (λ x. h (omega (arith, stated_is, begins.0, x))))

      pub board_is : version ≡ the_version → stated ≡ length s - body → opened ≡ header_from version s body
      unfolding read_board
      board_is one h =
          let l : big s 1 4 ≡ length s - 5 = omega (arith, stated_is, begins.0) in
          rw (le-leb _ _ short, le-leb _ _ begins.1, ← version_is, one, begins.0, eq-eqb _ _ l) (in_parts s)
