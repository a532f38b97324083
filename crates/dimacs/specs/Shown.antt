-- What is printed, as a line and the numbers of the list after it. Assumes nothing.
use Rattle.std.specs.Prelude as code
use Rattle.std.specs.Prelude.{◌≡◌, refl, Ok, Err, Bool, true, false, List, ◌++◌, ℕ, ◌+◌, ◌*◌, ◌≤◌, leb, length, take, drop, replicate, ℤ, pos}
use Rattle.std.proofs.Common.{sym, ap, ap₂, ◌∙◌, leb-true, arith, length-append}
use Rattle.definitions.specs.Board.{Board}
use Rattle.definitions.specs.Encoding.{K, clause_list}
use Rattle.definitions.specs.Result.{Result, done, refused, need}
use Rattle.definitions.specs.Result as result
use Rattle.definitions.specs.Operations.{Sizes, accepted, sizes_of, lending, compile_outcome}
use Rattle.definitions.specs.Answers.{said, said_sizing}
use Rattle.definitions.specs.Dimacs.{ascii, shown, printed}
use Rattle.definitions.specs.declared.Refusal.{Refusal}
use Rattle.definitions.specs.declared.Sizes as sizes
use Rattle.io.specs.Counts.{IsPrefixLen}
use Rattle.laws.specs.Written.{written}
use Rattle.text.specs.Puts.{Put, put_text}
use Rattle.text.specs.Lines.{line, lined, line-length}
use Rattle.text.specs.Entries.{entries, entries-length}

-- how many numbers of the list an answer speaks of
abbrev pub listed : code.Result sizes.Sizes Refusal → ℕ
listed (Ok z) = z.k
listed (Err r) = 0

abbrev counted : Result Sizes → ℕ
counted (done z) = z.k
counted (refused n d) = 0

-- from the board on, the rest of Compile
abbrev rest : List ℤ → Board → Bool → Result (Sizes × List ℤ)
rest list B good = result.◌>>◌ (need 10 (K B) good) (done (sizes_of B, clause_list B ++ drop (K B) list))

rest-counted : (list : List ℤ) (B : Board) (t : Bool) → leb (K B) (length list) ≡ t → counted (lending list (rest list B t)).answer ≤ length list
unfolding sizes_of
rest-counted list B true e = leb-true _ _ e
rest-counted list B false e = omega arith

compiled_counted : (s : List ℕ) (list : List ℤ) → counted (compile_outcome s list).answer ≤ length list
unfolding compile_outcome
compiled_counted s list = go (accepted s)
  where
    go : (m : Result Board) → counted (lending list (result.◌>>=◌ m λ B. rest list B (leb (K B) (length list)))).answer ≤ length list
    go (done B) = rest-counted list B (leb (K B) (length list)) refl
    go (refused n d) = omega arith

pub listed_fits : (s : List ℕ) (list : List ℤ) (r : code.Result sizes.Sizes Refusal) → said_sizing r ≡ (compile_outcome s list).answer → listed r ≤ length list
listed_fits s list (Ok z) e = omega (arith, compiled_counted s list, ap counted e)
listed_fits s list (Err r) e = omega arith

-- ---- a line and what follows
abbrev pub cnf : ℕ → ℕ → List ℤ → List ℕ
cnf n m list = line (ascii "p cnf ") n m ++ entries list

abbrev pub refusal_line : Refusal → List ℕ
refusal_line r = line (ascii "refused ") (said r).0 (said r).1

pub shown_done : (z : sizes.Sizes) (list : List ℤ) → cnf z.n z.m (take z.k list) ≡ shown (said_sizing (Ok z)) list
unfolding shown
shown_done z list = ap (λ l. l ++ entries (take z.k list)) (sym (lined (ascii "p cnf ") z.n z.m))

pub shown_refused : (r : Refusal) (list : List ℤ) → refusal_line r ≡ shown (said_sizing (Err r)) list
unfolding shown
shown_refused r list = sym (lined (ascii "refused ") (said r).0 (said r).1)

pub cnf-length : (n m : ℕ) (list : List ℤ) → length (cnf n m list) ≤ 64 + 22 * length list
cnf-length n m list = omega (arith, length-append (line (ascii "p cnf ") n m) (entries list), line-length (ascii "p cnf ") n m, entries-length list)

-- ---- the whole text
pub printed_is : (s : List ℕ) (r : code.Result sizes.Sizes Refusal) (left : List ℤ) → said_sizing r ≡ (compile_outcome s (replicate 16384 (pos 0))).answer → left ≡ (compile_outcome s (replicate 16384 (pos 0))).left
    → shown (said_sizing r) left ≡ printed s
unfolding printed
printed_is s r left ea el = ap₂ shown ea el

pub put_counts : (t before : List ℕ) (n : ℕ) (after : List ℕ) → Put t before n after → IsPrefixLen n after
unfolding written
put_counts t before n after p =
    (omega (arith, p.0, ap length p.1, length-append t (drop (length t) before)), p.0 ∙ ap length (sym (put_text t before n after p)))
