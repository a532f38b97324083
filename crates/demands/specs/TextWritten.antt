-- What is written for an accepted record is good text, and reading it gives what Compile gives (02, P2). Assumes nothing.
use Rattle.std.specs.Prelude.{◌≡◌, Bool, true, false, ℕ, zero, suc, ◌≤◌, T, length, drop, replicate, ℤ, pos, negsuc, nat_abs, if◌then◌else◌}
use Rattle.std.proofs.Math.Path.{refl, sym, ap}
use Rattle.std.proofs.Common.{◌∙◌, subst, arith, take_all, take_at}
use Rattle.std.proofs.Math.Logic.{inl, inr}
use mathlib.Core.List.{List, [], ◌∷◌, ◌++◌, map, flatten, append_assoc, append-nil}
use Rattle.std.proofs.lemmas.List.{length-replicate}
use borrow.Author.Tests.{le-leb}
use Rattle.definitions.specs.Tools.{All, eq_z}
use Rattle.definitions.specs.Board.{Board}
use Rattle.definitions.specs.Result.{done}
use Rattle.definitions.specs.Encoding.{SatClause, N, M, K, clauses, literal_number, clause_list}
use Rattle.definitions.specs.Operations.{accepted, ◌leaves◌, sizes_of, compile_outcome}
use Rattle.definitions.specs.Dimacs.{digits, entry, shown, printed}
use Rattle.laws.specs.Reread.{accepted_admitted, accepted-parts}
use Rattle.laws.specs.Admitted.{Admitted}
use Rattle.laws.specs.Mentions.{InList, literals-numbered}
use Rattle.laws.specs.Sizes.{M_is, K_is}
use Rattle.laws.specs.Fits.{N_fits}
use Rattle.demands.specs.Flat.{list_numbers}
use Rattle.definitions.specs.Texts.{numeral, blank, Spaced, nothing, gap, number, zeros, Ended, first_line, GoodText}
use Rattle.definitions.specs.TextReading.{read_text}
use Rattle.definitions.specs.TextOperations.{text_of, write_text_outcome, read_text_outcome}
use Rattle.demands.specs.Reached.{zeros-append, zero_or}
use Rattle.demands.specs.GoodTexts.{good_text_is_read}

-- ---- entries are numbers, each with a space or a newline after it
entry_is : (n : ℤ) → (b : ℕ) × (T (blank b) × (entry n ≡ numeral n ++ (b ∷ [])))
unfolding entry digits
entry_is (pos zero) = (10, (tt, refl))
entry_is (pos (suc v)) = (32, (tt, refl))
entry_is (negsuc v) = (32, (tt, refl))

spaced_entries : (ns ms : List ℤ) (u : List ℕ) → Spaced true ms u → Spaced true (ms ++ ns) (u ++ flatten (map entry ns))
unfolding flatten
spaced_entries [] ms u s = rw (append-nil ms, append-nil u) s
spaced_entries (n ∷ ns) ms u s =
    let e = entry_is n in
    let b = e.0 in
    let rest : List ℕ = flatten (map entry ns) in
    let k = spaced_entries ns (ms ++ (n ∷ [])) ((u ++ numeral n) ++ (b ∷ [])) (gap b e.1.0 (number n s)) in
    let text : ((u ++ numeral n) ++ (b ∷ [])) ++ rest ≡ u ++ (entry n ++ rest) =
    ap (λ x. x ++ rest) (append_assoc u (numeral n) (b ∷ [])) ∙ append_assoc u (numeral n ++ (b ∷ [])) rest ∙ ap (λ x. u ++ (x ++ rest)) (sym e.1.1) in
    subst (Spaced true (ms ++ (n ∷ ns))) text (subst (λ l. Spaced true l (((u ++ numeral n) ++ (b ∷ [])) ++ rest)) (append_assoc ms (n ∷ []) ns) k)

-- ---- the zeros of the list end its clauses
module _ (B : Board) where
  abbrev row : SatClause → List ℤ
  row c = map (literal_number B) c ++ (pos 0 ∷ [])

  no_zeros : (c : SatClause) → All (λ l. InList (N B) (literal_number B l)) c → zeros (map (literal_number B) c) ≡ 0
  no_zeros [] h = refl
  no_zeros (l ∷ c) h =
      let n = literal_number B l in
      elim (zero_or n) [
        | inl e ↦ absurd (omega (arith, h.0.0, ap nat_abs e.0))
        | inr e ↦ omega (arith, zeros-append (n ∷ []) (map (literal_number B) c), e, no_zeros c h.1)
      ]

  rows-zeros : (cs : List SatClause) → All (All (λ l. InList (N B) (literal_number B l))) cs → zeros (flatten (map row cs)) ≡ length cs
  unfolding flatten
  rows-zeros [] h = refl
  rows-zeros (c ∷ cs) h =
      omega (arith, zeros-append (row c) (flatten (map row cs)), zeros-append (map (literal_number B) c) (pos 0 ∷ []), no_zeros c h.0, rows-zeros cs h.1)

  rows-ended : (cs : List SatClause) → Ended (flatten (map row cs))
  unfolding flatten
  rows-ended [] = inl refl
  rows-ended (c ∷ cs) = inr (elim (rows-ended cs) [
    | inl e ↦ (map (literal_number B) c, ap (λ x. row c ++ x) e ∙ append-nil (row c))
    | inr e ↦ (row c ++ e.0, ap (λ x. row c ++ x) e.1 ∙ sym (append_assoc (row c) e.0 (pos 0 ∷ [])))
  ])

zeros-most : (ns : List ℤ) → zeros ns ≤ length ns
zeros-most [] = omega arith
zeros-most (n ∷ ns) = go (eq_z n (pos 0)) (zeros-most ns)
  where
    go : (t : Bool) → zeros ns ≤ length ns → (if t then suc (zeros ns) else zeros ns) ≤ suc (length ns)
    go true h = omega arith
    go false h = omega arith

module _ (s : List ℕ) (B : Board) (e : accepted s ≡ done B) where
  good : Admitted B
  good = accepted_admitted s B e

  list_zeros : zeros (clause_list B) ≡ M B
  unfolding clause_list
  list_zeros = rows-zeros B (clauses B) (literals-numbered B good) ∙ sym (M_is B)

  list_ended : Ended (clause_list B)
  unfolding clause_list
  list_ended = rows-ended B (clauses B)

  -- "as the program prints it" is good text of N, M and the clause list
  pub what_is_written_is_good : GoodText (N B) (M B) (clause_list B) (text_of B)
  unfolding text_of shown sizes_of
  what_is_written_is_good = record {
    small = (omega (arith, N_fits B good), omega (arith, list_zeros, zeros-most (clause_list B), K_is B, ((accepted-parts s B).0 e).1));
    body = flatten (map entry (clause_list B));
    lined = ap (λ l. first_line (N B) (M B) ++ flatten (map entry l)) (take_all (K B) (clause_list B) (omega (arith, K_is B)));
    free = true;
    spaced = spaced_entries (clause_list B) [] [] nothing;
    known = list_numbers B good;
    clauses = list_zeros;
    ended = list_ended;
  }

  -- "Reading what was written gives the list again."
  pub reading_what_was_written_gives_the_list : read_text (text_of B) ≡ done (record { n = N B; m = M B; list = clause_list B })
  reading_what_was_written_gives_the_list = good_text_is_read (N B) (M B) (clause_list B) (text_of B) what_is_written_is_good

  -- the reader answers and leaves what Compile does, 10 included
  pub reading_what_was_written_is_compiling : (list : List ℤ) → read_text_outcome (text_of B) list ≡ compile_outcome s list
  unfolding read_text_outcome compile_outcome sizes_of
  reading_what_was_written_is_compiling list = rw (reading_what_was_written_gives_the_list, e, ← K_is B)

  -- the writer writes this text where there is room, and the program prints it where the list fits
  pub the_writer_writes_it : (lent : List ℕ) → length (text_of B) ≤ length lent → write_text_outcome s lent ≡ (done (length (text_of B)) leaves (text_of B ++ drop (length (text_of B)) lent))
  unfolding write_text_outcome
  the_writer_writes_it lent h = rw (e, le-leb (length (text_of B)) (length lent) h)

  compiled_is_shown : (list : List ℤ) → K B ≤ length list → shown (compile_outcome s list).answer (compile_outcome s list).left ≡ text_of B
  unfolding compile_outcome text_of shown sizes_of
  compiled_is_shown list h =
      rw (e, le-leb (K B) (length list) h)
      (ap (λ l. first_line (N B) (M B) ++ flatten (map entry l))
      (take_at (clause_list B) (drop (K B) list) (K B) (sym (K_is B)) ∙ sym (take_all (K B) (clause_list B) (omega (arith, K_is B)))))

  pub the_program_prints_it : K B ≤ 16384 → printed s ≡ text_of B
  unfolding printed
  the_program_prints_it h = compiled_is_shown (replicate 16384 (pos 0)) (subst (λ n. K B ≤ n) (sym (length-replicate 16384 (pos 0))) h)
