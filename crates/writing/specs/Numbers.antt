-- The numbers of clauses, as the writers have them and as the definitions do. Assumes nothing.
use Rattle.std.specs.Prelude.{◌≡◌, refl, Option, Bool, true, false, ◌+◌, length, ℤ, pos, ◌≤ℤ◌, ◌<ℤ◌, if◌then◌else◌}
use Rattle.std.proofs.Common.{sym, ap, ap₂, ◌∙◌, length-append}
use mathlib.Core.List.{List, [], ◌∷◌, ◌++◌, map, flatten, zip_with, map-map, map-append, append-nil}
use Rattle.std.specs.Int.Signed.{le_z}
use Rattle.definitions.specs.Board.{Board, bounds_of}
use Rattle.definitions.specs.Board as board
use Rattle.definitions.specs.Encoding.{SatClause, least, tuples_of, sharp, clauses_under, literal_number}
use Rattle.laws.specs.Whole.{le_test, gt_test}
use Rattle.laws.specs.Lists.{flatten-append, all_every, map_same}
use Rattle.walk.specs.declared.Comparison.{Comparison}
use Rattle.walk.specs.Rows.{front_of}
use Rattle.walk.specs.Comparisons.{least_of, literals_of, Shows, shows_least, shows_literals}

-- a clause is its literals and then 0
unfoldable pub clause : List ℤ → List ℤ
clause ls = ls ++ (pos 0 ∷ [])

unfoldable pub flat : List (List ℤ) → List ℤ
flat cs = flatten (map clause cs)

-- the numbers of a board's clauses
unfoldable pub numbers_of : Board → List SatClause → List ℤ
numbers_of B cs = flatten (map (λ c. map (literal_number B) c ++ (pos 0 ∷ [])) cs)

-- the literals that stay along a row
abbrev pub stays : Option ℤ → Option ℤ → List ℤ
stays lead front = front_of lead ++ front_of front

-- the clauses of literals ls under a lead
abbrev pub led : Option ℤ → List (List ℤ) → List ℤ
led lead cs = flat (map (λ ls. front_of lead ++ ls) cs)

-- a comparison's clauses under a lead: one without further literals where the constant is below the least sum
unfoldable pub under_lead : Option ℤ → Comparison → List ℤ
under_lead lead c = led lead (if le_z (least_of c) c.constant then literals_of c else [] ∷ [])

pub clause-length : (ls : List ℤ) → length (clause ls) ≡ length ls + 1
unfolding clause
clause-length ls = length-append ls (pos 0 ∷ [])

-- where the constant is below the least sum, and where it is not
pub under_low : (lead : Option ℤ) (c : Comparison) → c.constant <ℤ least_of c → under_lead lead c ≡ led lead ([] ∷ [])
unfolding under_lead
under_low lead c h = ap (λ b. led lead (if b then literals_of c else [] ∷ [])) (gt_test _ _ h)

pub under-high : (lead : Option ℤ) (c : Comparison) → least_of c ≤ℤ c.constant → under_lead lead c ≡ led lead (literals_of c)
unfolding under_lead
under-high lead c h = ap (λ b. led lead (if b then literals_of c else [] ∷ [])) (le_test _ _ h)

pub led_none : (lead : Option ℤ) → led lead [] ≡ []
unfolding flat flatten
led_none lead = refl

pub led-more : (lead : Option ℤ) (ls : List ℤ) (cs : List (List ℤ)) → led lead (ls ∷ cs) ≡ clause (front_of lead ++ ls) ++ led lead cs
unfolding flat flatten
led-more lead ls cs = refl

pub numbers-append : (B : Board) (cs ds : List SatClause) → numbers_of B (cs ++ ds) ≡ numbers_of B cs ++ numbers_of B ds
unfolding numbers_of
numbers-append B cs ds = ap flatten (map-append _ cs ds) ∙ flatten-append (map _ cs) (map _ ds)

numbers-flat : (B : Board) (cs : List SatClause) → numbers_of B cs ≡ flat (map (map (literal_number B)) cs)
unfolding numbers_of flat clause
numbers-flat B cs = ap flatten (sym (map-map (λ ls. ls ++ (pos 0 ∷ [])) (map (literal_number B)) cs))

-- they are those of a board's comparison
pub under_is : (B : Board) (q : board.Comparison) (c : Comparison) (lead : Option ℤ) (ls : SatClause) → Shows B q c → map (literal_number B) ls ≡ front_of lead
    → under_lead lead c ≡ numbers_of B (clauses_under ls (bounds_of B) q)
unfolding under_lead clauses_under
under_is B q c lead ls h e =
    ap₂ (λ l k. led lead (if le_z l k then literals_of c else [] ∷ [])) (shows_least B q c h) h.constant
    ∙ ap flat (go (le_z (least (bounds_of B) q.terms) q.constant))
    ∙ sym (numbers-flat B _)
  where
    bss : List (List ℤ)
    bss = tuples_of (bounds_of B) q

    num : SatClause → List ℤ
    num = map (literal_number B)

    behind : (l : SatClause) → front_of lead ++ num l ≡ num (ls ++ l)
    behind l = ap (λ z. z ++ num l) (sym e) ∙ sym (map-append (literal_number B) ls l)

    go : (b : Bool) → map (λ l. front_of lead ++ l) (if b then literals_of c else [] ∷ [])
        ≡ map num (if b then map (λ bs. ls ++ zip_with sharp q.terms bs) bss else ls ∷ [])
    go true =
        ap (map (λ l. front_of lead ++ l)) (shows_literals B q c h)
        ∙ map-map (λ l. front_of lead ++ l) (λ bs. num (zip_with sharp q.terms bs)) bss
        ∙ map_same _ _ bss (all_every _ (λ bs. behind (zip_with sharp q.terms bs)) bss)
        ∙ sym (map-map num (λ bs. ls ++ zip_with sharp q.terms bs) bss)
    go false = ap (λ l. l ∷ []) (append-nil (front_of lead) ∙ sym e)
