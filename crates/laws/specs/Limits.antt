-- The bounds that counting goes by: each is generous, and named once. What a whole list may hold goes by the bytes of its record
-- (Fits.antt), so that no count of the record has to be multiplied here.
use Rattle.std.specs.Prelude.{ℕ, ◌^◌}

-- how far a comparison's constant may lie above its least sum
abbrev pub sums_limit : ℕ
sums_limit = 2 ^ 21

-- a comparison's tuples
abbrev pub tuples_limit : ℕ
tuples_limit = 2 ^ 41

-- a board's selectors
abbrev pub selectors_limit : ℕ
selectors_limit = 300000

-- the first number of a variable, or of the selectors
abbrev pub firsts_limit : ℕ
firsts_limit = 10000000

-- every variable's number, as a clause has it
abbrev pub numbers_limit : ℕ
numbers_limit = 20000000
