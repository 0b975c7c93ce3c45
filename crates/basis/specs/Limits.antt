-- The paper's limits, each named once.
use Rattle.std.specs.Prelude.{ℕ, ◌+◌}

-- "A clause is a record of at most 12 variables, 24 atoms and 8 literals."
abbrev pub most_variables : ℕ
most_variables = 12

abbrev pub most_atoms : ℕ
most_atoms = 24

abbrev pub most_literals : ℕ
most_literals = 8

-- "At most 48 input and 48 learned clauses, 8 predicates of arity 0 to 3, 16 constants."
abbrev pub most_input : ℕ
most_input = 48

abbrev pub most_learned : ℕ
most_learned = 48

-- "Learned clauses are numbered after the input ones": one table for both.
abbrev pub most_clauses : ℕ
most_clauses = most_input + most_learned

abbrev pub most_predicates : ℕ
most_predicates = 8

abbrev pub most_arguments : ℕ
most_arguments = 3

abbrev pub most_constants : ℕ
most_constants = 16

-- "The trail holds at most 160 entries of both kinds together."
abbrev pub most_entries : ℕ
most_entries = 160

-- "A Decide step ends with a count (at most 24) of atoms": as many as a clause may have, so that one record serves the atoms of either.
abbrev pub most_brought : ℕ
most_brought = 24

-- The constraint test takes the atoms of a full trail, and those of a full clause or of a full decision: 160 + 24.
abbrev pub most_tested : ℕ
most_tested = 184

-- "c is a signed 32-bit number from −1,000,000 to 1,000,000."
abbrev pub most_c : ℕ
most_c = 1000000

-- "The denial of p − q ≤ c is q − p ≤ −c − 1, so trail constants, and the test's, reach −1,000,001."
abbrev pub most_denied : ℕ
most_denied = 1000001

-- "Make the input clauses from up to 48 rows of key and result": of a lookup table. There is a clause for each row.
abbrev pub most_rows : ℕ
most_rows = 48
