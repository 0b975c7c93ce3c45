-- The versions of the run file, and what depends on them: one record, which whoever reads a step is handed.
use Rattle.std.specs.Prelude.{true, false, ℕ}
use Rattle.basis.specs.declared.Form.{Form}
use Rattle.basis.specs.declared.Version.{Version}
use Rattle.basis.specs.declared.Version.TheVariants.{One, Two}

-- The number that a file has for its version
abbrev pub version_number : Version → ℕ
version_number One = 1
version_number Two = 2

-- "File version 2: a Decide step ends with a count of atoms." "Version 1 decisions bring none."
abbrev pub form_of : Version → Form
form_of One = record { brings = false }
form_of Two = record { brings = true }
