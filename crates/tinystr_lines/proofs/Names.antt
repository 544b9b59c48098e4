-- A field names what it names among the names as long as it.
use Rattle.std.proofs.Common.{◌≡◌, ℕ, if◌then◌else◌, eqb, List, [], ◌∷◌, length, refl, arith}
use Rattle.std.proofs.lemmas.Bool.Decides.{nat_tests}
use Rattle.std.proofs.lemmas.Slice.Eq.{bytes_eq-Decides}
use Rattle.tinystr_lines.specs.declared.command.Command.{Command}
use Rattle.tinystr_lines.specs.Reply.{named, commands, command_of}

-- the rows of a table whose name is n bytes long
abbrev pub of_length : ℕ → List (List ℕ × Command) → List (List ℕ × Command)
of_length n [] = []
of_length n (row ∷ rows) = if eqb (length row.0) n then row ∷ of_length n rows else of_length n rows

pub named-of_length : (table : List (List ℕ × Command)) (field : List ℕ) → named table field ≡ named (of_length (length field) table) field
named-of_length [] field = refl
named-of_length (row ∷ rows) field =
    let decides = bytes_eq-Decides field row.0 in
    let more = named-of_length rows field in
    grind (arith, nat_tests, decides, more)

-- the command that a field of n bytes names
pub command_of-of_length : (n : ℕ) (field : List ℕ) → length field ≡ n → command_of field ≡ named (of_length n commands) field
unfolding command_of
command_of-of_length n field long = rw (← long) (named-of_length commands field)
