-- What a strict reader answers.
use Rattle.std.specs.Prelude.{◌≡◌, ℕ, List, Result, Ok, Err, IsOk, IfOk, IfErr, ◌↔◌, if◌then◌else◌}
use Rattle.std.specs.Result.{result_ok}
use Rattle.tinystr_words.specs.Text.{IsStrictText, is_padded_text, is_strict_text, text_of}
use Rattle.tinystr_words.specs.Reading.{Fault, fault_in, strict_of}
use Rattle.tinystr.specs.Error.{parse_error_of}
use Rattle.tinystr.specs.declared.error.ParseError.{ParseError}

-- the code units where they are a text of at most n bytes, and else the error that names their fault
-- e.g. of "abc" at 2 it is Err (TooLong 2 3)
abbrev pub read_of : ℕ → List ℕ → Result (List ℕ) ParseError
read_of n units = if is_strict_text units n then Ok units else Err (parse_error_of (fault_in n units))

-- the text of n bytes where they are a text and then NULs, and else the error that names their fault
-- e.g. of 61 00 at 2 it is Ok "a"
abbrev pub read_raw_of : ℕ → List ℕ → Result (List ℕ) ParseError
read_raw_of n bytes = if is_padded_text bytes n then Ok (text_of bytes) else Err (parse_error_of (fault_in n bytes))

-- a text exactly where the code units are one that fits, and else the fault of the code units; `value` and `read` say
-- so by functions
-- e.g. of "ab" it is Ok "ab" at 2, and Err (TooLong 1 2) at 1
pub record IsStrictRead (fault_of : ParseError → Fault) (units : List ℕ) (n : ℕ) (r : Result (List ℕ) ParseError) : Type 0 where
  pub accepted : IsOk r ↔ IsStrictText units n
  pub text : IfOk r (λ t. t ≡ units)
  pub fault : IfErr r (λ e. fault_of e ≡ fault_in n units)
  pub value : result_ok r ≡ strict_of n units
  pub read : r ≡ read_of n units
