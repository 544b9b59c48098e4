-- The forms of a text in JSON and in bytes, what a refusal to read or to write one says, and what bytes print as.
use Rattle.std.specs.Prelude.{◌≡◌, ℕ, List, None, IsSomeAnd, Option, Some, if◌then◌else◌}
use Rattle.std.specs.Fmt.{decimal, debug_str, debug_list}
use Rattle.serde_json.specs.Data.{Data, string}
use Rattle.serde_json.specs.Find.{as_str}
use Rattle.tinystr_words.specs.Text.{IsStrictText, IsPaddedText, text_of, is_padded_text}
use Rattle.tinystr_words.specs.ByteForm.{ByteFault}
use Rattle.tinystr_words.specs.ByteForm.ByteFault.{too_short, null, non_ascii}
use Rattle.tinystr.specs.declared.forms.JsonReadError.{JsonReadError}
use Rattle.tinystr.specs.declared.forms.JsonReadError.TheVariants.{NotText, InvalidText}
use Rattle.tinystr.specs.declared.forms.BytesReadError.{BytesReadError}
use Rattle.tinystr.specs.declared.forms.BytesReadError.TheVariants.{Length, Null, NonAscii}
use Rattle.tinystr.specs.declared.forms.FormWriteError.{FormWriteError}
use Rattle.tinystr.specs.declared.forms.FormWriteError.TheVariants.{NotAscii, Memory}

-- the JSON form of a text: the string value whose characters are its bytes
abbrev pub json_form : List ℕ → Data
json_form t = string t

-- the value isn't a string, or it is a string that isn't a text of at most n bytes
-- e.g. NotText of the number 7, InvalidText of "euros" at 3
abbrev pub RefusesJson : JsonReadError → Data → ℕ → Type 0
RefusesJson NotText value n = as_str value ≡ None
RefusesJson InvalidText value n = IsSomeAnd (as_str value) (λ t. ¬ IsStrictText t n)

-- a reader's error, as the fault of the byte form that it names
-- e.g. of Length 4 it is too_short 4
abbrev pub byte_fault_of : BytesReadError → ByteFault
byte_fault_of (Length expected) = too_short expected
byte_fault_of Null = null
byte_fault_of NonAscii = non_ascii

-- the n bytes aren't a text and then NULs; of a failed allocation, only that they are
-- e.g. NotAscii of 61 00 62 at 3
abbrev pub RefusesWrite : FormWriteError → List ℕ → ℕ → Type 0
RefusesWrite NotAscii bytes n = ¬ IsPaddedText bytes n
RefusesWrite (Memory refused) bytes n = IsPaddedText bytes n

-- the library's debug form of the text where the n bytes are one, and else that of the list of bytes
-- e.g. at 2, of 61 00 it is "a" in its quotes, and of 00 61 it is [0, 97]
abbrev pub debug_bytes : List ℕ → ℕ → Option (List ℕ)
debug_bytes bytes n =
    if is_padded_text bytes n then debug_str (text_of bytes) else debug_list (λ b. Some (decimal b)) bytes
