-- What the fields of a line mean, what a line gets, and what is written for all lines.
use Rattle.std.specs.Prelude.{ℕ, List, [], ◌∷◌, Option, option_map, codes, ◌/◌, ◌%◌, Bool, true, false, not, ◌==◌, ◌++◌, length, None, Some, if◌then◌else◌, take}
use Rattle.std.specs.Str.{bytes_eq}
use Rattle.std.specs.List.{find, before_first, after_first, list_any, range_with_len, slice_split, flat_map}
use Rattle.std.specs.Option.{option_map_or}
use Rattle.std.specs.Fmt.{decimal}
use Rattle.std.specs.Io.KnownBytes.{Appends}
use Rattle.tinystr_words.specs.declared.question.Question.TheVariants.{Alphabetic, Alphanumeric, Numeric, Lowercase, Titlecase, Uppercase, AlphabeticLowercase, AlphabeticTitlecase, AlphabeticUppercase}
use Rattle.tinystr_words.specs.declared.question.Case.TheVariants.{Lower, Title, Upper}
use Rattle.tinystr_words.specs.Text.{is_strict_text, is_padded_text}
use Rattle.tinystr_words.specs.Packed.{record_at}
use Rattle.tinystr_words.specs.Reading.{Fault, fault_in, lossy}
use Rattle.tinystr_words.specs.Reading.Fault.{too_long, contains_null, non_ascii}
use Rattle.tinystr_words.specs.Questions.{ask_question, in_case}
use Rattle.subtags.specs.Grammar.{fold_text, subtags_of, is_lang_id, canonical_text}
use Rattle.subtags.specs.Answers.{refusal_of, message_of}
use Rattle.tinystr_lines.specs.declared.command.Command.{Command}
use Rattle.tinystr_lines.specs.declared.command.Command.TheVariants.{OnText, Lossy, Records, Locale}
use Rattle.tinystr_lines.specs.declared.command.TextCall.TheVariants.{Text, Len, Ask, Change}
use Rattle.tinystr_lines.specs.declared.command.TextCall.{TextCall}

-- what a field represents in a table
abbrev pub named : {A : Type 0} → List (List ℕ × A) → List ℕ → Option A
named {A} table field = option_map (λ row. row.1) (find (λ (row : List ℕ × A). bytes_eq field row.0) table)

-- each field that spells a capacity, and the capacity
abbrev pub capacities : List (List ℕ × ℕ)
capacities =
    (codes "0", 0) ∷
    (codes "1", 1) ∷
    (codes "2", 2) ∷
    (codes "3", 3) ∷
    (codes "4", 4) ∷
    (codes "5", 5) ∷
    (codes "8", 8) ∷
    (codes "9", 9) ∷
    (codes "16", 16) ∷
    (codes "17", 17) ∷
    (codes "32", 32) ∷ []

-- the capacity that a field spells
unfoldable pub capacity_of : List ℕ → Option ℕ
capacity_of field = named capacities field

-- each command, by the field that names it
abbrev pub commands : List (List ℕ × Command)
commands =
    (codes "text", OnText Text) ∷
    (codes "len", OnText Len) ∷
    (codes "alphabetic", OnText (Ask Alphabetic)) ∷
    (codes "alphanumeric", OnText (Ask Alphanumeric)) ∷
    (codes "numeric", OnText (Ask Numeric)) ∷
    (codes "lowercase", OnText (Ask Lowercase)) ∷
    (codes "titlecase", OnText (Ask Titlecase)) ∷
    (codes "uppercase", OnText (Ask Uppercase)) ∷
    (codes "alphabetic_lowercase", OnText (Ask AlphabeticLowercase)) ∷
    (codes "alphabetic_titlecase", OnText (Ask AlphabeticTitlecase)) ∷
    (codes "alphabetic_uppercase", OnText (Ask AlphabeticUppercase)) ∷
    (codes "lower", OnText (Change Lower)) ∷
    (codes "title", OnText (Change Title)) ∷
    (codes "upper", OnText (Change Upper)) ∷
    (codes "lossy", Lossy) ∷
    (codes "records", Records) ∷
    (codes "locale", Locale) ∷ []

-- the command that a field names
unfoldable pub command_of : List ℕ → Option Command
command_of field = named commands field

abbrev pub truth_text : Bool → List ℕ
truth_text true = codes "true"
truth_text false = codes "false"

abbrev pub fault_text : Fault → List ℕ
fault_text (too_long max len) = codes "too long " ++ decimal len ++ codes " > " ++ decimal max
fault_text contains_null = codes "contains null"
fault_text non_ascii = codes "non ascii"

-- what a call on a text gives
abbrev pub answer_of : TextCall → List ℕ → List ℕ
answer_of Text t = t
answer_of Len t = decimal (length t)
answer_of (Ask question) t = truth_text (ask_question question t)
answer_of (Change case) t = in_case case t

-- a call's answer where the code units are such a text, and else their fault
unfoldable pub call_reply : ℕ → TextCall → List ℕ → List ℕ
call_reply n call units =
    if is_strict_text units n then answer_of call units else fault_text (fault_in n units)

-- what replaces a code unit that isn't a character: `?`
abbrev pub replacement : ℕ
replacement = 63

-- the first record of n bytes that isn't a padded text
abbrev pub first_bad_record : ℕ → List ℕ → Option ℕ
first_bad_record n bytes = find (λ i. not (is_padded_text (record_at n bytes i) n)) (range_with_len 0 (length bytes / n))

abbrev pub bad_index_text : ℕ → List ℕ
bad_index_text i = codes "bad record " ++ decimal i ++ codes " "

-- the number of records, or which is the first bad one, and its fault
abbrev pub checked_reply : ℕ → List ℕ → Option ℕ → List ℕ
checked_reply n bytes None = codes "ok " ++ decimal (length bytes / n)
checked_reply n bytes (Some i) = bad_index_text i ++ fault_text (fault_in n (record_at n bytes i))

-- whether the bytes are packed records; their length is tested before any record
unfoldable pub records_reply : ℕ → List ℕ → List ℕ
records_reply n bytes =
    if n == 0 then codes "bad capacity"
    else (if length bytes % n == 0 then checked_reply n bytes (first_bad_record n bytes)
    else codes "bad length " ++ decimal (length bytes))

-- the canonical text of a language identifier, or its refusal
unfoldable pub locale_reply : List ℕ → List ℕ
locale_reply units =
    if is_lang_id (subtags_of (fold_text units)) then canonical_text units else message_of (refusal_of units)

-- the reply of a command to code units at capacity n
abbrev pub command_reply : ℕ → List ℕ → Command → List ℕ
command_reply n units (OnText call) = call_reply n call units
command_reply n units Lossy = lossy units replacement n
command_reply n units Records = records_reply n units
command_reply n units Locale = locale_reply units

-- the reply at capacity n to a command's field and the code units
abbrev pub reply_at : ℕ → List ℕ → List ℕ → List ℕ
reply_at n field units =
    option_map_or (command_reply n units) (command_of field) (codes "bad command")

-- the reply to the fields of a line: its capacity is tested before its command
unfoldable pub fields_reply : List ℕ → List ℕ → List ℕ → List ℕ
fields_reply capacity field units =
    option_map_or (λ n. reply_at n field units) (capacity_of capacity) (codes "bad capacity")

abbrev pub is_space : ℕ → Bool
is_space b = b == 32

-- the reply to a line: its capacity ends at its first space, its command at the second or at the end, and the code
-- units are all that follow
-- e.g. of "8 titlecase 001z" it is "true"
unfoldable pub reply : List ℕ → List ℕ
reply line =
    let rest = after_first is_space line in
    if list_any is_space line
    then fields_reply (before_first is_space line) (before_first is_space rest) (after_first is_space rest)
    else codes "bad line"

abbrev pub is_line_feed : ℕ → Bool
is_line_feed b = b == 10

-- the pieces, without the last where that is empty
abbrev pub without_empty_last : List (List ℕ) → List (List ℕ)
without_empty_last [] = []
without_empty_last (piece ∷ []) = if length piece == 0 then [] else piece ∷ []
without_empty_last (piece ∷ next ∷ more) = piece ∷ without_empty_last (next ∷ more)

-- the pieces between line feeds, the last piece only if it isn't empty
-- e.g. of "a", a line feed and "b" they are "a" and "b"
abbrev pub lines_of : List ℕ → List (List ℕ)
lines_of input = without_empty_last (slice_split is_line_feed input)

-- the reply to a line, and a line feed
unfoldable pub reply_line : List ℕ → List ℕ
reply_line line = reply line ++ 10 ∷ []

-- the replies to the lines, in order, each followed by a line feed
-- e.g. of "4 lower tEsT" and a line feed it is "test" and a line feed
unfoldable pub output_of : List ℕ → List ℕ
output_of input = flat_map reply_line (lines_of input)

-- what a writer holds grows by a beginning of the bytes; where what it holds isn't known, nothing is said
-- e.g. from "a" to "ab" by "bc"
abbrev pub AppendsBeginning : Option (List ℕ) → Option (List ℕ) → List ℕ → Type 0
AppendsBeginning old new bytes = (n : ℕ) × Appends old new (take n bytes)
