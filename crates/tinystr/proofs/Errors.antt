-- What readers accept and refuse; arrays in another case, and records.
use Rattle.std.proofs.Common.{◌≡◌, ◌+◌, ◌<◌, length, drop, get_or, true, false, ◌≢◌, ◌%◌, ◌≤◌, ℕ, inl, inr, sym, ◌∙◌, ◌↔◌, Bool, List, refl, if◌then◌else◌}
use Rattle.tinystr_words.specs.Reading.{Fault}
use Rattle.tinystr_words.specs.Questions.{in_case}
use Rattle.tinystr_words.specs.declared.question.Case.{Case}
use Rattle.tinystr_words.specs.Text.{pad, IsPaddedText, text_of}
use Rattle.tinystr_words.proofs.Reading.Decided.{is_padded_text-Decides, is_strict_text-Decides, result_ok-strict_of}
use Rattle.tinystr_words.specs.Reading.Fault.{too_long, contains_null, non_ascii}
use Rattle.tinystr.specs.Error.{fault_of, parse_error_of}
use Rattle.tinystr.specs.declared.error.ParseError.{ParseError}
use Rattle.tinystr.specs.declared.error.ParseError.TheVariants.{TooLong, ContainsNull, NonAscii}
use Rattle.std.proofs.lemmas.Bool.Decides.{nat_tests}
use Rattle.std.proofs.lemmas.List.{take_all, length-drop, get_or-map, length-map, map-id}
use Rattle.tinystr_words.proofs.Order.OfPadded.{cmp-IsPaddedText}
use Rattle.tinystr_words.proofs.Pieces.PaddedWords.{IsPaddedText-in_case}
use Rattle.tinystr_words.proofs.Reading.Records.{IsChecked, IsPacked-length, IsChecked-some, IsChecked-more, IsFirstUnpadded-next, IsFirstUnpadded-some, AllPadded-checked, fault_in-next}
use Rattle.std.proofs.lemmas.Bool.{cases_lt}
use Rattle.std.proofs.Math.Nat.{mod-eq_of_lt}
use Rattle.tinystr_words.proofs.Reading.OnePass.{first_fault-high, first_fault-late, first_fault-none, fault_in-long, fault_in-fits}

-- an error is the one that names its fault
pub parse_error_of-fault_of : (e : ParseError) → parse_error_of (fault_of e) ≡ e
parse_error_of-fault_of (TooLong max len) = refl
parse_error_of-fault_of ContainsNull = refl
parse_error_of-fault_of NonAscii = refl

-- and a fault is the one that its error names
pub fault_of-parse_error_of : (f : Fault) → fault_of (parse_error_of f) ≡ f
fault_of-parse_error_of (too_long max len) = refl
fault_of-parse_error_of contains_null = refl
fault_of-parse_error_of non_ascii = refl

-- for a pass that looks for the first fault of code units
pub ruleset scan_steps = (nat_tests, get_or-map, length-map, first_fault-high, first_fault-late, first_fault-none, fault_in-long, fault_in-fits)

-- for what a reader accepts and refuses, which a test decides
pub ruleset strict_read = (map-id, is_strict_text-Decides, parse_error_of-fault_of)

pub ruleset padded_read = (is_padded_text-Decides, parse_error_of-fault_of)

-- ---- arrays, and records

pub ruleset padded_order = cmp-IsPaddedText

-- an array in another case is that of its text
pub cased : (c : Case) (l made : List ℕ) (n : ℕ) → IsPaddedText l n → made ≡ pad (in_case c (text_of l)) n → (made ≡ pad (in_case c (text_of l)) n) × IsPaddedText made n × (text_of made ≡ in_case c (text_of l))
cased c l made n p is = let all = IsPaddedText-in_case c l made n p is in (is, all.0, all.1)

-- a length that n divides is 0, or at least n
pub le_from_divides : (len n : ℕ) → len % n ≡ 0 → len ≢ 0 → n ≤ len
le_from_divides len n whole some = elim (cases_lt len n) [
  | inl less ↦ absurd (some (sym (mod-eq_of_lt less) ∙ whole))
  | inr fits ↦ fits
]

pub ruleset record_lists = (le_from_divides, IsPacked-length)

pub ruleset checked_records = (IsChecked-some, IsFirstUnpadded-next, IsFirstUnpadded-some, fault_in-next)
