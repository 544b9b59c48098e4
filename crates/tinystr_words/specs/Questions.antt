-- What each question means for a text, and what each case makes of it.
use Rattle.std.specs.Prelude.{ℕ, Bool, List}
use Rattle.tinystr_words.specs.declared.question.Question.{Question}
use Rattle.tinystr_words.specs.declared.question.Question.TheVariants.{Alphabetic, Alphanumeric, Numeric, Lowercase, Titlecase, Uppercase, AlphabeticLowercase, AlphabeticTitlecase, AlphabeticUppercase}
use Rattle.tinystr_words.specs.declared.question.Case.{Case}
use Rattle.tinystr_words.specs.declared.question.Case.TheVariants.{Lower, Title, Upper}
use Rattle.tinystr_words.specs.Classes.{is_upper, is_lower, is_digit, is_alphabetic, is_alphanumeric, is_not_upper, is_not_lower, ask}
use Rattle.tinystr_words.specs.Case.{lowercase, titlecase, uppercase}

-- the class of the first byte
abbrev pub first_class : Question → ℕ → Bool
first_class Alphabetic = is_alphabetic
first_class Alphanumeric = is_alphanumeric
first_class Numeric = is_digit
first_class Lowercase = is_not_upper
first_class Titlecase = is_not_lower
first_class Uppercase = is_not_lower
first_class AlphabeticLowercase = is_lower
first_class AlphabeticTitlecase = is_upper
first_class AlphabeticUppercase = is_upper

-- the class of each later byte
abbrev pub later_class : Question → ℕ → Bool
later_class Alphabetic = is_alphabetic
later_class Alphanumeric = is_alphanumeric
later_class Numeric = is_digit
later_class Lowercase = is_not_upper
later_class Titlecase = is_not_upper
later_class Uppercase = is_not_lower
later_class AlphabeticLowercase = is_lower
later_class AlphabeticTitlecase = is_lower
later_class AlphabeticUppercase = is_upper

-- the answer to a question about a text
-- e.g. ask_question Titlecase is true of "Ab", and false of "AB"
abbrev pub ask_question : Question → List ℕ → Bool
ask_question q t = ask (first_class q) (later_class q) t

-- the question about the remainder of a text, which has no first byte of its own
-- e.g. Lowercase for Titlecase, Numeric for Numeric
abbrev pub later_question : Question → Question
later_question Titlecase = Lowercase
later_question AlphabeticTitlecase = AlphabeticLowercase
later_question q = q

-- a text in a case
-- e.g. in_case Title "tEsT" is "Test"
abbrev pub in_case : Case → List ℕ → List ℕ
in_case Lower t = lowercase t
in_case Title t = titlecase t
in_case Upper t = uppercase t

-- the case of the remainder of a text
-- e.g. Lower for Title, Upper for Upper
abbrev pub later_case : Case → Case
later_case Title = Lower
later_case c = c
