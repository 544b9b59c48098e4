-- What the exports answer of texts, and what they write.
use Rattle.std.specs.Prelude.{ℕ, ◌-◌, ◌==◌, Bool, nat_lt, if◌then◌else◌, List, length, take, Option, Some, None, Result, Ok, Err}
use Rattle.std.specs.List.{suffix_len}
use Rattle.tinystr_words.specs.Questions.{ask_question, in_case}
use Rattle.tinystr_words.specs.Reading.{fault_in}
use Rattle.tinystr_words.specs.Text.{is_strict_text, pad}
use Rattle.tinystr_words.specs.declared.question.Question.{Question}
use Rattle.tinystr_words.specs.declared.question.Question.TheVariants.{Alphabetic, Alphanumeric, Numeric, Lowercase, Titlecase, Uppercase, AlphabeticLowercase, AlphabeticTitlecase, AlphabeticUppercase}
use Rattle.tinystr_words.specs.declared.question.Case.{Case}
use Rattle.tinystr_words.specs.declared.question.Case.TheVariants.{Lower, Title, Upper}
use Rattle.tinystr_c.specs.Codes.{success, bad_argument, fault_answer}
use Rattle.tinystr_c.specs.declared.answer.TinystrResult.{TinystrResult}

-- the bytes up to the last that isn't a NUL
-- e.g. of 61 00 62 00 00 they are 61 00 62
abbrev pub without_nuls : List ℕ → List ℕ
without_nuls bytes = take (length bytes - suffix_len (λ b. b == 0) bytes) bytes

-- ---- texts of a capacity, which is at most 16: the capacity is checked before the text

-- the length of the text, or why it is none
-- e.g. of "ab" at 1 it is failure TOO_LONG 2
abbrev pub read_answer : List ℕ → ℕ → TinystrResult
read_answer u capacity =
    if nat_lt 16 capacity
    then bad_argument capacity
    else (if is_strict_text u capacity then success (length u) else fault_answer (fault_in capacity u) u)

-- what `out` has then: the text and NULs, or what it had
-- e.g. of "ab", 4 bytes are 61 62 00 00
abbrev pub read_bytes : List ℕ → List ℕ → List ℕ
read_bytes u old =
    if nat_lt 16 (length old)
    then old
    else (if is_strict_text u (length old) then pad u (length old) else old)

-- ---- texts of at most 16 bytes, which may have NULs after them

-- in the order of their numbers
abbrev pub question_of : ℕ → Option Question
question_of k =
    if k == 0 then Some Alphabetic else (if k == 1 then Some Alphanumeric else (if k == 2 then Some Numeric else
    (if k == 3 then Some Lowercase else (if k == 4 then Some Titlecase else (if k == 5 then Some Uppercase else
    (if k == 6 then Some AlphabeticLowercase else (if k == 7 then Some AlphabeticTitlecase else
    (if k == 8 then Some AlphabeticUppercase else None))))))))

abbrev pub case_of : ℕ → Option Case
case_of k = if k == 0 then Some Lower else (if k == 1 then Some Title else (if k == 2 then Some Upper else None))

-- the text, or why there is none
abbrev pub text_read : List ℕ → Result (List ℕ) TinystrResult
text_read u = if is_strict_text u 16 then Ok u else Err (fault_answer (fault_in 16 u) u)

abbrev pub padded_read : List ℕ → Result (List ℕ) TinystrResult
padded_read bytes = text_read (without_nuls bytes)

abbrev pub yes_or_no : Bool → TinystrResult
yes_or_no b = if b then success 1 else success 0

-- the question is checked before the text
abbrev pub asked : Option Question → Result (List ℕ) TinystrResult → ℕ → TinystrResult
asked None r k = bad_argument k
asked (Some q) (Err r) k = r
asked (Some q) (Ok t) k = yes_or_no (ask_question q t)

-- the answer to the question of number k
-- e.g. of 61 62 00 and 0 it is success 1
abbrev pub ask_answer : List ℕ → ℕ → TinystrResult
ask_answer bytes k = asked (question_of k) (padded_read bytes) k

-- the case is checked before the text
abbrev pub changed : Option Case → Result (List ℕ) TinystrResult → ℕ → TinystrResult
changed None r k = bad_argument k
changed (Some c) (Err r) k = r
changed (Some c) (Ok t) k = success (length t)

-- the length of the text, or why there is no case or no text
-- e.g. of 61 62 00 and 2 it is success 2
abbrev pub case_answer : List ℕ → ℕ → TinystrResult
case_answer bytes k = changed (case_of k) (padded_read bytes) k

abbrev pub changed_bytes : Option Case → Result (List ℕ) TinystrResult → List ℕ → List ℕ
changed_bytes None r old = old
changed_bytes (Some c) (Err r) old = old
changed_bytes (Some c) (Ok t) old = pad (in_case c t) (length old)

-- what the bytes are then: the text in the case and NULs, or what they were
-- e.g. of 61 62 00 and 2 they are 41 42 00
abbrev pub case_bytes : List ℕ → ℕ → List ℕ
case_bytes old k = changed_bytes (case_of k) (padded_read old) old
