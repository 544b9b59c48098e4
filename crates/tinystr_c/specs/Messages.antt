-- The texts of the codes.
use Rattle.std.specs.Prelude.{ℕ, ◌==◌, nat_le, if◌then◌else◌, List, length, codes}
use Rattle.tinystr_words.specs.Text.{pad}
use Rattle.tinystr_c.specs.Codes.{OK, TOO_LONG, NUL, NON_ASCII, INVALID_LANGUAGE, INVALID_SUBTAG, NO_ROOM, BAD_ARGUMENT, BAD_LENGTH, NOT_RISING, BAD_VALUES, NOT_FOUND, BAD_HEADER, BAD_VERSION, BAD_INDEX, MISPLACED, DUPLICATE, success, failure}
use Rattle.tinystr_c.specs.declared.answer.TinystrResult.{TinystrResult}

abbrev pub message : ℕ → List ℕ
message k =
    if k == OK then codes "the call succeeded" else (
    if k == TOO_LONG then codes "a text has more bytes than the capacity" else (
    if k == NUL then codes "a text has a NUL" else (
    if k == NON_ASCII then codes "a byte is above 127" else (
    if k == INVALID_LANGUAGE then codes "the first subtag isn't a language" else (
    if k == INVALID_SUBTAG then codes "a later subtag isn't accepted" else (
    if k == NO_ROOM then codes "`out` or `scratch` is too short" else (
    if k == BAD_ARGUMENT then codes "there is no such capacity, size, question or case" else (
    if k == BAD_LENGTH then codes "the capacity doesn't divide the number of bytes" else (
    if k == NOT_RISING then codes "a text isn't above the one before it" else (
    if k == BAD_VALUES then codes "the values aren't one for each key" else (
    if k == NOT_FOUND then codes "no record has the text" else (
    if k == BAD_HEADER then codes "a hashed table ends before its header does" else (
    if k == BAD_VERSION then codes "the version of a hashed table isn't 1" else (
    if k == BAD_INDEX then codes "a hashed table ends before its records" else (
    if k == MISPLACED then codes "a text of a hashed table isn't at its place" else (
    if k == DUPLICATE then codes "a text occurs twice" else (
    codes "there is no such code")))))))))))))))))

-- the length of the text of a code, and whether it is at most `len`
-- e.g. of 0 and 18 it is success 18
abbrev pub message_answer : ℕ → ℕ → TinystrResult
message_answer k len = if nat_le (length (message k)) len then success (length (message k)) else failure NO_ROOM (length (message k))

-- what `out` has then: the text and NULs, or what it had
abbrev pub message_bytes : ℕ → List ℕ → List ℕ
message_bytes k old = if nat_le (length (message k)) (length old) then pad (message k) (length old) else old
