-- What the exports return: a value, or a code and its detail.
use Rattle.std.specs.Prelude.{ℕ, ◌==◌, min, nat_lt, List, length, position, Option, Some, None, unwrap_or, Result, Ok, Err}
use Rattle.tinystr.specs.Error.{fault_of}
use Rattle.tinystr.specs.declared.ule.UleError.{UleError}
use Rattle.tinystr.specs.declared.ule.UleError.TheVariants.{Length, Parse}
use Rattle.tinystr_hashed.specs.declared.table.HashedError.{HashedError}
use Rattle.tinystr_hashed.specs.declared.table.HashedError.TheVariants.{Header, Version, Index, Records, Place}
use Rattle.tinystr_packed.specs.declared.map.MapError.{MapError}
use Rattle.tinystr_packed.specs.declared.map.MapError.TheVariants.{Keys, Order, Values}
use Rattle.tinystr_words.specs.Reading.{Fault}
use Rattle.tinystr_words.specs.Reading.Fault.{too_long, contains_null, non_ascii}
use Rattle.tinystr_c.specs.declared.answer.TinystrResult.{TinystrResult}
use Rattle.tinystr_c.specs.declared.answer.TinystrRange.{TinystrRange}
use Rattle.tinystr_c.specs.declared.answer.TinystrParts.{TinystrParts}

abbrev pub VERSION : ℕ
VERSION = 300

-- ---- the codes

abbrev pub OK : ℕ
OK = 0

abbrev pub TOO_LONG : ℕ
TOO_LONG = 1

abbrev pub NUL : ℕ
NUL = 2

abbrev pub NON_ASCII : ℕ
NON_ASCII = 3

abbrev pub INVALID_LANGUAGE : ℕ
INVALID_LANGUAGE = 4

abbrev pub INVALID_SUBTAG : ℕ
INVALID_SUBTAG = 5

abbrev pub NO_ROOM : ℕ
NO_ROOM = 6

abbrev pub BAD_ARGUMENT : ℕ
BAD_ARGUMENT = 7

abbrev pub BAD_LENGTH : ℕ
BAD_LENGTH = 8

abbrev pub NOT_RISING : ℕ
NOT_RISING = 9

abbrev pub BAD_VALUES : ℕ
BAD_VALUES = 10

abbrev pub NOT_FOUND : ℕ
NOT_FOUND = 11

abbrev pub BAD_HEADER : ℕ
BAD_HEADER = 12

abbrev pub BAD_VERSION : ℕ
BAD_VERSION = 13

abbrev pub BAD_INDEX : ℕ
BAD_INDEX = 14

abbrev pub MISPLACED : ℕ
MISPLACED = 15

abbrev pub DUPLICATE : ℕ
DUPLICATE = 16

-- ---- and what is returned with them

-- the result of a call that succeeds
abbrev pub success : ℕ → TinystrResult
success value = record { value = value; code = OK; detail = 0 }

-- the greatest detail
abbrev pub MAX_DETAIL : ℕ
MAX_DETAIL = 4294967295

-- the result of any other call: a code, and an index, a number of bytes or records or a bad argument, where it is at most
-- MAX_DETAIL, else that
-- e.g. failure TOO_LONG 4294967296 has the detail 4294967295
abbrev pub failure : ℕ → ℕ → TinystrResult
failure code detail = record { value = 0; code = code; detail = min detail MAX_DETAIL }

-- a capacity, a size, a question or a case that there isn't
abbrev pub bad_argument : ℕ → TinystrResult
bad_argument argument = failure BAD_ARGUMENT argument

-- no records, with the code and the detail of a failure
abbrev pub no_range : TinystrResult → TinystrRange
no_range failed = record { start = 0; count = 0; code = failed.code; detail = failed.detail }

-- no subtags, with the code and the detail of a failure, and the index of a subtag
abbrev pub no_parts : TinystrResult → ℕ → TinystrParts
no_parts failed subtag = record { value = 0; code = failed.code; detail = failed.detail; subtag = subtag; language_len = 0; script_start = 0; script_len = 0; region_start = 0; region_len = 0 }

-- why code units aren't a text
abbrev pub fault_code : Fault → ℕ
fault_code (too_long max len) = TOO_LONG
fault_code contains_null = NUL
fault_code non_ascii = NON_ASCII

-- the index of the first NUL
abbrev pub first_nul : List ℕ → Option ℕ
first_nul u = position (λ b. b == 0) u

-- the index of the first byte above 127
abbrev pub first_non_ascii : List ℕ → Option ℕ
first_non_ascii u = position (λ b. nat_lt 127 b) u

-- why bytes aren't a text: their number, or the index of the first NUL or of the first byte above 127
-- e.g. of contains_null and 61 00 62 it is failure NUL 1
abbrev pub fault_answer : Fault → List ℕ → TinystrResult
fault_answer (too_long max len) u = failure TOO_LONG (length u)
fault_answer contains_null u = failure NUL (unwrap_or (first_nul u) 0)
fault_answer non_ascii u = failure NON_ASCII (unwrap_or (first_non_ascii u) 0)

-- why they aren't packed records: their number, or the index of the first bad record
-- e.g. of Length 3 it is failure BAD_LENGTH 3
abbrev pub records_answer : UleError → TinystrResult
records_answer (Length len) = failure BAD_LENGTH len
records_answer (Parse index fault) = failure (fault_code (fault_of fault)) index

-- why they aren't a packed map: the same of the keys, or the index of the first that isn't above the one before it, or the
-- number of the values' bytes
-- e.g. of Values 1 2 it is failure BAD_VALUES 2
abbrev pub map_answer : MapError → TinystrResult
map_answer (Keys fault) = records_answer fault
map_answer (Order fault) = failure NOT_RISING fault.index
map_answer (Values count len) = failure BAD_VALUES len

-- the index of a text, or where it is to be inserted
-- e.g. of Err 1 it is failure NOT_FOUND 1
abbrev pub search_answer : Result ℕ ℕ → TinystrResult
search_answer (Ok index) = success index
search_answer (Err place) = failure NOT_FOUND place

-- why they aren't a hashed table: their number, or the version, or the number of bytes of the pilots and the moves, or the
-- fault of the records, or the index of the first text that is out of order
-- e.g. of Header 3 it is failure BAD_HEADER 3
abbrev pub hashed_answer : HashedError → TinystrResult
hashed_answer (Header len) = failure BAD_HEADER len
hashed_answer (Version version) = failure BAD_VERSION version
hashed_answer (Index size len) = failure BAD_INDEX size
hashed_answer (Records fault) = records_answer fault
hashed_answer (Place index) = failure MISPLACED index

-- the index of a text, or that it isn't there
-- e.g. of None it is failure NOT_FOUND 0
abbrev pub position_answer : Option ℕ → TinystrResult
position_answer (Some index) = success index
position_answer None = failure NOT_FOUND 0
