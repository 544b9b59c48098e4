-- Texts, and the arrays that hold them.
use Rattle.std.specs.Prelude.{◌≡◌, ℕ, ◌-◌, ◌<◌, ◌≤◌, ◌==◌, ◌&&◌, nat_lt, nat_le, Bool, List, ◌++◌, length, replicate, All}
use Rattle.std.specs.List.{before_first, list_all}
use Rattle.std.specs.Str.{bytes_eq}

-- a byte of a text
-- e.g. 127, but neither 0 nor 128
abbrev pub IsTextByte : ℕ → Type 0
IsTextByte b = (0 < b) × (b < 128)

-- a text is a list of bytes, each from 1 to 127
-- e.g. "" and "ab", but not 61 00 62
abbrev pub IsText : List ℕ → Type 0
IsText t = All IsTextByte t

-- a text of at most n bytes: what a value holds, and what a strict reader takes
-- e.g. "ab" at 2, but not at 1
pub record IsStrictText (t : List ℕ) (n : ℕ) : Type 0 where
  pub text : IsText t
  pub fits : length t ≤ n

-- a text and then NULs, up to n bytes
-- e.g. pad "ab" 4 is 61 62 00 00
abbrev pub pad : List ℕ → ℕ → List ℕ
pad t n = t ++ replicate (n - length t) 0

-- the bytes before the first NUL
-- e.g. of 61 00 62 it is "a"
abbrev pub text_of : List ℕ → List ℕ
text_of bytes = before_first (λ b. b == 0) bytes

-- the n bytes are a text and then NULs
-- e.g. 61 62 00 00 at 4, but not 61 00 62 00
pub record IsPaddedText (bytes : List ℕ) (n : ℕ) : Type 0 where
  pub text : IsText (text_of bytes)
  pub fits : length (text_of bytes) ≤ n
  pub padded : bytes ≡ pad (text_of bytes) n

-- all of the bytes are a text and then NULs
-- e.g. 61 00
abbrev pub IsPadded : List ℕ → Type 0
IsPadded bytes = IsPaddedText bytes (length bytes)

-- ---- the same facts, as tests that compute: the law tests_decide proves that they agree

abbrev pub is_text_byte : ℕ → Bool
is_text_byte b = nat_lt 0 b && nat_lt b 128

abbrev pub is_strict_text : List ℕ → ℕ → Bool
is_strict_text t n = nat_le (length t) n && list_all is_text_byte t

abbrev pub is_padded_text : List ℕ → ℕ → Bool
is_padded_text bytes n = is_strict_text (text_of bytes) n && bytes_eq bytes (pad (text_of bytes) n)
