-- Words of bytes, and the texts that they hold.
use Rattle.std.specs.Prelude.{ℕ, ◌+◌, ◌*◌, ◌/◌, ◌%◌, ◌^◌, ◌≤◌, ◌≡◌, zero, suc, List, [], ◌∷◌, length, replicate}
use Rattle.tinystr_words.specs.Text.{IsText, pad, text_of}

-- the sum of `l[i] * 256 ^ i`
-- e.g. of 01 02 it is 0x0201
abbrev pub word : List ℕ → ℕ
word [] = 0
word (b ∷ rest) = b + 256 * word rest

-- the byte at place i of a word
-- e.g. lane 0x0201 1 is 2
abbrev pub lane : ℕ → ℕ → ℕ
lane w i = w / 256 ^ i % 256

-- no lane has its high bit set, so the sum of two such lanes fits in a lane
abbrev pub HasLowLanes : ℕ → Type 0
HasLowLanes w = (i : ℕ) → lane w i ≤ 0x7f

-- n lanes, a in the first and c in the others
abbrev pub first_then : ℕ → ℕ → ℕ → List ℕ
first_then zero a c = []
first_then (suc n) a c = a ∷ replicate n c

-- the lowest n lanes of a word
abbrev pub lanes_of : ℕ → ℕ → List ℕ
lanes_of zero w = []
lanes_of (suc n) w = (w % 256) ∷ lanes_of n (w / 256)

-- the text that the lowest n lanes of a word hold
unfoldable pub text_in : ℕ → ℕ → List ℕ
text_in n w = text_of (lanes_of n w)

-- a word is a text padded to n bytes
-- e.g. 0x6261 holds "ab" at 4
pub record HoldsText (n w : ℕ) : Type 0 where
  pub text : IsText (text_in n w)
  pub fits : length (text_in n w) ≤ n
  pub padded : w ≡ word (pad (text_in n w) n)
  pub low : HasLowLanes w
