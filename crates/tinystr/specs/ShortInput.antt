-- Short inputs: the bytes of a class, and texts with letters in one case and one byte replaced by another.
use Rattle.std.specs.Prelude.{ℕ, ◌==◌, if◌then◌else◌, Bool, List, [], ◌∷◌, bit_and, map}
use Rattle.std.specs.Simd.Lanes.{mask_l}
use Rattle.tinystr_words.specs.Case.{lower, raise}

-- a number with a bit for each byte: the lowest is the first byte's, and a bit is 1 where the byte is of the class
-- e.g. of is_alphabetic and "a-b" it is 5
abbrev pub bits_of : (ℕ → Bool) → List ℕ → ℕ
bits_of class u = mask_l (map class u)

-- a byte that has the bit 0x20, which lowercase letters have and uppercase letters lack
abbrev pub has_lowercase_bit : ℕ → Bool
has_lowercase_bit m = bit_and m 0x20 == 0x20

-- the byte `to` for the byte `from`, and letters in lowercase
-- e.g. from _ to -, of A it is a, and of _ it is -
abbrev pub lower_but : ℕ → ℕ → ℕ → ℕ
lower_but from to b = if b == from then to else lower b

-- the byte `to` for the byte `from`, and letters in uppercase
abbrev pub upper_but : ℕ → ℕ → ℕ → ℕ
upper_but from to b = if b == from then to else raise b

-- each letter is in the case of the example's byte at its place, and in lowercase past the example
-- e.g. by "aaA", from _ to -, of "B_aB" it is "b-Ab"
abbrev pub in_case_of : List ℕ → ℕ → ℕ → List ℕ → List ℕ
in_case_of e from to [] = []
in_case_of [] from to (b ∷ u) = lower_but from to b ∷ in_case_of [] from to u
in_case_of (m ∷ e) from to (b ∷ u) = (if has_lowercase_bit m then lower_but from to b else upper_but from to b) ∷ in_case_of e from to u
