-- Classes of bytes, and questions about texts.
use Rattle.std.specs.Prelude.{ℕ, Bool, true, ◌&&◌, ◌||◌, not, List, [], ◌∷◌}
use Rattle.std.specs.Int.{is_in_range}
use Rattle.std.specs.List.{list_all}

-- A to Z
abbrev pub is_upper : ℕ → Bool
is_upper b = is_in_range 0x41 0x5A b

-- a to z
abbrev pub is_lower : ℕ → Bool
is_lower b = is_in_range 0x61 0x7A b

-- 0 to 9
abbrev pub is_digit : ℕ → Bool
is_digit b = is_in_range 0x30 0x39 b

-- a letter
abbrev pub is_alphabetic : ℕ → Bool
is_alphabetic b = is_upper b || is_lower b

-- a letter or a digit
abbrev pub is_alphanumeric : ℕ → Bool
is_alphanumeric b = is_alphabetic b || is_digit b

-- any byte but A to Z
abbrev pub is_not_upper : ℕ → Bool
is_not_upper b = not (is_upper b)

-- any byte but a to z
abbrev pub is_not_lower : ℕ → Bool
is_not_lower b = not (is_lower b)

-- whether the first byte is in one class and each later one in another; the empty text passes
-- e.g. ask is_upper is_lower is true of "Ab" and "", and false of "AB"
abbrev pub ask : (ℕ → Bool) → (ℕ → Bool) → List ℕ → Bool
ask first others [] = true
ask first others (b ∷ t) = first b && list_all others t
