-- Case changes of bytes and of texts.
use Rattle.std.specs.Prelude.{ℕ, ◌+◌, ◌-◌, if◌then◌else◌, List, [], ◌∷◌, map}
use Rattle.tinystr_words.specs.Classes.{is_upper, is_lower}

-- an uppercase letter in lowercase, any other byte as it is
-- e.g. lower A is a, lower 1 is 1
abbrev pub lower : ℕ → ℕ
lower b = if is_upper b then b + 0x20 else b

-- a lowercase letter in uppercase, any other byte as it is
-- e.g. raise a is A, raise 1 is 1
abbrev pub raise : ℕ → ℕ
raise b = if is_lower b then b - 0x20 else b

-- a text in lowercase
-- e.g. of "tesT" it is "test"
abbrev pub lowercase : List ℕ → List ℕ
lowercase t = map lower t

-- a text in uppercase
-- e.g. of "tesT" it is "TEST"
abbrev pub uppercase : List ℕ → List ℕ
uppercase t = map raise t

-- the first byte in uppercase, and the others in lowercase
-- e.g. of "tEsT" it is "Test"
abbrev pub titlecase : List ℕ → List ℕ
titlecase [] = []
titlecase (b ∷ t) = raise b ∷ map lower t
