-- Texts packed as a hashed table in memory of the caller.
use Rattle.std.specs.Prelude.{◌≡◌, ℕ, ◌+◌, ◌*◌, ◌<◌, ◌≤◌, List, length, take, Contains}
use Rattle.std.specs.List.{IsDistinct}
use Rattle.std.specs.Str.{bytes_eq}
use Rattle.tinystr_packed.specs.Rising.{text_at}
use Rattle.tinystr_hashed.specs.Packing.{ArePackedHashed}
use Rattle.tinystr_hashed.specs.declared.packing_into.PackIntoError.{PackIntoError}
use Rattle.tinystr_hashed.specs.declared.packing_into.PackIntoError.TheVariants.{Out, Scratch, Duplicate}

-- how many bytes the table of so many texts has at most
abbrev pub most_bytes : ℕ → ℕ → ℕ
most_bytes count n = 80 + count * (n + 3)

-- how many bytes of scratch it takes to make it
abbrev pub scratch_bytes : ℕ → ℕ → ℕ
scratch_bytes count n = 512 + count * (n + 40)

-- the text at an index is the first that is equal to one before it
pub record IsFirstRepeat (texts : List (List ℕ)) (i : ℕ) : Type 0 where
  pub inside : i < length texts
  pub before : IsDistinct bytes_eq (take i texts)
  pub repeats : Contains (take i texts) (text_at texts i)

-- there is room, and the first `len` bytes of `out` are a table of the texts
pub record ArePackedInto (len : ℕ) (texts : List (List ℕ)) (old new : List ℕ) (room n : ℕ) : Type 0 where
  pub out : most_bytes (length texts) n ≤ length old
  pub scratch : scratch_bytes (length texts) n ≤ room
  pub inside : len ≤ length old
  pub packed : ArePackedHashed texts (take len new) n

-- what is checked, in this order: the length of `out`, and that of the scratch, either of which leaves `out` as it was; and that
-- no text occurs twice
abbrev pub RefusesToPackInto : PackIntoError → List (List ℕ) → List ℕ → List ℕ → ℕ → ℕ → Type 0
RefusesToPackInto Out texts old new room n = (length old < most_bytes (length texts) n) × (new ≡ old)
RefusesToPackInto Scratch texts old new room n =
    (most_bytes (length texts) n ≤ length old) × (room < scratch_bytes (length texts) n) × (new ≡ old)
RefusesToPackInto (Duplicate index) texts old new room n =
    (most_bytes (length texts) n ≤ length old) × (scratch_bytes (length texts) n ≤ room) × IsFirstRepeat texts index
