-- What a refusal of packed records says.
use Rattle.std.specs.Prelude.{◌≡◌, ◌≢◌, ℕ, ◌%◌, List, length}
use Rattle.tinystr_words.specs.Reading.{fault_in}
use Rattle.tinystr_words.specs.Packed.{record_at, IsFirstBad}
use Rattle.tinystr.specs.Error.{fault_of}
use Rattle.tinystr.specs.declared.ule.UleError.{UleError}
use Rattle.tinystr.specs.declared.ule.UleError.TheVariants.{Length, Parse}

-- the length isn't divisible by n, or it is, and this is the first bad record and its own fault
-- e.g. at 2, Length 3 of 61 62 63, and Parse 1 ContainsNull of 61 00 00 62
abbrev pub RefusesRecords : UleError → List ℕ → ℕ → Type 0
RefusesRecords (Length len) bytes n = (len ≡ length bytes) × (length bytes % n ≢ 0)
RefusesRecords (Parse index fault) bytes n =
    (length bytes % n ≡ 0) × IsFirstBad bytes n index × (fault_of fault ≡ fault_in n (record_at n bytes index))
