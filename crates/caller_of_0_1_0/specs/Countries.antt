-- Codes of countries.
use Rattle.std.specs.Prelude.{◌≡◌, ℕ, List, length, All, IsTrue}
use Rattle.std.specs.List.{flat_map}
use Rattle.tinystr_words.specs.Classes.{ask, is_upper}
use Rattle.tinystr_words.specs.Text.{IsStrictText, pad}
use Rattle.tinystr_packed.specs.Rising.{IsRising}

-- two capital letters
pub record IsCountryCode (t : List ℕ) : Type 0 where
  pub two : length t ≡ 2
  pub capital : IsTrue (ask is_upper is_upper t)

-- the bytes are such codes, joined, each below the next
pub record AreCountryCodes (bytes : List ℕ) : Type 0 where
  pub codes : List (List ℕ)
  pub fit : All (λ t. IsStrictText t 2) codes
  pub each : All IsCountryCode codes
  pub rising : IsRising codes
  pub joined : bytes ≡ flat_map (λ t. pad t 2) codes
