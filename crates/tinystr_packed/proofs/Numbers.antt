-- Records by the numbers that they spell, and the search for one.
use Rattle.std.proofs.Common.{◌≡◌, ℕ, ◌≤◌, List, length, ap, ◌∙◌, take, drop}
use Rattle.std.specs.Int.{from_be_bytes, w64}
use Rattle.std.proofs.lemmas.List.{take_all}
use Rattle.tinystr_words.specs.Text.{pad}
use Rattle.tinystr_packed.specs.Private.{number_at}

-- a record of at most eight bytes is one number
pub number_at-short : (raw : List ℕ) → length raw ≤ 8 → number_at 0 raw ≡ from_be_bytes w64 (pad raw 8)
unfolding number_at
number_at-short raw short = ap (λ (l : List ℕ). from_be_bytes w64 (pad l 8)) (take_all 8 raw short)

-- a longer one has one at each place
pub number_at-long : (raw : List ℕ) (i many number : ℕ) → many ≡ 8 → number ≡ from_be_bytes w64 (pad (take many (drop i raw)) 8) → number ≡ number_at i raw
unfolding number_at
number_at-long raw i many number eight is = is ∙ ap (λ (m : ℕ). from_be_bytes w64 (pad (take m (drop i raw)) 8)) eight

pub ruleset numbers = (number_at-short, number_at-long)
