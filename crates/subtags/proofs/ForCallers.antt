-- The laws as lemmas over plain variables, for callers: clause `c` of the law `LAW` of src/laws.rt is the lemma `LAW_c`, and
-- the set `LAW` holds the lemmas of a law. The proofs of `laws` cite them, and they keep their names.
use Rattle.std.proofs.Common.{◌≡◌, ◌≤◌, ℕ, List, length}
use Rattle.subtags.specs.Grammar.{IsCanonical}
use Rattle.subtags.specs.Subtags.{language_of, script_of, region_of, join_subtags}
use Rattle.subtags.proofs.PlaceLemmas.{InPlace-canonical}
pub use Rattle.subtags.proofs.CanonLemmas.{IsCanonical-canonical_text as canonical_once_canonical, fold_text-canonical_text as canonical_once_fold, same_canonical_text as fold_tells_apart}
pub use Rattle.subtags.proofs.PlaceLemmas.{length-canonical_text as canonical_len_same}
pub use Rattle.subtags.proofs.CanonLemmas.{subtags_of-fold_text as split_before_fold}

pub ruleset canonical_once = (canonical_once_canonical, canonical_once_fold)

pub canonical_len_least : (t : List ℕ) → IsCanonical t → 2 ≤ length t
canonical_len_least t h = (InPlace-canonical t h).least

pub canonical_len_most : (t : List ℕ) → IsCanonical t → length t ≤ 17
canonical_len_most t h = (InPlace-canonical t h).most

pub ruleset canonical_len = (canonical_len_same, canonical_len_least, canonical_len_most)

pub joined_subtags : (t : List ℕ) → IsCanonical t → t ≡ join_subtags (language_of t) (script_of t) (region_of t)
joined_subtags t h = (InPlace-canonical t h).joined
