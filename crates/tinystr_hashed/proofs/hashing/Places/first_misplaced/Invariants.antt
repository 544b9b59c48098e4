use Rattle.std.proofs.Common.{◌≡◌, ◌<◌, length, map, ℕ}
use Rattle.tinystr_words.specs.Words.{word}
use Rattle.tinystr_packed.specs.Rising.{text_at}
use Rattle.tinystr_hashed.specs.Hashing.{place_of}
use Rattle.tinystr_hashed.proofs.hashing.Places.first_misplaced.Given as goal

abbrev pub invariant-loop-index : goal.invariant-loop-index
invariant-loop-index g l = (k : ℕ) → k < l.index → place_of l.fn.self.start l.fn.self.pilots.now (map word l.fn.self.moves.now) (length l.fn.records) (text_at l.fn.records k) ≡ k
