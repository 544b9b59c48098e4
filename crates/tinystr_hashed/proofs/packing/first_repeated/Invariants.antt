use Rattle.std.proofs.Common.{◌≡◌, ◌≢◌, ℕ, ◌+◌, ◌<◌}
use Rattle.tinystr_packed.specs.Rising.{text_at}
use Rattle.tinystr_hashed.proofs.packing.first_repeated.Given as goal

abbrev pub invariant-loop-text : goal.invariant-loop-text
invariant-loop-text g l = record {
  last : l.before ≡ text_at l.texts l.text-index;
  apart : (k : ℕ) → k < l.text-index → text_at l.texts k ≢ text_at l.texts (k + 1);
}
