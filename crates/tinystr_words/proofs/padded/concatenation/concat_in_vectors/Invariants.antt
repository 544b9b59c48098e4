use Rattle.std.proofs.Common.{◌≡◌, ◌≤◌, ◌++◌, ◌-◌, drop, length, take}
use Rattle.tinystr_words.specs.Text.{pad, text_of}
use Rattle.tinystr_words.proofs.Texts.{NULS}
use Rattle.tinystr_words.proofs.padded.concatenation.concat_in_vectors.Given as goal

abbrev pub invariant-loop-at : goal.invariant-loop-at
invariant-loop-at g l = record {
  inside : l.at ≤ g.row.Q;
  len : length l.bytes ≡ g.row.Q;
  stored : l.bytes ≡ take l.at (pad (take g.row.Q (text_of l.first ++ text_of l.second)) g.row.Q) ++ drop l.at (NULS g.row.Q);
}

abbrev pub decreases-loop-at : goal.decreases-loop-at
decreases-loop-at g l = g.row.Q - l.at
