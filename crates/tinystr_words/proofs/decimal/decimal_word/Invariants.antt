use Rattle.std.proofs.Common.{◌≡◌, ◌<◌, ◌≤◌, ◌*◌, ◌^◌}
use Rattle.std.specs.Fmt.{decimal}
use Rattle.tinystr_words.proofs.Decimals.{word_onto}
use Rattle.tinystr_words.proofs.decimal.decimal_word.Given as goal

abbrev pub invariant-loop-i : goal.invariant-loop-i
invariant-loop-i l = record {
  fits : l.last < 65536 ^ l.i;
  enough : l.rest * 100 ^ l.i ≤ l.number;
  written : word_onto (decimal l.number) 0 ≡ word_onto (decimal l.rest) l.last;
}
