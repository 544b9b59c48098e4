use Rattle.std.proofs.Common.{◌≡◌, ◌≤◌, ◌+◌, ◌-◌, ◌++◌, ◌%◌, map, take, drop}
use Rattle.tinystr_words.proofs.padded.code_units.put_low_bytes.Given as goal

abbrev pub invariant-loop-end : goal.invariant-loop-end
invariant-loop-end g l = record {
  least : l.start + 7 ≤ l.end;
  most : l.end ≤ l.start + 8;
  inside : l.start ≤ l.len;
  copied : l.bytes ≡ take l.start (map (λ unit. g.U.CodeUnit.number unit % 256) l.units) ++ drop l.start l.initial.bytes;
}

abbrev pub decreases-loop-end : goal.decreases-loop-end
decreases-loop-end g l = l.len - l.end
