use Rattle.std.proofs.Common.{drop}
use Rattle.tinystr_words.proofs.Reading.Records.{IsChecked}
use Rattle.tinystr.proofs.ascii.TinyAsciiStr.validate_records.Given as goal

abbrev pub invariant-loop-raw : goal.invariant-loop-raw
invariant-loop-raw g l = IsChecked l.records g.row.N l.index (drop l.raw-index l.rest)
