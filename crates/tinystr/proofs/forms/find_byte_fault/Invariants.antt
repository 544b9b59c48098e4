use Rattle.tinystr_words.proofs.Reading.OnePass.{IsScanned}
use Rattle.tinystr.proofs.forms.find_byte_fault.Given as goal

abbrev pub invariant-loop-byte : goal.invariant-loop-byte
invariant-loop-byte l = IsScanned l.input l.byte-index l.is_after_nul
