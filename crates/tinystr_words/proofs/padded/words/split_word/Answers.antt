use Rattle.std.proofs.Common.{rules, arith}
use Rattle.tinystr_words.proofs.Pieces.PaddedWords.{IsPaddedText-first_word, IsFirstWord-split}
use Rattle.tinystr_words.proofs.padded.words.split_word.Goals as goal

pub from_ascii_bytes-requires : goal.from_ascii_bytes-requires
from_ascii_bytes-requires c = (omega arith, (omega arith, (omega arith, IsPaddedText-first_word c.args.bytes.now _ c.requires (search rules) (search rules))))

pub returns : goal.returns
returns c = IsFirstWord-split c.args.bytes.now c.in_ok-word.word.now _ _ c.requires (search rules) (search rules) (search rules) c.from_ascii_bytes.ensures
