use Rattle.std.proofs.Common.{ap, ◌∙◌}
use Rattle.tinystr_words.specs.Words.{word}
use Rattle.tinystr_words.proofs.Pieces.Word.{map-mod_bytes}
use Rattle.tinystr_hashed.proofs.hashing.short_number.Goals as goal

pub returns : goal.returns
returns c = c.load.ensures ∙ ap word (map-mod_bytes c.args.bytes.now c.type_inv.bytes)
