use Rattle.std.proofs.Common.{rules}
use Rattle.tinystr_words.specs.Packed.{IsPacked}
use Rattle.tinystr_packed.proofs.PackedTexts.{packed-texts, AllPadded-chunks, AllStrict-texts}
use Rattle.tinystr_packed.proofs.table.Table.new.Goals as goal

pub returns-clause-bytes : goal.returns-clause-bytes
returns-clause-bytes g c =
    let packed : IsPacked c.args.bytes.now g.row.N = search rules in
    packed-texts c.args.bytes.now c.as_chunks.result.0.now g.row.N c.requires packed c.as_chunks.ensures.front

pub returns-clause-texts : goal.returns-clause-texts
returns-clause-texts g c =
    let packed : IsPacked c.args.bytes.now g.row.N = search rules in
    AllStrict-texts c.as_chunks.result.0.now g.row.N (AllPadded-chunks c.args.bytes.now c.as_chunks.result.0.now g.row.N c.requires packed c.as_chunks.ensures.front c.as_chunks.ensures.front_len)
