use Rattle.tinystr_words.proofs.Reading.Records.{IsChecked-block}
use Rattle.tinystr.proofs.ascii.TinyAsciiStr.skip_padded.Goals as goal

pub loop-rest-preserved : goal.loop-rest-preserved
loop-rest-preserved g c =
    let cut = c.split_at.ensures in
    IsChecked-block c.args.records.now c.loop-rest.rest.now c.split_at.result.0.now c.split_at.result.1.now g.row.N c.loop-rest.index c.min.result
    c.loop-rest.invariant cut.front cut.back cut.front_len (c.are_padded.ensures.0 cc)
