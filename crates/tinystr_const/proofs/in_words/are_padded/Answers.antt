use Rattle.std.proofs.Common.{rules}
use Rattle.tinystr_words.proofs.Words.Lanes.{IsBytes-from_Fits}
use Rattle.tinystr_const.proofs.Continued.{eight_more, last_tested}
use Rattle.tinystr_const.proofs.in_words.are_padded.Goals as goal

pub loop-eight-preserved : goal.loop-eight-preserved
loop-eight-preserved c =
    let now = c.loop-eight in
    let cut = rw c.in-Some.is at c.split_first_chunk.ensures.cases in
    let more = eight_more c.args.bytes.now now.rest.now c.in-Some.eight.now c.in-Some.after.now now.faults now.before c.word_of-word.result c.characters_of-characters.result c.faults_of-faults.result
    now.invariant.mark now.invariant.bytes cut.0 cut.1 cut.2 c.word_of-word.ensures c.characters_of-characters.ensures c.faults_of-faults.ensures now.invariant.left in
    record { mark = more.0; bytes = more.1.0; left = more.1.1 }

pub returns : goal.returns
returns c =
    let now = c.loop-eight in
    let bytes = c.args.bytes.now in
    last_tested bytes now.rest.now now.faults now.before c.load-word.result c.characters_of.result c.faults_of.result
    now.invariant.mark now.invariant.bytes (search rules) (IsBytes-from_Fits bytes c.type_inv.bytes)
    c.load-word.ensures c.characters_of.ensures c.faults_of.ensures now.invariant.left
