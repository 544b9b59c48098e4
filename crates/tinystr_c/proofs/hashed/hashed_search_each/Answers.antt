use Rattle.std.proofs.Common.{ℕ, List, arith}
use Rattle.tinystr_c.proofs.SearchesEach.{AnswersEach-no_room, AnswersEach-answered}
use Rattle.tinystr_c.specs.Hashed.{SearchesHashed}
use Rattle.tinystr_c.specs.declared.answer.TinystrResult.{TinystrResult}
use Rattle.tinystr_c.proofs.hashed.hashed_search_each.Goals as goal

pub returns-then-out-count : goal.returns-then-out-count
returns-then-out-count g c =
    let texts = c.in-Ok.keys in
    rw (c.failure.ensures, c.len-count.ensures.len) (AnswersEach-no_room (λ (answer : TinystrResult) (key : List ℕ). SearchesHashed answer c.args.bytes.now key g.row.N) texts c.args.out.now c.args.keys.now g.row.N c.requires.above c.in-Ok.ensures.texts c.in-Ok.ensures.bytes (omega arith))

pub returns : goal.returns
returns g c =
    let texts = c.in-Ok.keys in
    rw (c.success.ensures, c.len-count.ensures.len) (AnswersEach-answered (λ (answer : TinystrResult) (key : List ℕ). SearchesHashed answer c.args.bytes.now key g.row.N) texts c.args.out.now c.search_keys.new.out c.split_at_mut-front.result.1.now c.args.keys.now g.row.N c.requires.above c.in-Ok.ensures.texts c.in-Ok.ensures.bytes (omega arith) (omega arith) (rw c.len-count.ensures.len at c.split_at_mut-front.ensures.back) c.search_keys.ensures.each)
