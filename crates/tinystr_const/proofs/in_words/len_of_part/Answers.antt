use Rattle.std.proofs.Common.{[], arith, refl, rules, ◌+◌}
use Rattle.tinystr_words.proofs.Texts.{IsPaddedText-drop}
use Rattle.tinystr_const.proofs.Counted.{Counts-none, counts_fit, counts_last, counts_more, counts_total, word_low-front, word_low-last}
use Rattle.tinystr_const.proofs.in_words.len_of_part.Goals as goal

pub loop-eight-init : goal.loop-eight-init
loop-eight-init c = record { padded = c.requires.padded; counted = Counts-none c.args.bytes.now }

pub ones_of-counts-requires : goal.ones_of-counts-requires
ones_of-counts-requires c =
    let now = c.loop-eight in
    let cut = rw c.in-Some.is at c.split_first_chunk.ensures.cases in
    word_low-front now.rest.now c.in-Some.eight.now c.word_of.result now.invariant.padded cut.0 c.word_of.ensures

pub overflow_add-counts : goal.overflow_add-counts
overflow_add-counts c =
    let now = c.loop-eight in
    let bytes = c.args.bytes.now in
    let cut = rw c.in-Some.is at c.split_first_chunk.ensures.cases in
    let more = counts_more bytes now.rest.now c.in-Some.eight.now c.in-Some.after.now now.counts c.word_of.result c.ones_of-counts.result
    now.invariant.padded cut.0 cut.1 cut.2 c.word_of.ensures c.ones_of-counts.ensures now.invariant.counted in
    omega (arith, counts_fit (now.counts + c.ones_of-counts.result) c.in-Some.after.now bytes more c.requires.most)

pub loop-eight-preserved : goal.loop-eight-preserved
loop-eight-preserved c =
    let now = c.loop-eight in
    let bytes = c.args.bytes.now in
    let cut = rw c.in-Some.is at c.split_first_chunk.ensures.cases in
    record {
      padded = rw cut.1 (IsPaddedText-drop now.rest.now _ 8 now.invariant.padded);
      counted = counts_more bytes now.rest.now c.in-Some.eight.now c.in-Some.after.now now.counts c.word_of.result c.ones_of-counts.result
          now.invariant.padded cut.0 cut.1 cut.2 c.word_of.ensures c.ones_of-counts.ensures now.invariant.counted;
    }

pub ones_of-counts-requires-2 : goal.ones_of-counts-requires-2
ones_of-counts-requires-2 c =
    let now = c.loop-eight in
    word_low-last now.rest.now c.load.result now.invariant.padded (search rules) c.load.ensures

pub overflow_add-counts-2 : goal.overflow_add-counts-2
overflow_add-counts-2 c =
    let now = c.loop-eight in
    let bytes = c.args.bytes.now in
    let all = counts_last bytes now.rest.now now.counts c.load.result c.ones_of-counts-2.result now.invariant.padded (search rules) c.load.ensures c.ones_of-counts-2.ensures now.invariant.counted in
    omega (arith, counts_fit (now.counts + c.ones_of-counts-2.result) [] bytes all c.requires.most)

pub returns : goal.returns
returns c =
    let now = c.loop-eight in
    let bytes = c.args.bytes.now in
    let all = counts_last bytes now.rest.now now.counts c.load.result c.ones_of-counts-2.result now.invariant.padded (search rules) c.load.ensures c.ones_of-counts-2.ensures now.invariant.counted in
    counts_total (now.counts + c.ones_of-counts-2.result) _ bytes all c.requires.most refl
