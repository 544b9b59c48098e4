use Rattle.std.proofs.Common.{◌∙◌, refl, sym, arith}
use Rattle.tinystr_words.proofs.Order.ByNumbers.{slice_cmp-first_eight, slice_cmp-widened, ordering_then-found, ordering_then-rest, AreBytes-drop}
use Rattle.tinystr_words.proofs.padded.comparison.compare.Goals as goal

pub returns-then-ne : goal.returns-then-ne
returns-then-ne c =
    let known = c.loop-left_rest.invariant in
    let first = rw c.unwrap.ensures at c.split_first_chunk.ensures.cases in
    let second = rw c.unwrap-in-loop-left_rest.ensures at c.split_first_chunk-in-loop-left_rest.ensures.cases in
    let cut = slice_cmp-first_eight c.loop-left_rest.left_rest.now c.loop-left_rest.right_rest.now _ _ _ _ _ _ _ (omega arith) known.same_length known.left_bytes known.right_bytes
    first second c.number_of_eight.ensures c.number_of_eight-in-loop-left_rest.ensures c.cmp-found.ensures in
    sym (sym known.order ∙ cut ∙ ordering_then-found _ _ c.if-ne.ensures)

pub loop-left_rest-preserved : goal.loop-left_rest-preserved
loop-left_rest-preserved c =
    let known = c.loop-left_rest.invariant in
    let first = rw c.unwrap.ensures at c.split_first_chunk.ensures.cases in
    let second = rw c.unwrap-in-loop-left_rest.ensures at c.split_first_chunk-in-loop-left_rest.ensures.cases in
    let cut = slice_cmp-first_eight c.loop-left_rest.left_rest.now c.loop-left_rest.right_rest.now _ _ _ _ _ _ _ (omega arith) known.same_length known.left_bytes known.right_bytes
    first second c.number_of_eight.ensures c.number_of_eight-in-loop-left_rest.ensures c.cmp-found.ensures in
    record {
      same_length = omega (arith, first.2, second.2, known.same_length);
      order = sym (ordering_then-rest _ _ c.if-ne.ensures) ∙ sym cut ∙ known.order;
      left_bytes = rw first.1 (AreBytes-drop 8 c.loop-left_rest.left_rest.now known.left_bytes);
      right_bytes = rw second.1 (AreBytes-drop 8 c.loop-left_rest.right_rest.now known.right_bytes);
    }

pub returns : goal.returns
returns c =
    let known = c.loop-left_rest.invariant in
    slice_cmp-widened c.loop-left_rest.left_rest.now c.loop-left_rest.right_rest.now _ _ _ _ _ known.same_length (omega arith) known.left_bytes known.right_bytes
    refl refl c.number.ensures c.number-2.ensures c.cmp.ensures ∙ known.order
