use Rattle.std.proofs.Common.{rules}
use Rattle.tinystr_packed.proofs.RisingTexts.{IsRecord-padded}
use Rattle.tinystr_packed.proofs.search.binary_search_whole.Goals as goal

pub answer_at-requires : goal.answer_at-requires
answer_at-requires g c =
    let key = c.all_bytes.ensures in (
      search rules,
      (
        search rules,
        (
          c.lower_bound_whole-place.ensures.bound,
          λ padded up. rw key.bytes at (c.lower_bound_whole-place.ensures.place up (IsRecord-padded c.all_bytes.result.now g.row.N key.padded)),
        ),
      ),
    )
