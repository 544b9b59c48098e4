use Rattle.std.proofs.Common.{◌+◌}
use Rattle.tinystr_words.proofs.Vectors.{HasLanes-sixteen_from}
use Rattle.tinystr_words.proofs.Padding.{ArePaddedFrom-tested, HasLanes-next, IsBytes-HasLanes, sixteen_fine}
use Rattle.tinystr_words.proofs.padded.padding.are_sixteen_padded.Goals as goal

pub returns : goal.returns
returns c =
    let bytes = c.args.bytes.now in
    let start = c.args.start in
    let xs = c.sixteen_at-given.result in
    let ys = c.sixteen_at-following.result in
    let given = HasLanes-sixteen_from xs bytes start c.sixteen_at-given.ensures in
    let following = HasLanes-sixteen_from ys bytes (start + 16) c.sixteen_at-following.ensures in
    let next = HasLanes-next xs ys bytes start given following in
    ArePaddedFrom-tested bytes xs _ start _ given next (sixteen_fine xs _ (IsBytes-HasLanes xs bytes start given c.type_inv.bytes) given.0 next.0)
