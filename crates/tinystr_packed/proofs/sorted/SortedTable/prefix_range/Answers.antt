use Rattle.std.proofs.Common.{◌∙◌, rules}
use Rattle.tinystr_packed.proofs.Prefixes.{IsFirstNotBelow-rest, IsPrefixRange-counted}
use Rattle.tinystr_packed.proofs.RisingTexts.{AreRisingRecords-texts, AreRisingRecords-part, IsFirstNotBelow-texts, IsPart-rest, IsRecord-padded}
use Rattle.tinystr_packed.proofs.sorted.SortedTable.prefix_range.Goals as goal

pub count_with_prefix-len-requires : goal.count_with_prefix-len-requires
count_with_prefix-len-requires g c =
    let records = c.records-records.result.now in
    let rest = c.split_at.result.1.now in
    let texts = c.records-records.ensures.texts ∙ c.self.view_is in
    let start = c.lower_bound-start.result in
    let key = c.all_bytes.ensures in
    let up = AreRisingRecords-texts records c.args.self.now g.row.N c.records-records.ensures.padded texts (rw c.self.view_is at c.self.invariant) in
    let first = IsFirstNotBelow-texts records c.args.self.now c.args.beginning.now c.all_bytes.result.now g.row.N start c.records-records.ensures.padded texts key.padded key.text (c.lower_bound-start.ensures.place up (IsRecord-padded c.all_bytes.result.now g.row.N key.padded)) in (
      search rules,
      (
        search rules,
        (
          AreRisingRecords-part records rest g.row.N start up (IsPart-rest records rest start c.lower_bound-start.ensures.bound c.split_at.ensures.back),
          IsFirstNotBelow-rest records rest c.args.self.now c.args.beginning.now g.row.N start c.records-records.ensures.padded texts c.fits.ensures first c.split_at.ensures.back,
        ),
      ),
    )

pub returns : goal.returns
returns g c =
    let records = c.records-records.result.now in
    let texts = c.records-records.ensures.texts ∙ c.self.view_is in
    let start = c.lower_bound-start.result in
    let key = c.all_bytes.ensures in
    let up = AreRisingRecords-texts records c.args.self.now g.row.N c.records-records.ensures.padded texts (rw c.self.view_is at c.self.invariant) in
    let first = IsFirstNotBelow-texts records c.args.self.now c.args.beginning.now c.all_bytes.result.now g.row.N start c.records-records.ensures.padded texts key.padded key.text (c.lower_bound-start.ensures.place up (IsRecord-padded c.all_bytes.result.now g.row.N key.padded)) in
    IsPrefixRange-counted records c.split_at.result.1.now c.args.self.now c.args.beginning.now g.row.N start c.count_with_prefix-len.result c.records-records.ensures.padded texts
    c.fits.ensures.text first c.split_at.ensures.back c.count_with_prefix-len.ensures.count c.count_with_prefix-len.ensures.bound
