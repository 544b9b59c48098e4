use Rattle.std.proofs.Common.{◌∙◌, sym}
use Rattle.std.proofs.lemmas.Bool.{false≢true}
use Rattle.tinystr_hashed.specs.Private.{texts_in}
use Rattle.tinystr_hashed.proofs.Marks.{table-each}
use Rattle.tinystr_hashed.proofs.Packs.{has_same_number}
use Rattle.tinystr_hashed.proofs.building.is_table_of.Goals as goal

pub returns-then-len : goal.returns-then-len
returns-then-len g c = (
  λ no. absurd (false≢true no),
  λ made. absurd (c.if-len.true (c.len.ensures ∙ has_same_number c.in-Ok.table (texts_in c.args.texts.now) c.args.bytes.now g.row.N c.requires.some c.in-Ok.ensures.texts made ∙ sym c.len-2.ensures)),
)

pub returns : goal.returns
returns g c =
    table-each c.has_each_once.result c.in-Ok.table (texts_in c.args.texts.now) c.args.bytes.now g.row.N c.requires.some c.in-Ok.ensures.texts (sym c.len.ensures ∙ c.if-len.false ∙ c.len-2.ensures) c.has_each_once.ensures
