use Rattle.std.proofs.Common.{◌≡◌, ◌∙◌, length, map, rules, arith, refl}
use Rattle.std.proofs.lemmas.List.{length-map}
use Rattle.tinystr_words.proofs.Pieces.CodeUnits.{IsReadPiece-text, IsPaddedText-full}
use Rattle.tinystr.proofs.ascii.readers.read_pieces.Goals as goal

pub from_padded-requires : goal.from_padded-requires
from_padded-requires g c =
    (search rules, (search rules, (IsPaddedText-full g.U.CodeUnit.number c.low_bytes.result c.args.units.now g.row.N (search rules) (c.are_characters.ensures.0 (search rules)) c.low_bytes.ensures).1.0))

pub returns-then-units-2 : goal.returns-then-units-2
returns-then-units-2 g c =
    let full = IsPaddedText-full g.U.CodeUnit.number c.low_bytes.result c.args.units.now g.row.N (search rules) (c.are_characters.ensures.0 (search rules)) c.low_bytes.ensures in
    record { accepted = (λ _. full.0, λ _. refl); text = c.from_padded.ensures ∙ full.1.1; fault = tt }

pub from_padded-requires-2 : goal.from_padded-requires-2
from_padded-requires-2 g c =
    let units = map g.U.CodeUnit.number c.args.units.now in
    let len : length units ≡ length c.args.units.now = length-map c.args.units.now g.U.CodeUnit.number in
    (search rules, (search rules, (IsReadPiece-text c.read_all.new.bytes units 0 g.row.N (omega arith) (search rules) (rw len c.if-not-read_all.ensures.read)).1.0))

pub returns : goal.returns
returns g c =
    let units = map g.U.CodeUnit.number c.args.units.now in
    let len : length units ≡ length c.args.units.now = length-map c.args.units.now g.U.CodeUnit.number in
    let read = IsReadPiece-text c.read_all.new.bytes units 0 g.row.N (omega arith) (search rules) (rw len c.if-not-read_all.ensures.read) in
    record { accepted = (λ _. read.0, λ _. refl); text = c.from_padded-2.ensures ∙ read.1.1; fault = tt }
