use Rattle.std.proofs.Common.{[], arith, length, map, refl, sym, ◌+◌, ◌<◌, ◌≤◌, ◌^◌, ◌∙◌, ◌≡◌, ◌≢◌}
use Rattle.std.proofs.lemmas.Bool.{false≢true}
use Rattle.std.proofs.lemmas.List.{length-drop}
use Rattle.std.specs.List.{flat_map}
use Rattle.tinystr_words.specs.Text.{pad}
use Rattle.tinystr_words.specs.Words.{word}
use Rattle.tinystr_hashed.specs.Hashing.{place_in, IsFirstOutOfOrder}
use Rattle.tinystr_hashed.specs.Reading.{IsHashed, index_size, pilots_of, place_by, records_in}
use Rattle.tinystr_hashed.proofs.Placed.{AreOrdered-none, IsHashed-new, IsTable, hashed_table_of-hashed, hashed_table_of-other, sized-record, unordered-not_hashed}
use Rattle.tinystr_hashed.proofs.table.HashedTable.from_bytes.Goals as goal

pub invariant_of-result : goal.invariant_of-result
invariant_of-result g c =
    let places = c.in-Ok.parts.places in
    (λ _. c.requires, AreOrdered-none places.pilots.now (place_in places.start places.pilots.now (map word places.moves.now) g.row.N (length c.in-Ok-new.table)) c.in-Ok-new.table (c.is_empty.ensures.0 c.if-is_empty.true))

pub returns-then-is_empty : goal.returns-then-is_empty
returns-then-is_empty g c =
    let parts = c.in-Ok.ensures in
    let places = c.in-Ok.parts.places in
    let ordered = AreOrdered-none places.pilots.now (place_in places.start places.pilots.now (map word places.moves.now) g.row.N (length c.in-Ok-new.table)) c.in-Ok-new.table (c.is_empty.ensures.0 c.if-is_empty.true) in
    let is : IsHashed c.in-Ok-new.table c.args.bytes.now g.row.N =
    IsHashed-new c.in-Ok-new.table c.args.bytes.now c.in-Ok.parts.records.now places.pilots.now (map word places.moves.now) places.start g.row.N (parts.whole.0 refl) parts.start parts.pilots parts.moves parts.records c.in-Ok-new.ensures.texts c.in-Ok-new.ensures.bytes ordered in
    record { accepted = ((λ _. (c.in-Ok-new.table, is)), λ _. refl); texts = is; fault = tt; value = hashed_table_of-hashed c.in-Ok-new.table c.args.bytes.now g.row.N c.requires is }

pub first_out_of_order-requires : goal.first_out_of_order-requires
first_out_of_order-requires g c =
    let some : c.in-Ok-new.table ≢ [] = λ none. absurd (false≢true (sym c.if-is_empty.false ∙ c.is_empty.ensures.1 none)) in
    let fewer : length c.in-Ok.parts.records.now ≤ length c.args.bytes.now = rw c.in-Ok.ensures.records (omega (arith, length-drop (16 + index_size c.args.bytes.now) c.args.bytes.now)) in
    let long : length c.in-Ok.parts.records.now < 2 ^ 63 = omega (arith, fewer, c.well_formed.0.1) in
    let sized : g.row.N < 2 ^ 63 = sized-record c.in-Ok-new.table c.in-Ok.parts.records.now g.row.N some c.in-Ok-new.ensures.texts c.in-Ok-new.ensures.bytes long in
    (omega arith, (c.requires, sized))

pub invariant_of-result-in-None : goal.invariant_of-result-in-None
invariant_of-result-in-None g c = (λ _. c.requires, c.in-None.ensures.none refl)

pub returns-in-None : goal.returns-in-None
returns-in-None g c =
    let parts = c.in-Ok.ensures in
    let places = c.in-Ok.parts.places in
    let is : IsHashed c.in-Ok-new.table c.args.bytes.now g.row.N =
    IsHashed-new c.in-Ok-new.table c.args.bytes.now c.in-Ok.parts.records.now places.pilots.now (map word places.moves.now) places.start g.row.N (parts.whole.0 refl) parts.start parts.pilots parts.moves parts.records c.in-Ok-new.ensures.texts c.in-Ok-new.ensures.bytes (c.in-None.ensures.none refl) in
    record { accepted = ((λ _. (c.in-Ok-new.table, is)), λ _. refl); texts = is; fault = tt; value = hashed_table_of-hashed c.in-Ok-new.table c.args.bytes.now g.row.N c.requires is }

pub returns-in-Some : goal.returns-in-Some
returns-in-Some g c =
    let parts = c.in-Ok.ensures in
    let table = c.in-Ok-new.table in
    let joined : records_in c.args.bytes.now ≡ flat_map (λ t. pad t g.row.N) table = sym parts.records ∙ c.in-Ok-new.ensures.bytes in
    let out : IsFirstOutOfOrder (pilots_of c.args.bytes.now) (place_by c.args.bytes.now g.row.N (length table)) table c.in-Some.index = rw (parts.start, parts.pilots, parts.moves) at c.in-Some.ensures.first in
    let other : ¬ IsTable c.args.bytes.now g.row.N = unordered-not_hashed table c.args.bytes.now g.row.N c.in-Some.index c.requires c.in-Ok-new.ensures.texts joined out in
    record {
      accepted = ((λ no. absurd (false≢true no)), λ found. absurd (other found));
      texts = tt;
      fault = (parts.whole.0 refl, record { texts = table; each = c.in-Ok-new.ensures.texts; joined = joined }, out);
      value = hashed_table_of-other c.args.bytes.now g.row.N c.requires other;
    }
