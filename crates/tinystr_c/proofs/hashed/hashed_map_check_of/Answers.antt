use Rattle.std.proofs.Common.{◌≡◌, ◌/◌, ◌∙◌, length, ap, refl, sym}
use Rattle.std.proofs.Math.Nat.{mul-div_cancel}
use Rattle.std.proofs.lemmas.Map.Entries.{length-keys_of}
use Rattle.tinystr_words.proofs.Reading.Records.{length-joined}
use Rattle.tinystr_hashed.specs.Map.{AreHashed}
use Rattle.tinystr_hashed.specs.Reading.{records_in}
use Rattle.std.specs.Map.{keys_of}
use Rattle.tinystr_c.specs.Codes.{success}
use Rattle.tinystr_c.proofs.hashed.hashed_map_check_of.Goals as goal

pub returns-in-Ok : goal.returns-in-Ok
returns-in-Ok g c =
    let map = c.in-Ok.map in
    let hashed : AreHashed map c.args.keys.now c.args.values.now g.row.N g.row.M = c.in-Ok.ensures.entries in
    let texts = keys_of map in
    let counted : length (records_in c.args.keys.now) / g.row.N ≡ length texts = rw (hashed.hashed.joined, length-joined g.row.N texts hashed.hashed.strict) (mul-div_cancel (length texts) c.requires.keys) in
    rw c.success.ensures (record {
      accepted = (λ _. (map, hashed), λ _. refl);
      count = λ _. ap success (c.len.ensures ∙ sym (counted ∙ length-keys_of map));
      fault = λ other. absurd (other refl);
    })
