use Rattle.std.proofs.Common.{◌≡◌, ◌/◌, ◌∙◌, length, ap, refl, sym}
use Rattle.std.proofs.Math.Nat.{mul-div_cancel}
use Rattle.tinystr_words.proofs.Reading.Records.{length-joined}
use Rattle.tinystr_hashed.specs.Reading.{IsHashed, records_in}
use Rattle.tinystr_c.specs.Codes.{success}
use Rattle.tinystr_c.proofs.hashed.hashed_check.Goals as goal

pub returns-in-Ok : goal.returns-in-Ok
returns-in-Ok g c =
    let table = c.in-Ok.table in
    let hashed : IsHashed table c.args.bytes.now g.row.N = c.in-Ok.ensures.texts in
    let counted : length (records_in c.args.bytes.now) / g.row.N ≡ length table = rw (hashed.joined, length-joined g.row.N table hashed.strict) (mul-div_cancel (length table) c.requires) in
    rw c.success.ensures (record {
      accepted = (λ _. (table, hashed), λ _. refl);
      count = λ _. ap success (c.len.ensures ∙ sym counted);
      fault = λ other. absurd (other refl);
    })
