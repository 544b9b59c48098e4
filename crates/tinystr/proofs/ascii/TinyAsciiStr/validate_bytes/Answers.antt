use Rattle.std.proofs.Common.{ℕ, ◌<◌, ◌∙◌, ap, List, [], refl}
use Rattle.std.proofs.lemmas.Result.{IfErr-at_err, IfErr-weaker}
use Rattle.tinystr_words.specs.Reading.{fault_in}
use Rattle.tinystr_words.proofs.Reading.Records.{AreRecords, AllPadded-packed, IsFirstBad-records, IsPacked-records, get_or-AreRecords}
use Rattle.tinystr.specs.Records.{RefusesRecords}
use Rattle.tinystr.specs.Private.{RefusesOneOf}
use Rattle.tinystr.specs.declared.ule.UleError.{UleError}
use Rattle.tinystr.specs.declared.ule.UleError.TheVariants.{Length, Parse}
use Rattle.tinystr.proofs.ascii.TinyAsciiStr.validate_bytes.Goals as goal

-- the first bad record of the list is that of the bytes
RefusesRecords-from_list : (records : List (List ℕ)) (bytes : List ℕ) (n : ℕ) → AreRecords records bytes n → 0 < n → (e : UleError) → RefusesOneOf e records n → RefusesRecords e bytes n
RefusesRecords-from_list records bytes n h some (Length len) first = absurd first
RefusesRecords-from_list records bytes n h some (Parse index fault) first =
    (h.whole, IsFirstBad-records records bytes n index h some first.0, first.1 ∙ ap (λ (b : List ℕ). fault_in n b) (get_or-AreRecords records bytes n index [] h first.0.inside))

pub returns : goal.returns
returns g c =
    let bytes = c.args.bytes.now in
    let records = c.as_chunks.result.0.now in
    let n = g.row.N in
    let are : AreRecords records bytes n = record { are = c.as_chunks.ensures.front; count = c.as_chunks.ensures.front_len; whole = c.in_ok-validate_bytes.ensures.accepted.0 refl } in
    let checked = c.validate_records.ensures in
    record {
      accepted = (λ yes. IsPacked-records records bytes n are (checked.accepted.0 yes), λ packed. checked.accepted.1 (AllPadded-packed records bytes n are c.requires packed));
      length = (λ is. absurd (IfErr-at_err (λ e. RefusesOneOf e records n) is checked.fault), λ uneven. absurd (uneven are.whole));
      fault = IfErr-weaker c.validate_records.result (λ e. RefusesOneOf e records n) (λ e. RefusesRecords e bytes n) (RefusesRecords-from_list records bytes n are c.requires) checked.fault;
    }
