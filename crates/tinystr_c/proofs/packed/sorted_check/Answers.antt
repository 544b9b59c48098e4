use Rattle.std.proofs.Common.{arith, refl}
use Rattle.std.proofs.lemmas.Bool.{false≢true}
use Rattle.tinystr_c.proofs.packed.sorted_check.Goals as goal

pub returns-in-Err-Order : goal.returns-in-Err-Order
returns-in-Err-Order g c =
    let falls = rw c.in-Err-Order.field-0-is at c.in-Err-Order.ensures.fault in
    rw c.failure.ensures (record {
      accepted = (λ zero. absurd (omega arith), λ found. absurd (false≢true (c.in-Err-Order.ensures.accepted.1 found)));
      count = λ zero. absurd (omega arith);
      fault = λ _ other. absurd (other refl);
      falls = λ _. (falls.0, _, falls.1, refl);
    })
