use Rattle.std.proofs.Common.{◌∙◌, ap, arith}
use Rattle.std.proofs.lemmas.Fmt.{parse-decimal}
use Rattle.std.specs.Result.{result_ok}
use Rattle.tinystr.specs.Text.{IsStrictText}
use Rattle.tinystr_words.proofs.ForCallers.{decimal_back_strict}
use Rattle.uses.proofs.rate_line.read_number.Goals as goal

pub returns-in-Ok : goal.returns-in-Ok
returns-in-Ok c n small is =
    c.ok.ensures.value ∙ ap result_ok (parse-decimal 32 n c.as_str.result.now c.parse.result small (omega arith) (c.as_str.ensures.text ∙ c.in-Ok.ensures.text ∙ is) c.parse.ensures.value.0)

pub returns-in-Err : goal.returns-in-Err
returns-in-Err c n small is =
    let strict : IsStrictText c.args.bytes.now 10 = rw is (decimal_back_strict n 10 (omega arith) (omega arith) (omega arith)) in
    absurd (grind (arith, c.try_from_utf8.ensures.accepted.1 strict))
