use Rattle.std.proofs.Common.{◌≡◌, arith}
use Rattle.subtags.specs.Grammar.{fold_text}
use Rattle.subtags.proofs.IdentifierLemmas.{reading}
use Rattle.subtags.proofs.lang_id.LangId.read.Goals as goal

pub invariant_of-result : goal.invariant_of-result
invariant_of-result c =
    let made : c.in_lowercase.result ≡ fold_text c.in-Some.input = c.in_lowercase.ensures in
    grind (arith, made, reading)
