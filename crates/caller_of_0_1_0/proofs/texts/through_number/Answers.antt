use Rattle.std.proofs.Common.{◌≡◌, ◌∙◌, ℕ, ◌<◌, length, arith, rules, get_or}
use Rattle.std.proofs.lemmas.Nat.{le_bytes_8}
use Rattle.tinystr_words.specs.Text.{IsPaddedText, text_of}
use Rattle.tinystr_words.proofs.Texts.{IsAscii-padded}
use Rattle.caller_of_0_1_0.proofs.texts.through_number.Goals as goal

pub returns : goal.returns
returns c =
    let eight : length c.to_bytes-form.result ≡ 8 = search rules in
    let ascii = IsAscii-padded c.to_bytes-form.result 8 c.to_bytes-form.ensures.padded in
    let small : (i : ℕ) → get_or c.to_bytes-form.result i 0 < 256 = λ i. omega (arith, ascii i) in
    let back : c.to_le_bytes-back.result ≡ c.to_bytes-form.result =
    c.to_le_bytes-back.ensures ∙ le_bytes_8 c.to_bytes-form.result c.from_le_bytes-number.result eight small c.from_le_bytes-number.ensures in
    let padded : IsPaddedText c.to_le_bytes-back.result 8 = rw back c.to_bytes-form.ensures.padded in
    let text : text_of c.to_le_bytes-back.result ≡ c.args.text.now = rw back c.to_bytes-form.ensures.text in
    search rules
