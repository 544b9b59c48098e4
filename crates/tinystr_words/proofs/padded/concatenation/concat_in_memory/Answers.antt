use Rattle.std.proofs.Common.{◌≡◌, ◌∙◌, length, sym, subst, rules}
use Rattle.tinystr_words.specs.Text.{IsPaddedText}
use Rattle.tinystr_words.proofs.Pieces.Copying.{IsPaddedText-both_copied}
use Rattle.tinystr_words.proofs.padded.concatenation.concat_in_memory.Goals as goal

pub returns-then-first_len : goal.returns-then-first_len
returns-then-first_len g c =
    let front : length c.args.first ≡ g.row.N = search rules in
    let made = IsPaddedText-both_copied c.put_both.new.bytes c.args.first c.args.second.now g.row.Q (subst (λ n. IsPaddedText c.args.first n) (sym front) c.requires.first)
    (front ∙ sym c.if-first_len.true ∙ c.requires.first_len) (subst (λ n. IsPaddedText c.args.second.now n) (sym c.told-second) c.requires.second) c.put_both.ensures in
    record { padded = made.0; text = made.1 }
