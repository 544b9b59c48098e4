use Rattle.std.proofs.Common.{◌≡◌, ◌∙◌, ◌==◌, ℕ, List, Contains, IsTrue, arith, refl, rules}
use Rattle.std.specs.Fmt.{decimal}
use Rattle.std.specs.List.{after_first, before_first, list_all}
use Rattle.tinystr.specs.Classes.{is_alphabetic}
use Rattle.tinystr_words.proofs.ForCallers.{byte_split_after, byte_split_before, byte_split_joined, class_without_absent}
use Rattle.uses.proofs.rate_line.read_rate.Goals as goal

-- letters have no equals sign
no_sign : (code : List ℕ) → IsTrue (list_all is_alphabetic code) → ¬ Contains code 0x3d
no_sign code letters = class_without_absent is_alphabetic 0x3d code letters refl

pub returns-in-Some-clause-rate : goal.returns-in-Some-clause-rate
returns-in-Some-clause-rate c code n letters short small is =
    let before : before_first (λ b. b == 0x3d) c.args.line.now ≡ code = rw is (byte_split_before 0x3d code (decimal n) (no_sign code letters)) in
    let after : after_first (λ b. b == 0x3d) c.args.line.now ≡ decimal n = rw is (byte_split_after 0x3d code (decimal n) (no_sign code letters)) in
    let first : c.in-Some.code.now ≡ code = (search rules) ∙ before in
    let second : c.in-Some.number.now ≡ decimal n = (search rules) ∙ after in
    rw first at (c.read_parts.ensures n (rw first letters) (rw first short) small second)

pub returns-in-None-clause-rate : goal.returns-in-None-clause-rate
returns-in-None-clause-rate c code n letters short small is =
    let has : Contains c.args.line.now 0x3d = rw is (byte_split_joined 0x3d code (decimal n)) in
    absurd (grind (arith, c.split_at_byte.ensures.found.1 has))
