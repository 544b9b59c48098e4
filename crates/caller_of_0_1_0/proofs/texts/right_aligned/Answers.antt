use Rattle.std.proofs.Common.{◌≡◌, ℕ, ◌-◌, ◌≤◌, List, [], ◌∷◌, ◌++◌, length, refl, ap, true, false, nat_lt, nat_eq, arith, replicate, append-nil, rules, zero, suc}
use Rattle.std.proofs.lemmas.Bool.Decides.{nat_tests}
use Rattle.std.proofs.lemmas.Grind.{common_steps}
use Rattle.std.proofs.lemmas.List.Elements.{All-head, All-tail}
use lib.Utf8.{encode}
use Rattle.std.specs.List.{repeat}
use Rattle.std.proofs.Math.Nat.{sub_self}
use Rattle.std.specs.Fmt.{char_count, take_chars, padded, format_spec, styled_text}
use Rattle.tinystr_words.specs.Text.{IsText, IsTextByte}
use Rattle.caller_of_0_1_0.proofs.texts.right_aligned.Goals as goal

start : (b : ℕ) → IsTextByte b → nat_lt b 0x80 ≡ true
start b h = grind (arith, nat_tests)

count_text : (t : List ℕ) → IsText t → char_count t ≡ length t
unfolding char_count
count_text [] h = refl
count_text (b ∷ t) h =
    let one = start b (All-head IsTextByte b t h) in
    let more = count_text t (All-tail IsTextByte b t h) in
    rw one (omega (arith, more))

take_text : (n : ℕ) (t : List ℕ) → IsText t → length t ≤ n → take_chars n t ≡ t
unfolding take_chars
take_text n [] h fits = refl
take_text n (b ∷ t) h fits =
    let one = start b (All-head IsTextByte b t h) in
    let some : nat_eq n 0 ≡ false = grind (arith, nat_tests) in
    rw (one, some) (ap (λ (l : List ℕ). b ∷ l) (take_text (n - 1) t (All-tail IsTextByte b t h) (omega arith)))

blanks : (n : ℕ) → repeat {A = ℕ} n (32 ∷ []) ≡ replicate n 32
blanks zero = refl
blanks (suc n) = ap (λ (l : List ℕ). 32 ∷ l) (blanks n)

right : (t : List ℕ) → IsText t → length t ≤ 8 → styled_text (format_spec 32 3 0 8 18446744073709551615) t ≡ replicate (8 - length t) 32 ++ t
unfolding padded encode
right t h fits = rw (take_text 18446744073709551615 t h (omega arith), count_text t h, blanks (8 - length t), sub_self (8 - length t)) (ap (λ (l : List ℕ). replicate (8 - length t) 32 ++ l) (append-nil t))

pub returns : goal.returns
returns c =
    let text : IsText c.args.text.now = search rules in
    let fits : length c.args.text.now ≤ 8 = grind (arith, common_steps) in
    let e = right c.args.text.now text fits in
    grind (arith, common_steps, e)
