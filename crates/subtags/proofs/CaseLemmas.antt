-- The canonical text of an identifier: its bytes in the case of an example.
use Rattle.std.proofs.Common.{inl, inr, zero, suc, ◌≡◌, ◌≢◌, ◌+◌, ◌-◌, ◌≤◌, ◌==◌, ◌||◌, ℕ, Bool, true, false, not, List, [], ◌∷◌, ◌++◌, length, map, take, drop, replicate, cond, get_or, ap, ap₂, refl, sym, ◌∙◌, arith}
use Rattle.std.specs.List.{All, list_all, position_or_len}
use Rattle.std.proofs.lemmas.Bool.{cases_lt, false≢true}
use Rattle.std.proofs.lemmas.Bool.Decides.{nat_tests}
use Rattle.std.proofs.lemmas.List.{drop_all, take-take, take-append-drop, drop-append-le, drop-replicate, length-append, length-map}
use Rattle.std.proofs.lemmas.List.Elements.{All-nil, All-cons, All-head, All-tail}
use Rattle.tinystr.specs.Classes.{is_alphabetic, is_alphanumeric, is_digit, is_upper}
use Rattle.tinystr.specs.Text.{IsText, IsTextByte}
use Rattle.tinystr.specs.ShortInput.{has_lowercase_bit, in_case_of, lower_but, upper_but}
use Rattle.subtags.specs.Grammar.{dash, is_separator, fold_byte, IsLangId, canonical_text}
use Rattle.subtags.specs.Private.{tail_example, example}
use Rattle.subtags.proofs.FoldLemmas.{All-from_list_all}
use Rattle.subtags.proofs.IdentifierLemmas.{All-canonical_text}
use Rattle.subtags.proofs.HeadLemmas.{letters_few, end-le}
use Rattle.subtags.proofs.PlaceLemmas.{length-canonical_text}
use Rattle.subtags.proofs.TailLemmas.{cased, cased-canonical_text, example_of_id, short_id}
use Rattle.subtags.proofs.CanonLemmas.{fold_text-canonical_text}

pub text_of_letters : (u : List ℕ) → list_all is_alphabetic u ≡ true → IsText u
text_of_letters = All-from_list_all is_alphabetic IsTextByte (λ b letter. grind (arith, nat_tests))

-- a byte of a canonical text
abbrev IsPlain : ℕ → Type 0
IsPlain c = (is_alphanumeric c || c == dash) ≡ true

plain_text : (u : List ℕ) → IsLangId u → All IsPlain (canonical_text u)
plain_text = All-canonical_text IsPlain (λ b plain. grind arith) refl

-- the class of a capital alone lacks the bit
bit-cased : (c : ℕ) → IsPlain c → has_lowercase_bit (cased c) ≡ not (is_upper c)
bit-cased c plain = choose (is_upper c) (is_alphabetic c) (is_digit c) (is_separator c) (grind (arith, nat_tests)) where
  choose : (u l d s : Bool) → (u || l || d || s) ≡ true → has_lowercase_bit (cond u 0x41 (cond l 0x61 (cond d 0x30 (cond s dash 0)))) ≡ not u
  choose true l d s h = refl
  choose false true d s h = refl
  choose false false true s h = refl
  choose false false false true h = refl
  choose false false false false h = absurd (false≢true h)

byte-like : (b c : ℕ) → fold_byte b ≡ fold_byte c → IsPlain c → cond (has_lowercase_bit (cased c)) (lower_but 0x5F 0x2D b) (upper_but 0x5F 0x2D b) ≡ c
byte-like b c same plain = rw (bit-cased c plain) (grind (arith, nat_tests))

byte-low : (b c : ℕ) → fold_byte b ≡ fold_byte c → IsPlain c → cased c ≢ 0x41 → lower_but 0x5F 0x2D b ≡ c
byte-low b c same plain low = grind (arith, nat_tests)

byte-text : (b c : ℕ) → fold_byte b ≡ fold_byte c → IsPlain c → IsTextByte b
byte-text b c same plain = grind (arith, nat_tests)

-- bytes that fold as a plain text does are that text in the case of its first k classes, if no capital follows these
text_like : (k : ℕ) (u t r : List ℕ) → length u ≡ length t → map fold_byte u ≡ map fold_byte t → All IsPlain t → All (λ m. m ≢ 0x41) (drop k (map cased t)) → in_case_of (take k (map cased t ++ r)) 0x5F 0x2D u ≡ t
text_like k [] [] r len same plain low = refl
text_like k [] (c ∷ t) r len same plain low = absurd (omega arith)
text_like k (b ∷ u) [] r len same plain low = absurd (omega arith)
text_like zero (b ∷ u) (c ∷ t) r len same plain low =
    ap₂ (λ (x : ℕ) (w : List ℕ). x ∷ w) (byte-low b c (ap (λ l. get_or l 0 0) same) (All-head IsPlain c t plain) (All-head (λ m. m ≢ 0x41) (cased c) (map cased t) low))
    (text_like zero u t r (omega arith) (ap (λ (l : List ℕ). drop 1 l) same) (All-tail IsPlain c t plain) (All-tail (λ m. m ≢ 0x41) (cased c) (map cased t) low))
text_like (suc k) (b ∷ u) (c ∷ t) r len same plain low =
    ap₂ (λ (x : ℕ) (w : List ℕ). x ∷ w) (byte-like b c (ap (λ l. get_or l 0 0) same) (All-head IsPlain c t plain))
    (text_like k u t r (omega arith) (ap (λ (l : List ℕ). drop 1 l) same) (All-tail IsPlain c t plain) low)

plain_bytes : (u t : List ℕ) → length u ≡ length t → map fold_byte u ≡ map fold_byte t → All IsPlain t → IsText u
plain_bytes [] t len same plain = All-nil IsTextByte
plain_bytes (b ∷ u) [] len same plain = absurd (omega arith)
plain_bytes (b ∷ u) (c ∷ t) len same plain =
    All-cons IsTextByte b u (byte-text b c (ap (λ l. get_or l 0 0) same) (All-head IsPlain c t plain))
    (plain_bytes u t (omega arith) (ap (λ (l : List ℕ). drop 1 l) same) (All-tail IsPlain c t plain))

pub text_of_id : (u : List ℕ) → IsLangId u → IsText u
text_of_id u h = plain_bytes u (canonical_text u) (sym (length-canonical_text u)) (sym (fold_text-canonical_text u)) (plain_text u h)

-- a 17th byte is a digit
last_low : (e n : ℕ) → e ≤ 8 → n ≤ 9 → length (example e n) ≡ e + n → All (λ m. m ≢ 0x41) (drop 16 (example e n))
last_low e n short tail len = elim (cases_lt (e + n) 17) [
  | inl few ↦ rw (drop_all 16 (example e n) (omega arith)) (All-nil (λ m. m ≢ 0x41))
  | inr all ↦
      let eight : e ≡ 8 = omega arith in
      let nine : n ≡ 9 = omega arith in
      rw (nine, eight) (All-cons (λ m. m ≢ 0x41) 0x30 [] (λ no. absurd (omega (arith, no))) (All-nil (λ m. m ≢ 0x41)))
]

-- a row from the example's language on
row_from : (e n : ℕ) (row : List ℕ) → e ≤ 8 → take (length (example 8 n)) row ≡ example 8 n → drop (8 - e) row ≡ example e n ++ drop (length (example 8 n)) row
row_from e n row short is =
    let rest = drop (length (example 8 n)) row in
    let parts : example 8 n ++ rest ≡ row = rw is at (take-append-drop (length (example 8 n)) row) in
    let eight : 8 ≤ length (example 8 n) = omega (arith, length-append (replicate {A = ℕ} 8 0x61) (tail_example n)) in
    ap (drop (8 - e)) (sym parts) ∙ drop-append-le (8 - e) (example 8 n) rest (omega (arith, eight))
    ∙ ap (λ (l : List ℕ). l ++ rest) (drop-append-le (8 - e) (replicate 8 0x61) (tail_example n) (omega arith) ∙ ap (λ (l : List ℕ). l ++ tail_example n) (drop-replicate {X = ℕ} (8 - e) 8 0x61 ∙ ap (λ j. replicate j 0x61) (omega (arith, short))))

pub text_by_row : (u row part : List ℕ) (e len : ℕ) → part ≡ take 16 (take (24 - (8 - e)) (drop (8 - e) row)) → IsLangId u → e ≡ position_or_len is_separator u → len ≡ length u → take (length (example 8 (len - e))) row ≡ example 8 (len - e)
    → (part ≡ take 16 (take (24 - (8 - e)) (drop (8 - e) row))) × (in_case_of part 0x5F 0x2D u ≡ canonical_text u)
text_by_row u row part e len chunk h is all table =
    let n = len - e in
    let t = canonical_text u in
    let x = rw (← is, ← all) at (example_of_id u h) in
    let short : e ≤ 8 = letters_few e (x.language) in
    let tail : n ≤ 9 = rw (← is, ← all) at (short_id u h) in
    let inside = end-le u in
    let classes : map cased t ≡ example e n = cased-canonical_text u ∙ x.text in
    let size : length (example e n) ≡ e + n = omega (arith, ap (λ (l : List ℕ). length l) classes, length-map t cased, length-canonical_text u) in
    (chunk, rw (chunk, take-take 16 (24 - (8 - e)) (drop (8 - e) row) (omega arith), row_from e n row short table, ← classes) (text_like 16 u t (drop (length (example 8 n)) row) (sym (length-canonical_text u)) (sym (fold_text-canonical_text u)) (plain_text u h) (rw classes (last_low e n short tail size))))

pub ruleset texts_by_row = (text_of_id, text_by_row)
