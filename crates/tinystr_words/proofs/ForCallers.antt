-- The laws as lemmas over plain variables, for callers: clause `c` of the law `LAW` of src/laws.rt is the lemma `LAW_c`, and
-- the set `LAW` holds the lemmas of a law. The proofs of `laws` cite them, and they keep their names.
use Rattle.std.proofs.Common.{◌≡◌, ◌≢◌, ◌==◌, ◌<◌, ◌≤◌, ◌^◌, ◌/◌, ◌⊎◌, ◌+◌, ◌-◌, ◌++◌, ◌∷◌, ◌&&◌, ◌∙◌, [], ℕ, Bool, false, List, Contains, IsTrue, Some, None, ap, arith, drop, length, map, refl, replicate, take}
use Rattle.std.specs.Char.{is_ascii_alphabetic, is_ascii_digit, is_ascii_lowercase, is_ascii_uppercase}
use Rattle.std.specs.Fmt.{decimal, padded, spec_fill}
use Rattle.std.specs.List.{after_first, before_first, join_with_byte, list_all, list_any, position, position_or_len, slice_split}
use Rattle.std.specs.Str.{bytes_eq}
use Rattle.std.proofs.lemmas.Bool.{false≢true}
use Rattle.std.proofs.lemmas.Bool.Decides.{nat_tests}
use Rattle.std.proofs.lemmas.Fmt.{length-decimal-le}
use Rattle.std.proofs.lemmas.List.{append-nil, drop_at, get_or-replicate, length-append, length-map, length-replicate, map-append, take_all, take_at}
use Rattle.std.proofs.lemmas.List.Elements.{All-contains}
use Rattle.std.proofs.lemmas.List.Splits.{join_with_byte-slice_split}
use Rattle.std.proofs.lemmas.Slice.Eq.{bytes_eq-Decides}
use Rattle.tinystr_words.specs.ByteForm.{byte_fault}
use Rattle.tinystr_words.specs.Case.{lower, raise, lowercase, titlecase, uppercase}
use Rattle.tinystr_words.specs.Classes.{ask, is_alphabetic, is_alphanumeric, is_digit, is_lower, is_upper, is_not_lower, is_not_upper}
use Rattle.tinystr_words.specs.Decimal.{IsDecimalOf, number_of}
use Rattle.tinystr_words.specs.Order.{IsBefore}
use Rattle.tinystr_words.specs.Reading.{fault_in, first_fault, strict_of}
use Rattle.tinystr_words.specs.Reading.Fault.{non_ascii}
use Rattle.tinystr_words.specs.Text.{IsPaddedText, IsStrictText, IsText, is_strict_text, pad, text_of}
use Rattle.tinystr_words.specs.declared.question.Case.TheVariants.{Lower, Title, Upper}
use Rattle.tinystr_words.proofs.Order.OfLists.{before_not_same, before_one_way}
use Rattle.tinystr_words.proofs.Reading.ByteForms.{byte_fault-first_padded, byte_fault-padded}
use Rattle.tinystr_words.proofs.Cases.{All-differs, IsStrictText-map, IsText-ask, IsText-list_all, ask-joined, ask-map, ask-titlecase, map-map_same, position-missed, titlecase-twice}
use Rattle.tinystr_words.proofs.Parts.Found.{All-absent}
use Rattle.tinystr_words.proofs.Decimals.{IsDecimalOf-decimal, IsText-decimal}
use Rattle.tinystr_words.proofs.Parts.Splits.{map-joined, texts_of_parts}
use Rattle.tinystr_words.proofs.Printing.{padded-before, padded-after, padded-between}
use Rattle.tinystr_words.proofs.Reading.OnePass.{IsScanned-none, fault_in-fits, first_fault-high}
use Rattle.tinystr_words.proofs.Texts.{IsAscii-padded, after_first-joined, before_first-joined, length-pad, text_of-pad}
use Rattle.tinystr_words.proofs.Texts as texts
use Rattle.tinystr_words.proofs.Pieces.Answers.{IsText-in_case, ask-append, in_case-append, length-in_case}
use Rattle.tinystr_words.proofs.Reading.Decided.{is_strict_text-Decides}
pub use Rattle.tinystr_words.proofs.Cases.{IsStrictText-titlecase as case_fits_title, lowercase-titlecase as case_last_lower_title, titlecase-lowercase as case_last_title_lower, titlecase-twice as case_last_title_title, titlecase-uppercase as case_last_title_upper, uppercase-titlecase as case_last_upper_title, lowercase-alone as case_fixed_lower, titlecase-alone as case_fixed_title, uppercase-alone as case_fixed_upper, All-differs as class_without_differs}
pub use Rattle.tinystr_words.proofs.Cases.{is_alphanumeric-std as same_as_std_letter_or_digit, lower-std as same_as_std_lowered, raise-std as same_as_std_raised, lowercase-std as same_as_std_lowercase, uppercase-std as same_as_std_uppercase}
pub use Rattle.tinystr_words.proofs.Decimals.{length-decimal-le_ten as digits_ten, IsDecimalOf-decimal as digits_shortest_is, IsDecimalOf-only as digits_shortest_only}
pub use Rattle.tinystr_words.proofs.Order.OfLists.{before_or_same as order_total_one, before_padded as order_total_padded, cmp_is_before as order_compared_less, cmp_is_same as order_compared_equal}
pub use Rattle.tinystr_words.proofs.Parts.Found.{text_position-at as text_position_at, text_position-some as text_position_exact, text_position-none as text_position_missing, text_position-distinct as text_position_distinct, byte_position-some as byte_position_exact, byte_position-none as byte_position_missing, split-whole as byte_split_whole, before_first-absent as byte_split_absent, Contains-joined as byte_split_joined}
pub use Rattle.tinystr_words.proofs.Parts.Splits.{lowercase-take as case_cut_lower, titlecase-take as case_cut_title, uppercase-take as case_cut_upper, take_join_cut as join_cut}
pub use Rattle.tinystr_words.proofs.Parts.Splits.{IsStrictText-take as strict_parts_front, IsStrictText-drop as strict_parts_back, IsStrictText-before_first as strict_parts_before, IsStrictText-after_first as strict_parts_behind, slice_split-joined as split_joined_back, IsStrictText-slice_split as split_joined_strict, slice_split-found as split_found_parts, slice_split-missed as split_found_one, IsText-joined as joined_texts_text, ask-joined_texts as joined_texts_asked}
pub use Rattle.tinystr_words.proofs.Pieces.Answers.{ask-same as same_as_std_each}
pub use Rattle.tinystr_words.proofs.Printing.{char_count-text as print_width_chars, take_chars-text as print_width_cut, styled-padded as print_width_styled, length-padded as print_width_width}
pub use Rattle.tinystr_words.proofs.Reading.ByteForms.{byte_fault-padded as bytes_back_clean}
pub use Rattle.tinystr_words.proofs.Reading.Decided.{is_text_byte-Decides as tests_decide_byte, is_strict_text-Decides as tests_decide_strict, is_padded_text-Decides as tests_decide_padded, is_packed-Decides as tests_decide_packed}
pub use Rattle.tinystr_words.proofs.Reading.Records.{IsPacked-record as packed_records, IsPacked-joined as texts_packed_packed, length-joined as texts_packed_len, text_of-record as texts_packed_text}
pub use Rattle.tinystr_words.proofs.Texts.{IsPaddedText-pad as pad_once_padded}
pub use Rattle.tinystr_words.proofs.Words.Laws.{lane_sum_is as lane_sum, word_length_is as word_length, lane_class_is as lane_class}

pub order_total_alone : (t s : List ℕ) → (t ≡ s → ¬ IsBefore t s) × (IsBefore t s → ¬ IsBefore s t)
order_total_alone t s = (before_not_same t s, before_one_way t s)

pub ruleset order_total = (order_total_one, order_total_alone, order_total_padded)

pub ruleset order_compared = (order_compared_less, order_compared_equal)

pub ruleset case_cut = (case_cut_lower, case_cut_title, case_cut_upper)

pub case_keeps_lower_alphabetic : (t : List ℕ) → ask is_alphabetic is_alphabetic (lowercase t) ≡ ask is_alphabetic is_alphabetic t
case_keeps_lower_alphabetic = ask-map is_alphabetic is_alphabetic lower (λ b. grind (arith, nat_tests))

pub case_keeps_lower_alphanumeric : (t : List ℕ) → ask is_alphanumeric is_alphanumeric (lowercase t) ≡ ask is_alphanumeric is_alphanumeric t
case_keeps_lower_alphanumeric = ask-map is_alphanumeric is_alphanumeric lower (λ b. grind (arith, nat_tests))

pub case_keeps_lower_digit : (t : List ℕ) → ask is_digit is_digit (lowercase t) ≡ ask is_digit is_digit t
case_keeps_lower_digit = ask-map is_digit is_digit lower (λ b. grind (arith, nat_tests))

pub case_keeps_title_alphabetic : (t : List ℕ) → ask is_alphabetic is_alphabetic (titlecase t) ≡ ask is_alphabetic is_alphabetic t
case_keeps_title_alphabetic = ask-titlecase is_alphabetic is_alphabetic is_alphabetic (λ b. grind (arith, nat_tests)) (λ b. grind (arith, nat_tests))

pub case_keeps_title_alphanumeric : (t : List ℕ) → ask is_alphanumeric is_alphanumeric (titlecase t) ≡ ask is_alphanumeric is_alphanumeric t
case_keeps_title_alphanumeric = ask-titlecase is_alphanumeric is_alphanumeric is_alphanumeric (λ b. grind (arith, nat_tests)) (λ b. grind (arith, nat_tests))

pub case_keeps_title_digit : (t : List ℕ) → ask is_digit is_digit (titlecase t) ≡ ask is_digit is_digit t
case_keeps_title_digit = ask-titlecase is_digit is_digit is_digit (λ b. grind (arith, nat_tests)) (λ b. grind (arith, nat_tests))

pub case_keeps_upper_alphabetic : (t : List ℕ) → ask is_alphabetic is_alphabetic (uppercase t) ≡ ask is_alphabetic is_alphabetic t
case_keeps_upper_alphabetic = ask-map is_alphabetic is_alphabetic raise (λ b. grind (arith, nat_tests))

pub case_keeps_upper_alphanumeric : (t : List ℕ) → ask is_alphanumeric is_alphanumeric (uppercase t) ≡ ask is_alphanumeric is_alphanumeric t
case_keeps_upper_alphanumeric = ask-map is_alphanumeric is_alphanumeric raise (λ b. grind (arith, nat_tests))

pub case_keeps_upper_digit : (t : List ℕ) → ask is_digit is_digit (uppercase t) ≡ ask is_digit is_digit t
case_keeps_upper_digit = ask-map is_digit is_digit raise (λ b. grind (arith, nat_tests))

pub ruleset case_keeps = (case_keeps_lower_alphabetic, case_keeps_lower_alphanumeric, case_keeps_lower_digit, case_keeps_title_alphabetic, case_keeps_title_alphanumeric, case_keeps_title_digit, case_keeps_upper_alphabetic, case_keeps_upper_alphanumeric, case_keeps_upper_digit)

pub case_letters_lower : (t : List ℕ) → ask is_lower is_lower (lowercase t) ≡ ask is_alphabetic is_alphabetic t
case_letters_lower = ask-map is_lower is_alphabetic lower (λ b. grind (arith, nat_tests))

pub case_letters_title : (t : List ℕ) → ask is_upper is_lower (titlecase t) ≡ ask is_alphabetic is_alphabetic t
case_letters_title = ask-titlecase is_upper is_lower is_alphabetic (λ b. grind (arith, nat_tests)) (λ b. grind (arith, nat_tests))

pub case_letters_upper : (t : List ℕ) → ask is_upper is_upper (uppercase t) ≡ ask is_alphabetic is_alphabetic t
case_letters_upper = ask-map is_upper is_alphabetic raise (λ b. grind (arith, nat_tests))

pub ruleset case_letters = (case_letters_lower, case_letters_title, case_letters_upper)

pub case_fits_lower : (t : List ℕ) (n : ℕ) → IsStrictText t n → IsStrictText (lowercase t) n
case_fits_lower = IsStrictText-map lower (λ b h. grind (arith, nat_tests))

pub case_fits_upper : (t : List ℕ) (n : ℕ) → IsStrictText t n → IsStrictText (uppercase t) n
case_fits_upper = IsStrictText-map raise (λ b h. grind (arith, nat_tests))

pub lowercase_text : (t : List ℕ) → IsText t → IsText (lowercase t)
lowercase_text = IsText-in_case Lower

pub titlecase_text : (t : List ℕ) → IsText t → IsText (titlecase t)
titlecase_text = IsText-in_case Title

pub uppercase_text : (t : List ℕ) → IsText t → IsText (uppercase t)
uppercase_text = IsText-in_case Upper

pub ruleset case_fits = (case_fits_lower, case_fits_title, case_fits_upper, lowercase_text, titlecase_text, uppercase_text)

pub case_twice_lower : (t : List ℕ) → (length (lowercase t) ≡ length t) × (lowercase (lowercase t) ≡ lowercase t)
case_twice_lower t = (length-map t lower, map-map_same lower lower lower (λ b. grind (arith, nat_tests)) t)

pub case_twice_title : (t : List ℕ) → (length (titlecase t) ≡ length t) × (titlecase (titlecase t) ≡ titlecase t)
case_twice_title t = (length-in_case Title t, titlecase-twice t)

pub case_twice_upper : (t : List ℕ) → (length (uppercase t) ≡ length t) × (uppercase (uppercase t) ≡ uppercase t)
case_twice_upper t = (length-map t raise, map-map_same raise raise raise (λ b. grind (arith, nat_tests)) t)

pub case_twice_lower_upper : (t : List ℕ) → lowercase (uppercase t) ≡ lowercase t
case_twice_lower_upper = map-map_same lower raise lower (λ b. grind (arith, nat_tests))

pub ruleset case_twice = (case_twice_lower, case_twice_title, case_twice_upper, case_twice_lower_upper)

pub case_last_lower_lower : (t : List ℕ) → lowercase (lowercase t) ≡ lowercase t
case_last_lower_lower = map-map_same lower lower lower (λ b. grind (arith, nat_tests))

pub case_last_lower_upper : (t : List ℕ) → lowercase (uppercase t) ≡ lowercase t
case_last_lower_upper = map-map_same lower raise lower (λ b. grind (arith, nat_tests))

pub case_last_upper_lower : (t : List ℕ) → uppercase (lowercase t) ≡ uppercase t
case_last_upper_lower = map-map_same raise lower raise (λ b. grind (arith, nat_tests))

pub case_last_upper_upper : (t : List ℕ) → uppercase (uppercase t) ≡ uppercase t
case_last_upper_upper = map-map_same raise raise raise (λ b. grind (arith, nat_tests))

pub ruleset case_last = (case_last_lower_lower, case_last_lower_title, case_last_lower_upper, case_last_title_lower, case_last_title_title, case_last_title_upper, case_last_upper_lower, case_last_upper_title, case_last_upper_upper)

pub ruleset case_fixed = (case_fixed_lower, case_fixed_title, case_fixed_upper)

pub class_joined_lower : (t : List ℕ) → ask is_lower is_lower t ≡ (ask is_alphabetic is_alphabetic t && ask is_not_upper is_not_upper t)
class_joined_lower = ask-joined is_lower is_lower is_alphabetic is_not_upper is_not_upper (λ b. grind (arith, nat_tests)) (λ b. grind (arith, nat_tests))

pub class_joined_title : (t : List ℕ) → ask is_upper is_lower t ≡ (ask is_alphabetic is_alphabetic t && ask is_not_lower is_not_upper t)
class_joined_title = ask-joined is_upper is_lower is_alphabetic is_not_lower is_not_upper (λ b. grind (arith, nat_tests)) (λ b. grind (arith, nat_tests))

pub class_joined_upper : (t : List ℕ) → ask is_upper is_upper t ≡ (ask is_alphabetic is_alphabetic t && ask is_not_lower is_not_lower t)
class_joined_upper = ask-joined is_upper is_upper is_alphabetic is_not_lower is_not_lower (λ b. grind (arith, nat_tests)) (λ b. grind (arith, nat_tests))

pub ruleset class_joined = (class_joined_lower, class_joined_title, class_joined_upper)

pub join_fits : (a b : List ℕ) (q : ℕ) → length a + length b ≤ q → take q (a ++ b) ≡ a ++ b
join_fits a b q fits = take_all q (a ++ b) (omega (arith, length-append a b))

pub decimal_shown : (n : ℕ) → n < 2 ^ 64 → (decimal n ≡ decimal n) × IsDecimalOf n (decimal n)
decimal_shown n fits = (refl, digits_shortest_is n fits)

pub ruleset digits_shortest = (digits_shortest_is, decimal_shown, digits_shortest_only)

pub decimal_back_strict : (n k : ℕ) → n < 2 ^ 64 → 0 < k → n < 10 ^ k → IsStrictText (decimal n) k
decimal_back_strict n k fits some short = record { text = IsText-decimal n fits; fits = length-decimal-le k n some short fits }

pub decimal_back_value : (n : ℕ) → n < 2 ^ 64 → number_of (decimal n) ≡ n
decimal_back_value n fits = (IsDecimalOf-decimal n fits).value

pub ruleset decimal_back = (decimal_back_strict, decimal_back_value)

pub word_join_asked : (first others : ℕ → Bool) (a b : List ℕ) → (length a ≡ 16) ⊎ (b ≡ []) → ask first others (a ++ b) ≡ (ask first others a && ask others others b)
word_join_asked first others = ask-append first others 15

pub word_join_lower : (a b : List ℕ) → lowercase (a ++ b) ≡ lowercase a ++ lowercase b
word_join_lower = map-append lower

pub word_join_upper : (a b : List ℕ) → uppercase (a ++ b) ≡ uppercase a ++ uppercase b
word_join_upper = map-append raise

pub word_join_title : (a b : List ℕ) → (length a ≡ 16) ⊎ (b ≡ []) → titlecase (a ++ b) ≡ titlecase a ++ lowercase b
word_join_title = in_case-append Title 15

pub ruleset word_join = (word_join_asked, word_join_lower, word_join_upper, word_join_title)

pub pad_once_once : (t s : List ℕ) (n : ℕ) → IsStrictText t n → IsStrictText s n → pad t n ≡ pad s n → t ≡ s
pad_once_once t s n h k = texts.pad_once t s n h.text k.text

pub ruleset pad_once = (pad_once_padded, pad_once_once)

pub ruleset tests_decide = (tests_decide_byte, tests_decide_strict, tests_decide_padded, tests_decide_packed)

pub strict_read_taken : (t : List ℕ) (n : ℕ) → IsStrictText t n → strict_of n t ≡ Some t
strict_read_taken t n h = rw ((is_strict_text-Decides t n).1 h) refl

pub strict_read_refused : (t : List ℕ) (n : ℕ) → ¬ IsStrictText t n → strict_of n t ≡ None
strict_read_refused t n other = grind (arith, is_strict_text-Decides)

pub ruleset strict_read = (strict_read_taken, strict_read_refused)

pub ruleset strict_parts = (strict_parts_front, strict_parts_back, strict_parts_before, strict_parts_behind)

pub class_texts_alphanumeric : (t : List ℕ) → IsTrue (ask is_alphanumeric is_alphanumeric t) → IsText t
class_texts_alphanumeric t h = IsText-ask is_alphanumeric is_alphanumeric (λ b k. grind (arith, nat_tests)) (λ b k. grind (arith, nat_tests)) t h

pub class_texts_alphabetic : (t : List ℕ) → IsTrue (ask is_alphabetic is_alphabetic t) → IsText t
class_texts_alphabetic t h = IsText-ask is_alphabetic is_alphabetic (λ b k. grind (arith, nat_tests)) (λ b k. grind (arith, nat_tests)) t h

pub class_texts_digit : (t : List ℕ) → IsTrue (ask is_digit is_digit t) → IsText t
class_texts_digit t h = IsText-ask is_digit is_digit (λ b k. grind (arith, nat_tests)) (λ b k. grind (arith, nat_tests)) t h

pub class_texts_lower : (t : List ℕ) → IsTrue (ask is_lower is_lower t) → IsText t
class_texts_lower t h = IsText-ask is_lower is_lower (λ b k. grind (arith, nat_tests)) (λ b k. grind (arith, nat_tests)) t h

pub class_texts_title : (t : List ℕ) → IsTrue (ask is_upper is_lower t) → IsText t
class_texts_title t h = IsText-ask is_upper is_lower (λ b k. grind (arith, nat_tests)) (λ b k. grind (arith, nat_tests)) t h

pub class_texts_upper : (t : List ℕ) → IsTrue (ask is_upper is_upper t) → IsText t
class_texts_upper t h = IsText-ask is_upper is_upper (λ b k. grind (arith, nat_tests)) (λ b k. grind (arith, nat_tests)) t h

pub ruleset class_texts = (class_texts_alphanumeric, class_texts_alphabetic, class_texts_digit, class_texts_lower, class_texts_title, class_texts_upper)

pub class_fits_alphanumeric : (t : List ℕ) (n : ℕ) → IsTrue (list_all is_alphanumeric t) → length t ≤ n → IsStrictText t n
class_fits_alphanumeric t n h fits = record { text = IsText-list_all is_alphanumeric (λ b k. grind (arith, nat_tests)) t h; fits = fits }

pub class_fits_alphabetic : (t : List ℕ) (n : ℕ) → IsTrue (list_all is_alphabetic t) → length t ≤ n → IsStrictText t n
class_fits_alphabetic t n h fits = record { text = IsText-list_all is_alphabetic (λ b k. grind (arith, nat_tests)) t h; fits = fits }

pub class_fits_digit : (t : List ℕ) (n : ℕ) → IsTrue (list_all is_digit t) → length t ≤ n → IsStrictText t n
class_fits_digit t n h fits = record { text = IsText-list_all is_digit (λ b k. grind (arith, nat_tests)) t h; fits = fits }

pub class_fits_lower : (t : List ℕ) (n : ℕ) → IsTrue (list_all is_lower t) → length t ≤ n → IsStrictText t n
class_fits_lower t n h fits = record { text = IsText-list_all is_lower (λ b k. grind (arith, nat_tests)) t h; fits = fits }

pub class_fits_upper : (t : List ℕ) (n : ℕ) → IsTrue (list_all is_upper t) → length t ≤ n → IsStrictText t n
class_fits_upper t n h fits = record { text = IsText-list_all is_upper (λ b k. grind (arith, nat_tests)) t h; fits = fits }

pub ruleset class_fits = (class_fits_alphanumeric, class_fits_alphabetic, class_fits_digit, class_fits_lower, class_fits_upper)

pub class_without_absent : (p : ℕ → Bool) (c : ℕ) (t : List ℕ) → IsTrue (list_all p t) → p c ≡ false → ¬ Contains t c
class_without_absent p c t h out inside = All-contains (λ b. b ≢ c) t c (All-differs p c t h out) inside refl

pub class_without_missed : (p : ℕ → Bool) (c : ℕ) (t : List ℕ) → IsTrue (list_all p t) → p c ≡ false → position (λ b. b == c) t ≡ None
class_without_missed p c t h out = position-missed c t (All-differs p c t h out)

pub ruleset class_without = (class_without_differs, class_without_absent, class_without_missed)

pub listed_texts : (t : List ℕ) (ts : List (List ℕ)) (n : ℕ) → IsTrue (list_all (λ s. is_strict_text s n) ts) → IsTrue (list_any (bytes_eq t) ts) → IsStrictText t n
listed_texts t [] n fit one = absurd (false≢true one)
listed_texts t (s ∷ ts) n fit one = let others = listed_texts t ts n in let same = bytes_eq-Decides t s in let fits = is_strict_text-Decides s n in grind (arith, same, fits, others)

pub bytes_back_first : (t rest : List ℕ) (n : ℕ) → IsStrictText t n → take n (pad t n ++ rest) ≡ pad t n
bytes_back_first t rest n h = take_at (pad t n) rest n (length-pad t n h.fits)

pub bytes_back_text : (t rest : List ℕ) (n : ℕ) → IsStrictText t n → text_of (take n (pad t n ++ rest)) ≡ t
bytes_back_text t rest n h = rw (take_at (pad t n) rest n (length-pad t n h.fits)) (text_of-pad t n h.text)

pub bytes_back_rest : (t rest : List ℕ) (n : ℕ) → IsStrictText t n → drop n (pad t n ++ rest) ≡ rest
bytes_back_rest t rest n h = drop_at (pad t n) rest n (length-pad t n h.fits)

pub bytes_back_strict : (t : List ℕ) (n : ℕ) → IsText t → length t ≤ n → IsStrictText t n
bytes_back_strict t n text fits = record { text = text; fits = fits }

pub bytes_back_alone : (bytes : List ℕ) (n : ℕ) → IsPaddedText bytes n → byte_fault n bytes ≡ None
bytes_back_alone bytes n h =
    let clean : byte_fault n (pad (text_of bytes) n) ≡ None = rw (append-nil (pad (text_of bytes) n)) at (byte_fault-padded (text_of bytes) [] n (record { text = h.text; fits = h.fits })) in
    ap (byte_fault n) h.padded ∙ clean

pub bytes_back_front : (input : List ℕ) (n : ℕ) → n ≤ length input → IsPaddedText (take n input) n → byte_fault n input ≡ None
bytes_back_front input n = byte_fault-first_padded n input

pub ruleset bytes_back = (bytes_back_clean, bytes_back_first, bytes_back_text, bytes_back_rest, bytes_back_strict, bytes_back_alone, bytes_back_front)

pub split_joined_joined : (c : ℕ) (t : List ℕ) → join_with_byte c (slice_split (λ b. b == c) t) ≡ t
split_joined_joined = join_with_byte-slice_split

pub ruleset split_joined = (split_joined_back, split_joined_joined, split_joined_strict, texts_of_parts)

pub split_found_inside : (p : ℕ → Bool) (t : List ℕ) (at : ℕ) → position p t ≡ Some at → at < length t
split_found_inside p t i at = grind (arith, nat_tests)

pub split_found_before : (p : ℕ → Bool) (t : List ℕ) (at : ℕ) → position p t ≡ Some at → before_first p t ≡ take at t
split_found_before p t i at = let first : position_or_len p t ≡ i = grind (arith, nat_tests) in rw first refl

pub split_found_behind : (p : ℕ → Bool) (t : List ℕ) (at : ℕ) → position p t ≡ Some at → after_first p t ≡ drop (at + 1) t
split_found_behind p t i at = let first : position_or_len p t ≡ i = grind (arith, nat_tests) in rw first refl

pub split_found_whole : (p : ℕ → Bool) (t : List ℕ) → position p t ≡ None → before_first p t ≡ t
split_found_whole p t none = take_all (position_or_len p t) t (grind (arith, nat_tests))

pub ruleset split_found = (split_found_inside, split_found_before, split_found_behind, split_found_parts, split_found_whole, split_found_one)

pub ruleset text_position = (text_position_at, text_position_exact, text_position_missing, text_position_distinct)

pub ruleset byte_position = (byte_position_exact, byte_position_missing)

pub byte_split_before : (c : ℕ) (before after : List ℕ) → ¬ Contains before c → before_first (λ b. b == c) (before ++ c ∷ after) ≡ before
byte_split_before c before after none = before_first-joined c before after (All-absent c before none)

pub byte_split_after : (c : ℕ) (before after : List ℕ) → ¬ Contains before c → after_first (λ b. b == c) (before ++ c ∷ after) ≡ after
byte_split_after c before after none = after_first-joined c before after (All-absent c before none)

pub ruleset byte_split = (byte_split_whole, byte_split_absent, byte_split_joined, byte_split_before, byte_split_after)

pub joined_texts_lower : (c : ℕ) (ts : List (List ℕ)) → lowercase (join_with_byte c ts) ≡ join_with_byte (lower c) (map lowercase ts)
joined_texts_lower = map-joined lower

pub joined_texts_upper : (c : ℕ) (ts : List (List ℕ)) → uppercase (join_with_byte c ts) ≡ join_with_byte (raise c) (map uppercase ts)
joined_texts_upper = map-joined raise

pub ruleset joined_texts = (joined_texts_text, joined_texts_asked, joined_texts_lower, joined_texts_upper)

pub niche_fault_refused : (n : ℕ) → 0 < n → ¬ IsPaddedText (replicate n 255) n
niche_fault_refused n some padded =
    let low = IsAscii-padded (replicate n 255) n padded 0 in
    let first = get_or-replicate {A = ℕ} n 0 255 0 some in
    omega arith

pub niche_fault_fault : (n : ℕ) → 0 < n → fault_in n (replicate n 255) ≡ non_ascii
niche_fault_fault n some =
    let long = length-replicate {A = ℕ} n 255 in
    let first = get_or-replicate {A = ℕ} n 0 255 0 some in
    let high : first_fault (replicate n 255) ≡ Some non_ascii =
    first_fault-high (replicate n 255) 0 _ (IsScanned-none (replicate n 255)) (omega arith) (omega arith) in
    rw (fault_in-fits n (replicate n 255) (omega arith), high) refl

pub ruleset niche_fault = (niche_fault_refused, niche_fault_fault)

pub ruleset texts_packed = (texts_packed_packed, texts_packed_len, texts_packed_text)

pub same_as_std_upper : (b : ℕ) → is_upper b ≡ is_ascii_uppercase b
same_as_std_upper b = refl

pub same_as_std_lower : (b : ℕ) → is_lower b ≡ is_ascii_lowercase b
same_as_std_lower b = refl

pub same_as_std_digit : (b : ℕ) → is_digit b ≡ is_ascii_digit b
same_as_std_digit b = refl

pub same_as_std_letter : (b : ℕ) → is_alphabetic b ≡ is_ascii_alphabetic b
same_as_std_letter b = refl

pub ruleset same_as_std = (same_as_std_upper, same_as_std_lower, same_as_std_digit, same_as_std_letter, same_as_std_letter_or_digit, same_as_std_lowered, same_as_std_raised, same_as_std_lowercase, same_as_std_uppercase, same_as_std_each)

pub print_width_no_side : (s : _) (t : List ℕ) → IsText t → spec_fill s < 128 → s.align ≡ 0 → length t ≤ s.precision → padded s t ≡ t ++ replicate (s.width - length t) s.fill
print_width_no_side s t h low side = padded-after s t h low (rw side refl)

pub print_width_left : (s : _) (t : List ℕ) → IsText t → spec_fill s < 128 → s.align ≡ 1 → length t ≤ s.precision → padded s t ≡ t ++ replicate (s.width - length t) s.fill
print_width_left s t h low side = padded-after s t h low (rw side refl)

pub print_width_center : (s : _) (t : List ℕ) → IsText t → spec_fill s < 128 → s.align ≡ 2 → length t ≤ s.precision → let short = s.width - length t in padded s t ≡ replicate (short / 2) s.fill ++ (t ++ replicate (short - short / 2) s.fill)
print_width_center s t h low side = padded-between s t h low (rw side refl)

pub print_width_right : (s : _) (t : List ℕ) → IsText t → spec_fill s < 128 → s.align ≡ 3 → length t ≤ s.precision → padded s t ≡ replicate (s.width - length t) s.fill ++ t
print_width_right s t h low side = padded-before s t h low (rw side refl)

pub ruleset print_width = (print_width_chars, print_width_cut, print_width_styled, print_width_no_side, print_width_left, print_width_center, print_width_right, print_width_width)
