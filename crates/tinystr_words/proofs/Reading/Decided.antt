-- The tests of strict and of padded texts and of packed records are true exactly of these, and what a strict reader gives
-- is `strict_of`.
use Rattle.std.proofs.Common.{◌≡◌, ◌↔◌, ℕ, ◌<◌, ◌≤◌, ◌/◌, ◌%◌, ◌==◌, nat_lt, nat_le, true, false, List, length, refl, arith}
use Rattle.std.specs.Bool.{Decides, one_answer}
use Rattle.std.specs.List.{list_all}
use Rattle.std.specs.Result.{IsOk, IfOk, result_ok}
use Rattle.std.specs.declared.result.Result.{Result}
use Rattle.std.specs.declared.result.Result.TheVariants.{Ok, Err}
use Rattle.std.specs.Str.{bytes_eq}
use Rattle.std.proofs.lemmas.Bool.Decides.{Decides-and, Decides-by_and, Decides-eqb, Decides-like, Decides-ltb, nat_tests}
use Rattle.std.proofs.lemmas.Slice.Eq.{bytes_eq-Decides}
use Rattle.tinystr_words.specs.Text.{IsText, IsTextByte, IsStrictText, IsPaddedText, text_of, pad, is_text_byte, is_strict_text, is_padded_text}
use Rattle.tinystr_words.specs.Packed.{IsPacked, is_packed, records_of}
use Rattle.tinystr_words.specs.Reading.{strict_of}
use Rattle.tinystr_words.proofs.Reading.Records.{AllPadded-packed, AreRecords, IsPacked-length, IsPacked-records, length-first_chunks}

-- of a byte of a text
pub is_text_byte-Decides : (b : ℕ) → Decides (is_text_byte b) (IsTextByte b)
is_text_byte-Decides b = Decides-and (nat_lt 0 b) (nat_lt b 128) (Decides-ltb 0 b) (Decides-ltb b 128)

-- the test of all bytes is true exactly of a text
is_text-Decides : (t : List ℕ) → Decides (list_all is_text_byte t) (IsText t)
is_text-Decides t =
    Decides-by_and is_text_byte IsTextByte (list_all is_text_byte) is_text_byte-Decides refl (λ _ _. refl) t

-- the test of the length is true exactly of one that fits
fits-Decides : (t : List ℕ) (n : ℕ) → Decides (nat_le (length t) n) (length t ≤ n)
fits-Decides t n = (λ yes. grind (arith, nat_tests), λ h. grind (arith, nat_tests))

-- of a strict text; callers cite tests_decide_strict
pub is_strict_text-Decides : (t : List ℕ) (n : ℕ) → Decides (is_strict_text t n) (IsStrictText t n)
is_strict_text-Decides t n =
    Decides-like (is_strict_text t n) (λ h. record { text = h.1; fits = h.0 }) (λ h. (h.fits, h.text))
    (Decides-and (nat_le (length t) n) (list_all is_text_byte t) (fits-Decides t n) (is_text-Decides t))

-- of a padded text
pub is_padded_text-Decides : (bytes : List ℕ) (n : ℕ) → Decides (is_padded_text bytes n) (IsPaddedText bytes n)
is_padded_text-Decides bytes n =
    Decides-like (is_padded_text bytes n)
    (λ h. record { text = h.0.text; fits = h.0.fits; padded = h.1 }) (λ h. (record { text = h.text; fits = h.fits }, h.padded))
    (Decides-and (is_strict_text (text_of bytes) n) (bytes_eq bytes (pad (text_of bytes) n))
    (is_strict_text-Decides (text_of bytes) n) (bytes_eq-Decides bytes (pad (text_of bytes) n)))

-- of packed records
AreRecords-all : (bytes : List ℕ) (n : ℕ) → length bytes % n ≡ 0 → AreRecords (records_of n bytes) bytes n
AreRecords-all bytes n whole = record { are = refl; count = length-first_chunks n (length bytes / n) bytes; whole = whole }

pub is_packed-Decides : (bytes : List ℕ) (n : ℕ) → 0 < n → Decides (is_packed bytes n) (IsPacked bytes n)
is_packed-Decides bytes n some =
    Decides-like (is_packed bytes n)
    (λ h. IsPacked-records (records_of n bytes) bytes n (AreRecords-all bytes n h.0) h.1)
    (λ h. let whole = IsPacked-length bytes n h in (whole, AllPadded-packed (records_of n bytes) bytes n (AreRecords-all bytes n whole) some h))
    (Decides-and (length bytes % n == 0) (list_all (λ raw. is_padded_text raw n) (records_of n bytes)) (Decides-eqb (length bytes % n) 0)
    (Decides-by_and (λ raw. is_padded_text raw n) (λ raw. IsPaddedText raw n) (list_all (λ raw. is_padded_text raw n)) (λ raw. is_padded_text-Decides raw n) refl (λ _ _. refl) (records_of n bytes)))

-- a reader that takes exactly the strict texts, each as it is, gives `strict_of`
pub result_ok-strict_of : {E : Type 0} (r : Result (List ℕ) E) (units : List ℕ) (n : ℕ) → (IsOk r ↔ IsStrictText units n) → IfOk r (λ t. t ≡ units) → result_ok r ≡ strict_of n units
result_ok-strict_of (Ok t) units n accepted text =
    let strict : is_strict_text units n ≡ true = one_answer (is_strict_text units n) true (is_strict_text-Decides units n) accepted in
    rw (text, strict) refl
result_ok-strict_of (Err e) units n accepted text =
    let refused : is_strict_text units n ≡ false = one_answer (is_strict_text units n) false (is_strict_text-Decides units n) accepted in
    rw refused refl
