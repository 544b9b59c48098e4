-- Replies to a text in two capacities, and to records.
use Rattle.std.proofs.Common.{◌≡◌, ℕ, ◌<◌, ◌≤◌, List, length, take, min, refl, arith, take_all, length-take, ◌/◌, ◌%◌, true, false, not, ◌++◌, None, Some, codes}
use Rattle.std.proofs.lemmas.Bool.Decides.{nat_tests}
use Rattle.std.proofs.lemmas.List.{take_min}
use Rattle.tinystr_words.specs.Reading.{fault_in, lossy}
use Rattle.tinystr_words.specs.Reading.Fault.{too_long}
use Rattle.tinystr_lines.specs.declared.command.TextCall.{TextCall}
use Rattle.tinystr_lines.specs.Reply.{call_reply, fault_text, replacement, bad_index_text, first_bad_record, records_reply}
use Rattle.std.specs.Fmt.{decimal}
use Rattle.tinystr_words.specs.Text.{IsPaddedText, is_padded_text}
use Rattle.tinystr_words.specs.Packed.{IsPacked, IsFirstBad, record_at}
use Rattle.tinystr_words.proofs.Reading.Records.{IsPacked-length, IsPacked-record}
use Rattle.tinystr_words.proofs.Reading.OnePass.{find-none, find-first}
use Rattle.tinystr_words.proofs.Reading.Decided.{is_padded_text-Decides, is_strict_text-Decides}

-- ---- a text that fits in two capacities gets the same reply at both

pub call_reply-fits : (n m : ℕ) (call : TextCall) (units : List ℕ) → length units ≤ n → length units ≤ m → call_reply n call units ≡ call_reply m call units
unfolding call_reply fault_in
call_reply-fits n m call units in_n in_m = grind (arith, nat_tests)

pub call_reply-too_long : (n : ℕ) (call : TextCall) (units : List ℕ) → n < length units → call_reply n call units ≡ fault_text (too_long n (length units))
unfolding call_reply fault_in
call_reply-too_long n call units long = grind (arith, nat_tests)

-- in the two capacities that hold all others
pub call_reply-in_8 : (n : ℕ) (call : TextCall) (units : List ℕ) → length units ≤ n → length units ≤ 8 → call_reply n call units ≡ call_reply 8 call units
call_reply-in_8 n call units = call_reply-fits n 8 call units

pub call_reply-in_32 : (n : ℕ) (call : TextCall) (units : List ℕ) → length units ≤ n → n ≤ 32 → call_reply n call units ≡ call_reply 32 call units
call_reply-in_32 n call units fits small = call_reply-fits n 32 call units fits (omega arith)

pub ruleset call_replies = (call_reply-in_8, call_reply-in_32, call_reply-too_long)

-- the units after a capacity are left out, whether there or before
pub lossy-take : (n m : ℕ) (units : List ℕ) → n ≤ m → lossy (take (min n (length units)) units) replacement m ≡ lossy units replacement n
lossy-take n m units le =
    let kept = length-take n units in
    rw (take_min n units, take_all m (take n units) (omega (arith, kept))) refl

-- ---- the first bad record, as the check of records finds it

-- the test of a record that isn't a padded text, and of one that is
not_padded_passes : (raw : List ℕ) (n : ℕ) → ¬ IsPaddedText raw n → not (is_padded_text raw n) ≡ true
not_padded_passes raw n bad = let decides = is_padded_text-Decides raw n in grind arith

padded_fails : (raw : List ℕ) (n : ℕ) → IsPaddedText raw n → not (is_padded_text raw n) ≡ false
padded_fails raw n good = let decides = is_padded_text-Decides raw n in grind arith

-- packed records have no bad one
first_bad_record-none : (bytes : List ℕ) (n : ℕ) → 0 < n → IsPacked bytes n → first_bad_record n bytes ≡ None
first_bad_record-none bytes n some packed =
    find-none _ (length bytes / n) (λ i below. padded_fails (record_at n bytes i) n (IsPacked-record bytes n i packed (grind arith)))

-- the record that is first bad is the one that the search finds
first_bad_record-some : (bytes : List ℕ) (n i : ℕ) → 0 < n → length bytes % n ≡ 0 → IsFirstBad bytes n i → first_bad_record n bytes ≡ Some i
first_bad_record-some bytes n i some whole first =
    find-first _ (length bytes / n) i (let inside = first.inside in grind arith) (not_padded_passes (record_at n bytes i) n first.bad) (λ k before. padded_fails (record_at n bytes k) n (first.before k before))

-- the reply to packed records
pub records_reply-packed : (bytes : List ℕ) (n : ℕ) → 0 < n → IsPacked bytes n → records_reply n bytes ≡ codes "ok " ++ decimal (length bytes / n)
unfolding records_reply
records_reply-packed bytes n some packed =
    let length_is = IsPacked-length bytes n packed in
    rw (first_bad_record-none bytes n some packed) (grind (arith, nat_tests))

-- the reply to a length that is no whole number of records
pub records_reply-length : (bytes : List ℕ) (n : ℕ) → 0 < n → (length bytes % n ≡ 0 → ⊥) → records_reply n bytes ≡ codes "bad length " ++ decimal (length bytes)
unfolding records_reply
records_reply-length bytes n some ragged = grind (arith, nat_tests)

-- the reply to records of which one is bad
pub records_reply-bad : (bytes : List ℕ) (n i : ℕ) → 0 < n → length bytes % n ≡ 0 → IsFirstBad bytes n i
    → records_reply n bytes ≡ bad_index_text i ++ fault_text (fault_in n (record_at n bytes i))
unfolding records_reply
records_reply-bad bytes n i some length_is first = rw (first_bad_record-some bytes n i some length_is first) (grind (arith, nat_tests))

pub ruleset records_replies = (records_reply-packed, records_reply-length)

pub ruleset strict_texts = is_strict_text-Decides
