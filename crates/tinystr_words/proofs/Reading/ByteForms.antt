-- The fault of the byte form, position by position, and the padded texts that have none.
use Rattle.std.proofs.Common.{◌≡◌, ℕ, zero, suc, ◌+◌, ◌<◌, ◌≤◌, Bool, true, false, List, ◌++◌, length, get_or, take, Option, Some, None, refl, sym, ◌∙◌, arith, inl, inr}
use Rattle.std.specs.Option.{MatchOption, is_some, option_and_then}
use Rattle.std.specs.List.{find, range_with_len}
use Rattle.std.proofs.lemmas.Bool.{cases_lt}
use Rattle.std.proofs.lemmas.Bool.Decides.{nat_tests}
use Rattle.std.proofs.lemmas.List.{get_or-take, take-take, take_at, length-take-le, length-append}
use Rattle.tinystr_words.specs.Text.{IsStrictText, IsPaddedText, pad}
use Rattle.tinystr_words.specs.Reading.{is_faulty}
use Rattle.tinystr_words.specs.ByteForm.{ByteFault, byte_fault_at, byte_fault}
use Rattle.tinystr_words.specs.ByteForm.ByteFault.{too_short, null, non_ascii}
use Rattle.tinystr_words.proofs.Texts.{IsPaddedText-pad, length-pad}
use Rattle.tinystr_words.proofs.Reading.OnePass.{IsScanned, find-none, find-first, find-is, first_fault-clean, is_faulty-none, first_fault-padded, IsPaddedText-clean}

-- ---- the least position with a fault

abbrev has_fault : ℕ → List ℕ → ℕ → Bool
has_fault n input i = is_some (byte_fault_at n input i)

-- where no position below n has a fault, the bytes have none
byte_fault-none : (n : ℕ) (input : List ℕ) → ((k : ℕ) → k < n → byte_fault_at n input k ≡ None) → byte_fault n input ≡ None
unfolding byte_fault
byte_fault-none n input none =
    rw (find-none (has_fault n input) n (λ k below. rw (none k below) refl)) refl

-- the fault at a position below n is that of the bytes, if no earlier position has one
byte_fault-first : (n : ℕ) (input : List ℕ) (i : ℕ) (fault : ByteFault) → i < n → byte_fault_at n input i ≡ Some fault → ((k : ℕ) → k < i → byte_fault_at n input k ≡ None) → byte_fault n input ≡ Some fault
unfolding byte_fault
byte_fault-first n input i fault below here before =
    rw (find-first (has_fault n input) n i below (rw here refl) (λ k earlier. rw (before k earlier) refl)) here

-- where the bytes have no fault, no position below n has one
byte_fault-none_at : (n : ℕ) (input : List ℕ) → byte_fault n input ≡ None → (k : ℕ) → k < n → byte_fault_at n input k ≡ None
unfolding byte_fault
byte_fault-none_at n input none k below =
    elim (find (has_fault n input) (range_with_len 0 n)) as (λ o. MatchOption o ((k : ℕ) → k < n → has_fault n input k ≡ false) (λ i. has_fault n input i ≡ true) → option_and_then (byte_fault_at n input) o ≡ None → byte_fault_at n input k ≡ None) [
      | None ↦ λ clean e. let fails = clean k below in grind (arith, nat_tests)
      | Some i ↦ λ faulty e. let no : false ≡ true = rw e at faulty in cc
    ] (find-is (has_fault n input) n) none

-- ---- the tests at a position

-- a position inside the bytes that isn't faulty has no fault
byte_fault_at-none : (n : ℕ) (input : List ℕ) (i : ℕ) → i < length input → is_faulty input i ≡ false → byte_fault_at n input i ≡ None
byte_fault_at-none n input i inside clean = grind (arith, nat_tests)

-- and one with no fault is inside the bytes and isn't faulty
is_faulty-byte_fault_at : (n : ℕ) (input : List ℕ) (i : ℕ) → byte_fault_at n input i ≡ None → (i < length input) × (is_faulty input i ≡ false)
is_faulty-byte_fault_at n input i none = grind (arith, nat_tests)

-- ---- the fault that a pass finds

-- no position that a pass has tested has a fault
byte_fault_at-scanned : (n : ℕ) (input : List ℕ) (i : ℕ) (seen : Bool) → IsScanned input i seen → i ≤ length input → (k : ℕ) → k < i → byte_fault_at n input k ≡ None
byte_fault_at-scanned n input i seen h inside k below = byte_fault_at-none n input k (omega arith) (h.clean k below)

-- a pass that comes to the end of the bytes before position n finds them too short
pub byte_fault-short : (n : ℕ) (input : List ℕ) (i : ℕ) (seen : Bool) → IsScanned input i seen → i ≡ length input → i < n → byte_fault n input ≡ Some (too_short n)
byte_fault-short n input i seen h end short =
    byte_fault-first n input i (too_short n) short (grind (arith, nat_tests)) (byte_fault_at-scanned n input i seen h (omega arith))

-- one that comes to a byte above 0 after a NUL finds the fault of such a byte
pub byte_fault-null : (n : ℕ) (input : List ℕ) (i : ℕ) (seen : Bool) → IsScanned input i seen → seen ≡ true → i < length input → i < n → 0 < get_or input i 0 → byte_fault n input ≡ Some null
byte_fault-null n input i seen h after inside below some =
    byte_fault-first n input i null below (grind (arith, nat_tests)) (byte_fault_at-scanned n input i seen h (omega arith))

-- one that comes to a byte above 127, with no NUL before it, finds the fault of such a byte
pub byte_fault-high : (n : ℕ) (input : List ℕ) (i : ℕ) (seen : Bool) → IsScanned input i seen → seen ≡ false → i < length input → i < n → 127 < get_or input i 0 → byte_fault n input ≡ Some non_ascii
byte_fault-high n input i seen h before inside below high =
    byte_fault-first n input i non_ascii below (grind (arith, nat_tests)) (byte_fault_at-scanned n input i seen h (omega arith))

-- one that comes to position n finds no fault
pub byte_fault-whole : (n : ℕ) (input : List ℕ) (i : ℕ) (seen : Bool) → IsScanned input i seen → i ≡ n → n ≤ length input → byte_fault n input ≡ None
byte_fault-whole n input i seen h end enough =
    byte_fault-none n input (λ k below. byte_fault_at-scanned n input i seen h (omega arith) k (omega arith))

-- ---- bytes with no fault begin with a padded text

-- a position below n is faulty in the first n bytes exactly if it is in the whole list
is_faulty-take : (n : ℕ) (input : List ℕ) (k : ℕ) → k < n → is_faulty (take n input) k ≡ is_faulty input k
is_faulty-take n input k below = rw (get_or-take n input k 0 below, take-take k n input (omega arith)) refl

-- bytes with no fault are at least n
pub byte_fault-length : (n : ℕ) (input : List ℕ) → byte_fault n input ≡ None → n ≤ length input
byte_fault-length n input none =
    elim (cases_lt (length input) n) [
      | inl short ↦ absurd (let inside = (is_faulty-byte_fault_at n input (length input) (byte_fault-none_at n input none (length input) short)).0 in omega arith)
      | inr enough ↦ enough
    ]

-- and the first n of them are a padded text
pub IsPaddedText-read : (n : ℕ) (input : List ℕ) → byte_fault n input ≡ None → IsPaddedText (take n input) n
IsPaddedText-read n input none =
    let long = length-take-le n input (byte_fault-length n input none) in
    IsPaddedText-clean (take n input) n long
    (first_fault-clean (take n input) (λ k inside.
    is_faulty-take n input k (omega arith) ∙ (is_faulty-byte_fault_at n input k (byte_fault-none_at n input none k (omega arith))).1))

-- bytes whose first n are a padded text have no fault; callers cite bytes_back_front
pub byte_fault-first_padded : (n : ℕ) (input : List ℕ) → n ≤ length input → IsPaddedText (take n input) n → byte_fault n input ≡ None
byte_fault-first_padded n input enough padded =
    let long = length-take-le n input enough in
    byte_fault-none n input (λ k below.
    byte_fault_at-none n input k (omega arith)
    (sym (is_faulty-take n input k below) ∙ is_faulty-none (take n input) (first_fault-padded (take n input) n padded) k (omega arith)))

-- nor has a text that is padded to n bytes, whatever follows it
pub byte_fault-padded : (t rest : List ℕ) (n : ℕ) → IsStrictText t n → byte_fault n (pad t n ++ rest) ≡ None
byte_fault-padded t rest n h =
    let long = length-pad t n h.fits in
    byte_fault-first_padded n (pad t n ++ rest) (omega (arith, length-append (pad t n) rest))
    (rw (take_at (pad t n) rest n long) (IsPaddedText-pad t n h))

-- a pass over the first n bytes
pub ruleset byte_pass = (byte_fault-short, byte_fault-null, byte_fault-high, byte_fault-whole, get_or-take, length-take-le)

-- what the reader takes of bytes with no fault
pub ruleset byte_reading = (byte_fault-length, IsPaddedText-read, byte_fault-first_padded)
