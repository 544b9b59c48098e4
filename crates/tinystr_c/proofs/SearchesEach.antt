-- Searches for many keys.
use Rattle.std.proofs.Common.{◌≡◌, ℕ, ◌+◌, ◌-◌, ◌/◌, ◌<◌, ◌≤◌, ◌∙◌, List, ◌++◌, length, drop, get_or, All, ap, refl, sym, arith, inl, inr}
use Rattle.std.proofs.lemmas.Bool.{cases_lt}
use Rattle.std.proofs.lemmas.List.{drop_at, get_or_append_left, length-append, length-drop}
use Rattle.std.proofs.Math.Nat.{mul-div_cancel}
use Rattle.std.specs.List.{flat_map, position}
use Rattle.std.specs.Option.{IfSome}
use Rattle.std.specs.Result.{IfOk, IfErr}
use Rattle.std.specs.Str.{bytes_eq}
use Rattle.std.specs.declared.option.Option.{Option}
use Rattle.std.specs.declared.result.Result.{Result}
use Rattle.tinystr_hashed.specs.Reading.{IsHashed, records_in}
use Rattle.tinystr_words.specs.Text.{IsStrictText, pad}
use Rattle.tinystr_words.proofs.Reading.Records.{length-joined}
use Rattle.tinystr_packed.specs.Rising.{text_at, ArePackedRising, IsSearched}
use Rattle.tinystr_packed.proofs.PackedTexts.{packed_injective}
use Rattle.tinystr_c.specs.Codes.{NO_ROOM, success, failure, search_answer, position_answer}
use Rattle.tinystr_c.specs.Hashed.{SearchesHashed}
use Rattle.tinystr_c.specs.Tables.{Searches, AnswersEach}
use Rattle.tinystr_c.specs.declared.answer.TinystrResult.{TinystrResult}

-- what a search for a text returns is its answer
pub Searches-found : (bytes key : List ℕ) (n : ℕ) (s : Result ℕ ℕ) → IsStrictText key n → IfOk s (λ index. index < length bytes / n) → IfErr s (λ place. place ≤ length bytes / n)
    → ((texts : List (List ℕ)) → ArePackedRising texts bytes n → IsSearched key texts s) → Searches (search_answer s) bytes key n
Searches-found bytes key n s strict inside bound searched = record { refused = λ no. absurd (no strict); answered = λ _. (s, refl, inside, bound, searched) }

-- and of a search in a hashed table
pub SearchesHashed-found : (bytes key : List ℕ) (n : ℕ) (found : Option ℕ) → IsStrictText key n → IfSome found (λ index. index < length (records_in bytes) / n)
    → ((texts : List (List ℕ)) → IsHashed texts bytes n → found ≡ position (bytes_eq key) texts) → SearchesHashed (position_answer found) bytes key n
SearchesHashed-found bytes key n found strict inside searched = record { refused = λ no. absurd (no strict); answered = λ _. (found, refl, inside, searched) }

-- what holds for the elements before m, which stay, and for the eight from m on holds for all of them
pub eight_more : {X : Type 0} (d : X) (P : ℕ → X → Type 0) (xs ys : List X) (m : ℕ) → ((i : ℕ) → i < m → P i (get_or xs i d)) → ((i : ℕ) → i < m → get_or ys i d ≡ get_or xs i d)
    → ((i : ℕ) → i < 8 → P (m + i) (get_or ys (m + i) d)) → (i : ℕ) → i < m + 8 → P i (get_or ys i d)
eight_more d P xs ys m so_far stay eight i within = elim (cases_lt i m) [
  | inl less ↦ rw (stay i less) (so_far i less)
  | inr rest ↦ (let there : m + (i - m) ≡ i = omega arith in rw there at (eight (i - m) (omega arith)))
]

-- packed bytes have n for each text
count : (texts : List (List ℕ)) (keys : List ℕ) (n : ℕ) → 0 < n → All (λ t. IsStrictText t n) texts → keys ≡ flat_map (λ t. pad t n) texts → length keys / n ≡ length texts
count texts keys n some strict joined = rw (joined, length-joined n texts strict) (mul-div_cancel (length texts) some)

-- there are fewer places than texts
pub AnswersEach-no_room : (Answers : TinystrResult → List ℕ → Type 0) (texts : List (List ℕ)) (old : List TinystrResult) (keys : List ℕ) (n : ℕ) → 0 < n → All (λ t. IsStrictText t n) texts → keys ≡ flat_map (λ t. pad t n) texts
    → length old < length texts → AnswersEach Answers (failure NO_ROOM (length texts)) old old keys n
AnswersEach-no_room Answers texts old keys n some strict joined less =
    let counted = count texts keys n some strict joined in
    record {
      refused = λ no. absurd (no (record { texts = texts; each = strict; joined = joined }));
      no_room = λ _ _. (ap (failure NO_ROOM) (sym counted), refl);
      answered = λ _ fits. absurd (omega (arith, counted, less, fits));
    }

-- each text has its answer, and the other places are unchanged
pub AnswersEach-answered : (Answers : TinystrResult → List ℕ → Type 0) (texts : List (List ℕ)) (old front back : List TinystrResult) (keys : List ℕ) (n : ℕ) → 0 < n → All (λ t. IsStrictText t n) texts → keys ≡ flat_map (λ t. pad t n) texts
    → length texts ≤ length old → length front ≡ length texts → back ≡ drop (length texts) old → ((i : ℕ) → i < length texts → Answers (get_or front i (success 0)) (text_at texts i))
    → AnswersEach Answers (success (length texts)) old (front ++ back) keys n
AnswersEach-answered Answers texts old front back keys n some strict joined fits long after each =
    let counted = count texts keys n some strict joined in
    let all : length (front ++ back) ≡ length old = omega (arith, length-append front back, ap (λ (l : List TinystrResult). length l) after, length-drop (length texts) old, long, fits) in
    record {
      refused = λ no. absurd (no (record { texts = texts; each = strict; joined = joined }));
      no_room = λ _ less. absurd (omega (arith, counted, less, fits));
      answered = λ packed _. (
        ap success (sym counted),
        all,
        λ i within.
            let inside : i < length texts = omega (arith, counted, within) in
            let same = packed_injective n packed.texts texts some packed.each strict (sym packed.joined ∙ joined) in
            rw (get_or_append_left front back (success 0) i (omega (arith, long, inside)), same) (each i inside),
        rw counted (drop_at front back (length texts) long ∙ after),
      );
    }
