-- Eight searches at a time.
use Rattle.std.proofs.Common.{◌≡◌, ◌≢◌, ℕ, suc, zero, ◌+◌, ◌-◌, ◌/◌, ◌<◌, ◌≤◌, List, [], ◌∷◌, length, map, take, drop, get_or, slice_set, sym, ap, ◌∙◌, arith, nat_lt, cond, inl, inr}
use Rattle.std.specs.Int.{from_be_bytes, w64}
use Rattle.std.specs.declared.result.Result.{Result}
use Rattle.std.specs.declared.result.Result.TheVariants.{Ok}
use Rattle.std.proofs.lemmas.Bool.{cases_lt}
use Rattle.std.proofs.lemmas.Bool.Decides.{nat_tests}
use Rattle.std.proofs.lemmas.List.{at_drop_more, get_or-replicate, get_or-set_other, get_or-set_same, length-take, places, get_or_default, length-set}
use Rattle.tinystr_words.specs.Text.{IsPaddedText, IsStrictText, pad, text_of}
use Rattle.tinystr_words.proofs.Texts.{get_or-pad, length-pad}
use Rattle.tinystr_packed.specs.Private.{number_at, pair_at, paired, IsPairOfText, AreNumbered, AreReady, AreWithin, AreAscending, IsPlaceWithin, ArePlacesWithin}
use Rattle.tinystr_packed.specs.Rising.{text_at, search_result}
use Rattle.tinystr_packed.proofs.RisingTexts.{ascii-padded}
use Rattle.std.proofs.lemmas.List.Elements.{All-get_or}

-- eight bytes of a text spell a number without its highest bit
from_be_bytes-fits : (bs : List ℕ) → length bs ≡ 8 → ((i : ℕ) → get_or bs i 0 < 128) → from_be_bytes w64 bs < 9223372036854775808
from_be_bytes-fits bs long bytes = omega (arith, bytes 0, bytes 1, bytes 2, bytes 3, bytes 4, bytes 5, bytes 6, bytes 7)

pub number_at-fits : (raw : List ℕ) (n s : ℕ) → IsPaddedText raw n → number_at s raw < 9223372036854775808
unfolding number_at
number_at-fits raw n s h =
    let eight = take 8 (drop s raw) in
    from_be_bytes-fits (pad eight 8) (length-pad eight 8 (omega (arith, length-take 8 (drop s raw)))) (λ i. rw (get_or-pad eight 8 i) (let byte = ascii-padded raw n (s + i) h in grind (arith, places, byte)))

-- a range halves where the number of its middle is below w, or isn't
pub IsPlaceWithin-halved : (n s : ℕ) (records : List (List ℕ)) (w base size taken : ℕ) → IsPlaceWithin n s records w base (base + size) → 0 < size → taken ≤ size - size / 2
    → (AreNumbered n s records → taken ≡ cond (nat_lt (pair_at s (text_at records (base + size / 2))) w) (size - size / 2) 0) → IsPlaceWithin n s records w (base + taken) (base + taken + size / 2)
IsPlaceWithin-halved n s records w base size taken h some le chosen = record {
  ordered = omega arith;
  inside = omega (arith, h.inside);
  below = λ p k before. elim (cases_lt (pair_at s (text_at records (base + size / 2))) w) [
    | inl less ↦ omega (arith, p.rising.each k (base + size / 2) (omega arith) (omega (arith, h.inside)), less)
    | inr rest ↦ (let none : taken ≡ 0 = grind (arith, nat_tests, chosen p) in h.below p k (omega arith))
  ];
  not_below = λ p k from inside. elim (cases_lt (pair_at s (text_at records (base + size / 2))) w) [
    | inl less ↦ (let half : taken ≡ size - size / 2 = grind (arith, nat_tests, chosen p) in h.not_below p k (omega arith) inside)
    | inr rest ↦ omega (arith, p.rising.each (base + size / 2) k (omega arith) inside, rest)
  ];
}

-- of eight ascending numbers, none is below one before it
pub AreAscending-later : (w : ℕ → ℕ) → AreAscending w → (i j : ℕ) → i ≤ j → j < 8 → w i ≤ w j
AreAscending-later w up i zero le less =
    let same : i ≡ 0 = omega arith in
    rw same (omega arith)
AreAscending-later w up i (suc j) le less = elim (cases_lt i (suc j)) [
  | inl before ↦ (let next : j + 1 ≡ suc j = omega arith in
      omega (arith, AreAscending-later w up i j (omega arith) (omega arith), rw next at (up.each j (omega arith))))
  | inr rest ↦ (let same : i ≡ suc j = omega arith in rw same (omega arith))
]

-- ---- eight of something, of which one more is put in its place

-- what holds for those before it, and for it, holds for all of these
pub so_far-set : {X : Type 0} (d : X) (P : ℕ → X → Type 0) (xs : List X) (m : ℕ) (x : X) → m < length xs → ((i : ℕ) → i < m → P i (get_or xs i d)) → P m x → (i : ℕ) → i < m + 1 → P i (get_or (slice_set xs m x) i d)
so_far-set d P xs m x inside before here i within = elim (cases_lt i m) [
  | inl less ↦ rw (get_or-set_other xs m i x d (λ e. absurd (omega arith))) (before i less)
  | inr rest ↦ (let same : i ≡ m = omega arith in rw (same, get_or-set_same xs m x d inside) here)
]

-- and what holds for those after it still holds
pub still-set : (P : ℕ → ℕ → Type 0) (xs : List ℕ) (m x : ℕ) → ((i : ℕ) → m ≤ i → i < 8 → P i (get_or xs i 0)) → (i : ℕ) → m + 1 ≤ i → i < 8 → P i (get_or (slice_set xs m x) i 0)
still-set P xs m x after i from within = rw (get_or-set_other xs m i x 0 (λ e. absurd (omega arith))) (after i (omega arith) within)

-- the same for two lists
pub so_far-set_both : (P : ℕ → ℕ → ℕ → Type 0) (xs ys : List ℕ) (m x y : ℕ) → m < length xs → m < length ys → ((i : ℕ) → i < m → P i (get_or xs i 0) (get_or ys i 0)) → P m x y
    → (i : ℕ) → i < m + 1 → P i (get_or (slice_set xs m x) i 0) (get_or (slice_set ys m y) i 0)
so_far-set_both P xs ys m x y inside within before here i below = elim (cases_lt i m) [
  | inl less ↦ (let other : i ≢ m = λ e. absurd (omega arith) in
      rw (get_or-set_other xs m i x 0 other, get_or-set_other ys m i y 0 other) (before i less))
  | inr rest ↦ (let same : i ≡ m = omega arith in rw (same, get_or-set_same xs m x 0 inside, get_or-set_same ys m y 0 within) here)
]

-- the number of a key
pub record IsNumberOf (n start : ℕ) (key : List ℕ) (first next : ℕ) : Type 0 where
  pub text : IsPairOfText n first next
  pub number : paired first next ≡ pair_at start (pad key n)
  pub strict : IsStrictText key n

pub IsNumberOf-bytes : (n start : ℕ) (key bytes : List ℕ) (first next : ℕ) → (IsPaddedText bytes n → IsPairOfText n first next) → paired first next ≡ pair_at start bytes → bytes ≡ pad key n → text_of bytes ≡ key → IsPaddedText bytes n → IsNumberOf n start key first next
IsNumberOf-bytes n start key bytes first next pair number is text padded = record {
  text = pair padded;
  number = number ∙ ap (pair_at start) is;
  strict = rw (← text) (record { text = padded.text; fits = padded.fits });
}

pub ruleset numbers_so_far = (get_or_default, length-set, so_far-set_both, IsNumberOf-bytes)

-- at first all places are the start of a range
pub ArePlacesWithin_start : (n s : ℕ) (records : List (List ℕ)) (w : ℕ → ℕ) (i j : ℕ) → AreWithin n s records w i j → ArePlacesWithin n s records w (i ∷ i ∷ i ∷ i ∷ i ∷ i ∷ i ∷ i ∷ []) (j - i)
ArePlacesWithin_start n s records w i j h =
    let end : i + (j - i) ≡ j = omega (arith, (h.each 0 (omega arith)).ordered) in
    record { each = λ lane within. rw (get_or-replicate {A = ℕ} 8 lane i 0 within, end) (h.each lane within) }

-- ---- answers for eight keys

-- the answer that is ready for the next key
pub AreReady-first : (texts keys : List (List ℕ)) (answers : List (Result ℕ ℕ)) (m n : ℕ) → 0 < n → AreReady texts keys answers m n → get_or answers (8 - n) (Ok 0) ≡ search_result texts (text_at keys m)
AreReady-first texts keys answers m n some h =
    let a : m + 0 ≡ m = omega arith in
    let b : 8 - n + 0 ≡ 8 - n = omega arith in
    rw (a, b) at (h 0 some)

-- the first of the remaining answers
pub search_result-next : (texts keys : List (List ℕ)) (m : ℕ) (r : Result ℕ ℕ) → m < length keys → r ≡ search_result texts (text_at keys m) → map (search_result texts) (drop m keys) ≡ r ∷ map (search_result texts) (drop (m + 1) keys)
search_result-next texts keys m r inside is = at_drop_more (map (search_result texts)) keys m [] inside ∙ ap (λ (x : Result ℕ ℕ). x ∷ map (search_result texts) (drop (m + 1) keys)) (sym is)

pub ruleset halves = (nat_tests, IsPlaceWithin-halved)

pub ruleset ready = (AreReady-first, search_result-next)

pub ruleset elements = (get_or_default, All-get_or)

pub ruleset answers_so_far = (get_or_default, length-set, so_far-set)
