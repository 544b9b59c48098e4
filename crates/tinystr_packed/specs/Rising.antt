-- Strictly ascending texts, places among them, and what a search for a key returns.
use Rattle.std.specs.Prelude.{◌≡◌, ◌≢◌, ◌↔◌, ℕ, ◌+◌, ◌-◌, ◌<◌, ◌≤◌, ◌&&◌, Bool, true, false, List, [], ◌∷◌, length, take, slice_index_or, slice_get, nat_eq, All, Contains, Result, Some, IsOk, IfOk, IfErr}
use Rattle.std.specs.Cmp.Lexicographic.{slice_cmp}
use Rattle.std.specs.List.{flat_map, starts_with, count_by, position, slice_get}
use Rattle.std.specs.Ordering.{is_lt, nat_cmp}
use Rattle.std.specs.declared.cmp.Ordering.{Ordering}
use Rattle.std.specs.declared.cmp.Ordering.TheVariants.{Less, Greater}
use Rattle.std.specs.Option.{ok_or}
use Rattle.std.specs.Str.{bytes_eq}
use Rattle.std.specs.declared.option.Option.{Option}
use Rattle.std.specs.declared.option.Option.TheVariants.{None}
use Rattle.std.specs.declared.result.Result.{Result}
use Rattle.std.specs.declared.result.Result.TheVariants.{Ok, Err}
use Rattle.tinystr_words.specs.Text.{IsStrictText, pad}

-- the order of two texts: one is below another where it is Less
-- e.g. of "ab" and "b" it is Less
abbrev pub order : List ℕ → List ℕ → Ordering
order t s = slice_cmp nat_cmp t s

-- the text at an index, or the empty text past the end
-- e.g. at 1 in "a" "b" it is "b"
abbrev pub text_at : List (List ℕ) → ℕ → List ℕ
text_at texts k = slice_index_or texts k []

-- each text is below the next
-- e.g. "a" "b", but neither "b" "a" nor "a" "a"
abbrev pub IsRising : List (List ℕ) → Type 0
IsRising texts = (k : ℕ) → k + 1 < length texts → order (text_at texts k) (text_at texts (k + 1)) ≡ Less

-- the same, as a test that computes
abbrev pub is_rising : List (List ℕ) → Bool
is_rising [] = true
is_rising (t ∷ []) = true
is_rising (t ∷ s ∷ texts) = is_lt (order t s) && is_rising (s ∷ texts)

-- the text at i is the first that isn't above the one before it
-- e.g. 2 in "a" "b" "b"
pub record IsFirstFall (texts : List (List ℕ)) (i : ℕ) : Type 0 where
  pub behind : 0 < i
  pub inside : i < length texts
  pub falls : order (text_at texts (i - 1)) (text_at texts i) ≢ Less
  pub before : IsRising (take i texts)

-- the texts before i are below t, and those from i on are above
-- e.g. 1 for "b" in "a" "c"
pub record IsPlaceFor (t : List ℕ) (texts : List (List ℕ)) (i : ℕ) : Type 0 where
  pub inside : i ≤ length texts
  pub below : (k : ℕ) → k < i → order (text_at texts k) t ≡ Less
  pub above : (k : ℕ) → i ≤ k → k < length texts → order (text_at texts k) t ≡ Greater

-- the texts before i are below t, and none from i on is
-- e.g. 1 for "b" in "a" "b"
pub record IsFirstNotBelow (t : List ℕ) (texts : List (List ℕ)) (i : ℕ) : Type 0 where
  pub inside : i ≤ length texts
  pub below : (k : ℕ) → k < i → order (text_at texts k) t ≡ Less
  pub not_below : (k : ℕ) → i ≤ k → k < length texts → order (text_at texts k) t ≢ Less

-- the index of the first text that isn't below t is i to j, where j may be past all
pub record IsFirstNotBelowWithin (t : List ℕ) (texts : List (List ℕ)) (i j : ℕ) : Type 0 where
  pub ordered : i ≤ j
  pub inside : j ≤ length texts
  pub below : (k : ℕ) → k < i → order (text_at texts k) t ≡ Less
  pub not_below : (k : ℕ) → j ≤ k → k < length texts → order (text_at texts k) t ≢ Less

-- the texts from i to j - 1 begin with p, and no others do
-- e.g. 1 to 3 for "b" in "a" "ba" "bb"
pub record IsPrefixRange (p : List ℕ) (texts : List (List ℕ)) (i j : ℕ) : Type 0 where
  pub ordered : i ≤ j
  pub inside : j ≤ length texts
  pub before : (k : ℕ) → k < i → starts_with nat_eq (text_at texts k) p ≡ false
  pub within : (k : ℕ) → i ≤ k → k < j → starts_with nat_eq (text_at texts k) p ≡ true
  pub behind : (k : ℕ) → j ≤ k → k < length texts → starts_with nat_eq (text_at texts k) p ≡ false

-- the bytes are the padded forms of these strictly ascending texts, of at most n bytes each
-- e.g. of "a" "bc" at 2 they are 61 00 62 63
pub record ArePackedRising (texts : List (List ℕ)) (bytes : List ℕ) (n : ℕ) : Type 0 where
  pub strict : All (λ t. IsStrictText t n) texts
  pub joined : bytes ≡ flat_map (λ t. pad t n) texts
  pub rising : IsRising texts

-- the index of t where it is one of the texts, and else its place
-- e.g. in "a" "c" it is Ok 1 for "c", and Err 1 for "b"
pub record IsSearched (t : List ℕ) (texts : List (List ℕ)) (r : Result ℕ ℕ) : Type 0 where
  pub found : IfOk r (λ index. slice_get texts index ≡ Some t)
  pub place : IfErr r (λ place. IsPlaceFor t texts place)
  pub exact : IsOk r ↔ Contains texts t

-- the index of the text that is the key, or else how many texts are below the key
-- e.g. in "a" "c" it is Ok 1 of "c", and Err 1 of "b"
unfoldable pub search_result : List (List ℕ) → List ℕ → Result ℕ ℕ
search_result texts key = ok_or (position (bytes_eq key) texts) (count_by (λ t. is_lt (order t key)) texts)

-- the value at what a search returns, of values in the order of their keys
abbrev pub value_at : List (List ℕ) → Result ℕ ℕ → Option (List ℕ)
value_at values (Ok i) = slice_get values i
value_at values (Err i) = None
