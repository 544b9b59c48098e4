-- Code units are a text exactly where each piece of them is.
use Rattle.std.proofs.Common.{ℕ, ◌+◌, ◌-◌, ◌<◌, ◌≤◌, ◌≡◌, ◌↔◌, Bool, ◌&&◌, IsTrue, List, length, get_or, take, drop, arith, inl, inr, ap, false, map, set, sym, true, ◌%◌, ◌∙◌}
use Rattle.std.proofs.lemmas.Bool.{cases_lt}
use Rattle.std.proofs.lemmas.Bool.Decides.{Decides-and, Decides-like, nat_tests}
use Rattle.std.proofs.lemmas.List.{get_or-drop, get_or-take, length-drop, length-take, take-take, get_or-map, get_or_past, length-map, take-map, take_all}
use Rattle.std.proofs.lemmas.List.Elements.{All-more, All-take, All-drop, All-from_get_or, All-map, All-weaker}
use Rattle.std.specs.List.{All}
use Rattle.tinystr_words.specs.Text.{IsText, IsTextByte, IsPaddedText, IsStrictText, pad, text_of}
use Rattle.std.specs.Prelude.{MatchBool}
use Rattle.std.proofs.lemmas.Grind.{common_steps, same_number_lists}
use Rattle.tinystr_words.specs.Reading.{lossy, lossy_byte}
use Rattle.tinystr_words.proofs.Texts.{IsPaddedText-made, NULS, get_or-nuls, get_or-pad, length-pad, text_of-made}
use Rattle.std.proofs.lemmas.List.Folds.{map_fixed}
use Rattle.tinystr_words.proofs.Pieces.Word.{map-mod_text}
use Rattle.tinystr_words.specs.Private.{IsReadPiece}
use Rattle.tinystr_words.proofs.Pieces.Copying.{IsPaddedText-pad_take, pad-full}

-- one more item
pub All-take-Decides : {X : Type 0} (P : X → Type 0) (xs : List X) (i : ℕ) (d : X) (tested here : Bool) → i < length xs → (IsTrue tested ↔ All P (take i xs))
    → (IsTrue here ↔ P (get_or xs i d)) → (IsTrue (tested && here) ↔ All P (take (i + 1) xs))
All-take-Decides P xs i d tested here inside p q =
    Decides-like (tested && here) (λ h. All-more P xs i d inside h.0 h.1)
    (λ h. (rw (take-take i (i + 1) xs (omega arith)) at (All-take P i (take (i + 1) xs) h), rw (← get_or-take (i + 1) xs i d (omega arith)) (h i d (omega (arith, length-take (i + 1) xs)))))
    (Decides-and tested here p q)

-- a front and a back that are all code units
IsText-ends : (units : List ℕ) (n : ℕ) → n ≤ length units → length units ≤ n + n
    → IsText (take n units) × IsText (drop (length units - n) units) → IsText units
IsText-ends units n least most ends = All-from_get_or IsTextByte units 0 (λ k inside. elim (cases_lt k n) [
  | inl front ↦ rw (← get_or-take n units k 0 front) (ends.0 k 0 (omega (arith, length-take n units)))
  | inr back ↦ (let s = length units - n in
      let there : s + (k - s) ≡ k = omega arith in
      rw (← there, ← get_or-drop) (ends.1 (k - s) 0 (omega (arith, length-drop s units))))
])

-- the tests of both ends are that of all code units
pub IsText-ends-Decides : (units : List ℕ) (n : ℕ) (front back : Bool) → n ≤ length units → length units ≤ n + n
    → (IsTrue front ↔ IsText (take n units)) → (IsTrue back ↔ IsText (drop (length units - n) units)) → (IsTrue (front && back) ↔ IsText units)
IsText-ends-Decides units n front back least most p q =
    Decides-like (front && back) (IsText-ends units n least most) (λ h. (All-take IsTextByte n units h, All-drop IsTextByte (length units - n) units h)) (Decides-and front back p q)

-- ---- code units that were read as a whole, and their array

abbrev Tested : Bool → List ℕ → ℕ → ℕ → Type 0
Tested all units i j = MatchBool all ((k : ℕ) → i ≤ k → k < j → IsTextByte (get_or units k 0)) (¬ IsText units)

-- one more code unit tested
Tested-more : (units : List ℕ) (i j : ℕ) (all char : Bool) → j < length units → Tested all units i j → (IsTrue char ↔ IsTextByte (get_or units j 0)) → Tested (all && char) units i (j + 1)
Tested-more units i j false char inside h is = h
Tested-more units i j true true inside h is = grind (arith, common_steps)
Tested-more units i j true false inside h is = λ text. (let no : false ≡ true = is.1 (text j 0 inside) in grind arith)

-- characters are read as they are
map-lossy_byte : (r : ℕ) (t : List ℕ) → IsText t → map (lossy_byte r) t ≡ t
map-lossy_byte r t h = map_fixed (lossy_byte r) t (All-weaker IsTextByte (λ u. lossy_byte r u ≡ u) (λ u char. grind (arith, nat_tests)) t h)

-- what was read from one end to the other
pub IsReadPiece-whole : (all : Bool) (bytes units : List ℕ) (r n : ℕ) → length units ≤ n → length bytes ≡ n
    → IsReadPiece all (NULS n) bytes units r 0 (length units) → bytes ≡ pad (map (lossy_byte r) units) n
IsReadPiece-whole all bytes units r n fits len read =
    let made = map (lossy_byte r) units in
    let long : length made ≡ length units = length-map units (lossy_byte r) in
    same_number_lists bytes (pad made n) (len ∙ sym (length-pad made n (omega arith))) (λ k below. rw get_or-pad (elim (cases_lt k (length units)) [
      | inl inside ↦ read.read k (omega arith) inside
      | inr outside ↦ read.kept k (get_or-nuls n k ∙ sym (get_or_past made k 0 (omega arith)))
    ]))

-- an array made of a text
IsPaddedText-text : (bytes units : List ℕ) (n : ℕ) → length units ≤ n → IsText units → bytes ≡ pad units n
    → IsStrictText units n × (IsPaddedText bytes n × (text_of bytes ≡ units))
IsPaddedText-text bytes units n fits text made =
    let strict : IsStrictText units n = record { text = text; fits = fits } in
    (strict, (IsPaddedText-made bytes units n made strict, text_of-made bytes units n made text))

-- where all code units are characters, they are read as they are
pub IsReadPiece-text : (bytes units : List ℕ) (r n : ℕ) → length units ≤ n → length bytes ≡ n
    → IsReadPiece true (NULS n) bytes units r 0 (length units) → IsStrictText units n × (IsPaddedText bytes n × (text_of bytes ≡ units))
IsReadPiece-text bytes units r n fits len read =
    let text : IsText units = All-from_get_or IsTextByte units 0 (λ k inside. read.tested k (omega arith) inside) in
    IsPaddedText-text bytes units n fits text (IsReadPiece-whole true bytes units r n fits len read ∙ ap (λ (l : List ℕ). pad l n) (map-lossy_byte r units text))

-- a text that fills its array
pub IsPaddedText-full : {X : Type 0} (number : X → ℕ) (bytes : List ℕ) (units : List X) (n : ℕ) → length units ≡ n → IsText (map number units)
    → bytes ≡ map (λ u. number u % 256) units → IsStrictText (map number units) n × (IsPaddedText bytes n × (text_of bytes ≡ map number units))
IsPaddedText-full number bytes units n len text made =
    let long : length (map number units) ≡ length units = length-map units number in
    IsPaddedText-text bytes (map number units) n (omega arith) text (made ∙ map-mod_text number units text ∙ sym (pad-full (map number units) n (omega arith)))

-- one more code unit
pub IsReadPiece-more : (old bytes units : List ℕ) (r i j x : ℕ) (all char : Bool) → length units ≤ length bytes → j < length units → IsReadPiece all old bytes units r i j
    → (IsTrue char ↔ IsTextByte (get_or units j 0)) → x ≡ lossy_byte r (get_or units j 0)
    → IsReadPiece (all && char) old (set bytes j x) units r i (j + 1)
IsReadPiece-more old bytes units r i j x all char fits inside h is copy =
    let here : get_or (map (lossy_byte r) units) j 0 ≡ x = get_or-map (lossy_byte r) units j 0 0 inside ∙ sym copy in
    record {
      tested = Tested-more units i j all char inside h.tested is;
      read = grind (arith, common_steps);
      kept = grind (arith, common_steps);
    }

-- what a lossy reader puts is a character
IsTextByte-lossy_byte : (r u : ℕ) → IsTextByte r → IsTextByte (lossy_byte r u)
IsTextByte-lossy_byte r u h = grind (arith, nat_tests)

-- the code units that fit, with the replacement for each that isn't a character
pub lossy_is_padded : (bytes units : List ℕ) (r n : ℕ) → IsTextByte r → bytes ≡ pad (lossy units r n) n → IsPaddedText bytes n × (text_of bytes ≡ lossy units r n)
lossy_is_padded bytes units r n h made =
    let short : take n (map (lossy_byte r) units) ≡ lossy units r n = take-map (lossy_byte r) n units in
    let text : IsText (map (lossy_byte r) units) = All-map IsTextByte (lossy_byte r) units (λ i d inside. IsTextByte-lossy_byte r (get_or units i d) h) in
    rw short at (IsPaddedText-pad_take bytes (map (lossy_byte r) units) n (rw short made) text)

-- the first n code units, as the code cuts them
pub lossy-front : {X : Type 0} (number : X → ℕ) (units : List X) (r n : ℕ) → map (lossy_byte r) (map number (take n units)) ≡ lossy (map number units) r n
lossy-front number units r n = ap (λ (l : List ℕ). map (lossy_byte r) l) (sym (take-map number n units))

-- which are all that there are
pub lossy-all : {X : Type 0} (number : X → ℕ) (units : List X) (r n : ℕ) → length units ≤ n → map (lossy_byte r) (map number units) ≡ lossy (map number units) r n
lossy-all number units r n fits = ap (λ (l : List ℕ). map (lossy_byte r) l) (sym (take_all n (map number units) (omega (arith, length-map units number))))

-- or fill the capacity
pub lossy-full : {X : Type 0} (number : X → ℕ) (units : List X) (r n : ℕ) → n ≤ length units → map (lossy_byte r) (map number (take n units)) ≡ pad (lossy (map number units) r n) n
lossy-full number units r n full =
    let made = lossy (map number units) r n in
    let len : length made ≡ n = length-map (take n (map number units)) (lossy_byte r) ∙ length-take n (map number units) ∙ omega (arith, length-map units number) in
    lossy-front number units r n ∙ sym (pad-full made n (omega arith))

pub ruleset lossy_pieces = (length-map, IsReadPiece-whole, lossy-all, lossy-full, lossy-front)
