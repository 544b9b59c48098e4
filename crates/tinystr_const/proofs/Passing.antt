-- A question that is asked of each byte, where NUL passes.
use Rattle.std.proofs.Common.{Bool, List, cond, not, zero, suc, [], ◌∷◌, ◌==◌, ◌||◌, ap₂, ap, arith, drop, false, length, refl, slice_index_or, slice_set, sym, take, true, ℕ, ◌&&◌, ◌+◌, ◌-◌, ◌∙◌, ◌≡◌}
use Rattle.std.proofs.lemmas.List.{take-append-drop}
use Rattle.std.specs.List.{list_all}
use Rattle.std.proofs.lemmas.Bool.Decides.{nat_tests}
use Rattle.std.proofs.lemmas.List.Folds.{list_all-append}
use Rattle.std.proofs.lemmas.List.Elements.{All-head, All-tail}
use Rattle.tinystr_words.specs.Classes.{ask}
use Rattle.tinystr_words.specs.Text.{IsPadded, IsText, IsTextByte, text_of}
use Rattle.tinystr_words.specs.declared.question.Question.{Question}
use Rattle.tinystr_words.specs.Questions.{later_class}
use Rattle.tinystr_words.proofs.Texts.{NULS, IsPaddedText-drop, IsPaddedText-take, text_of-drop, text_of-take}
use Rattle.tinystr_words.proofs.Pieces.Answers.{ask-pieces, ask-same}
use Rattle.tinystr_words.proofs.Pieces.PaddedWords.{IsFirstWord-split, ask-first_word}

-- a NUL, or a byte in the class of later bytes
abbrev pub passes_later : Question → ℕ → Bool
passes_later q b = (b == 0) || later_class q b

list_all-passes_text : (q : Question) (t : List ℕ) → IsText t → list_all (passes_later q) t ≡ list_all (later_class q) t
list_all-passes_text q [] x = refl
list_all-passes_text q (b ∷ t) x =
    let here : IsTextByte b = All-head IsTextByte b t x in
    let others = list_all-passes_text q t (All-tail IsTextByte b t x) in
    rw others (grind (arith, nat_tests))

list_all-passes_nuls : (q : Question) (k : ℕ) → list_all (passes_later q) (NULS k) ≡ true
list_all-passes_nuls q zero = refl
list_all-passes_nuls q (suc k) = list_all-passes_nuls q k

and-true : (r : Bool) → (r && true) ≡ r
and-true true = refl
and-true false = refl

-- padded bytes pass where their text does
pub padded_passes : (q : Question) (l : List ℕ) → IsPadded l → list_all (passes_later q) l ≡ ask (later_class q) (later_class q) (text_of l)
padded_passes q l p =
    let t = text_of l in
    let k = length l - length t in
    ap (list_all (passes_later q)) p.padded
    ∙ list_all-append (passes_later q) t (NULS k)
    ∙ ap₂ (λ a b. a && b) (list_all-passes_text q t p.text) (list_all-passes_nuls q k)
    ∙ and-true (list_all (later_class q) t)
    ∙ sym (ask-same (later_class q) t)

-- pieces pass where all do
pub list_all-pieces : (q : Question) (k : ℕ) (l : List ℕ) → list_all (passes_later q) l ≡ (list_all (passes_later q) (take k l) && list_all (passes_later q) (drop k l))
list_all-pieces q k l =
    ap (list_all (passes_later q)) (sym (take-append-drop k l)) ∙ list_all-append (passes_later q) (take k l) (drop k l)

-- NUL in place of the first byte passes
nul_first : (q : Question) (l : List ℕ) → list_all (passes_later q) (slice_set l 0 0) ≡ list_all (passes_later q) (drop 1 l)
nul_first q [] = refl
nul_first q (b ∷ t) = refl

one_byte : (first others : ℕ → Bool) (b : ℕ) (is_nul : Bool) → ask first others (take (cond (not is_nul) 1 0) (b ∷ [])) ≡ (is_nul || first b)
one_byte first others b true = refl
one_byte first others b false = and-true (first b)

ask-first_byte : (first others : ℕ → Bool) (l : List ℕ) → ask first others (text_of (take 1 l)) ≡ (slice_index_or l 0 0 == 0 || first (slice_index_or l 0 0))
ask-first_byte first others [] = refl
ask-first_byte first others (b ∷ t) = one_byte first others b (b == 0)

front-apart : (first others : Question) (l : List ℕ) → IsPadded l →
    ask (later_class first) (later_class others) (text_of l) ≡ (passes_later first (slice_index_or l 0 0) && list_all (passes_later others) (slice_set l 0 0))
front-apart first others l p =
    let n = length l in
    let f = later_class first in
    let g = later_class others in
    let here = ap (ask f g) (sym (text_of-take l n 1 p)) ∙ ask-first_byte f g l in
    let after = ap (ask g g) (sym (text_of-drop l n 1 p)) ∙ sym (padded_passes others (drop 1 l) (IsPaddedText-drop l n 1 p)) ∙ sym (nul_first others l) in
    ask-pieces f g 0 (text_of l) ∙ ap₂ (λ a b. a && b) here after

-- an answer from those of the first byte, of the front with NUL in its place, and of the bytes after the front
pub ask-apart : (first others : Question) (l x y made : List ℕ) → IsPadded l → x ≡ take 16 l → y ≡ drop 16 l → length y + 16 ≡ length l → made ≡ x →
    ask (later_class first) (later_class others) (text_of l)
    ≡ ((passes_later first (slice_index_or x 0 0) && list_all (passes_later others) (slice_set made 0 0)) && ask (later_class others) (later_class others) (text_of y))
ask-apart first others l x y made p front back long same =
    let g = later_class others in
    let padded : IsPadded x = rw front (IsPaddedText-take l (length l) 16 p) in
    rw same (ask-first_word l (text_of x) y (later_class first) g (IsFirstWord-split l x y (text_of x) p front back long refl)
    ∙ ap (λ r. r && ask g g (text_of y)) (front-apart first others x padded))
