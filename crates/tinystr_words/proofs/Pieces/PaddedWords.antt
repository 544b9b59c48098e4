-- Padded bytes in words of sixteen: their length, questions and changes.
use Rattle.std.proofs.Common.{Bool, List, cond, not, zero, suc, [], ◌∷◌, ◌==◌, ◌||◌, ap₂, ap, arith, drop, false, length, refl, rules, slice_index_or, slice_set, sym, take, true, ℕ, ◌&&◌, ◌++◌, ◌+◌, ◌-◌, ◌∙◌, ◌≡◌, ◌≤◌}
use Rattle.std.proofs.lemmas.List.{places, same_lists, append_assoc, drop-drop, length-append, length-drop, length-take-le, take-append-drop, take_all}
use Rattle.std.specs.List.{list_all}
use Rattle.std.proofs.lemmas.Bool.Decides.{nat_tests}
use Rattle.std.proofs.lemmas.List.Folds.{list_all-append}
use Rattle.std.proofs.lemmas.List.Elements.{All-head, All-tail}
use Rattle.tinystr_words.specs.Classes.{ask}
use Rattle.tinystr_words.specs.Text.{IsPadded, IsPaddedText, IsText, IsTextByte, pad, text_of}
use Rattle.tinystr_words.specs.declared.question.Question.{Question}
use Rattle.tinystr_words.specs.Questions.{ask_question, first_class, in_case, later_case, later_class, later_question}
use Rattle.tinystr_words.proofs.Texts.{NULS, IsPaddedText-drop, IsPaddedText-made, IsPaddedText-take, length-text_of-le, take-pad, text_of-drop, text_of-made, text_of-take}
use Rattle.tinystr_words.proofs.Pieces.Answers.{IsText-in_case, ask-pieces, ask-same, later-ask_question, in_case-padded, in_case-pieces, length-in_case}
use Rattle.tinystr_words.specs.Private.{IsFirstWord}
use Rattle.std.proofs.lemmas.Slice.{drop-put_mid, take-put_mid}
use borrow.Rule.Slice.PartMut.{put_mid}
use Rattle.tinystr_words.specs.declared.question.Case.{Case}

-- the first sixteen of padded bytes are padded
pub IsPaddedText-first_word : (l x : List ℕ) → IsPadded l → 16 ≤ length l → x ≡ take 16 l → IsPaddedText x 16
IsPaddedText-first_word l x p fits e = rw e (rw (length-take-le 16 l fits) at (IsPaddedText-take l (length l) 16 p))

-- padded bytes cut after their first word
pub IsFirstWord-split : (l x y t : List ℕ) → IsPadded l → x ≡ take 16 l → y ≡ drop 16 l → length y + 16 ≡ length l → t ≡ text_of x → IsFirstWord l t y
IsFirstWord-split l x y t p e h long is = record {
  word_text = is ∙ ap (λ (b : List ℕ). text_of b) e ∙ text_of-take l (length l) 16 p;
  others_text = ap (λ (b : List ℕ). text_of b) h ∙ text_of-drop l (length l) 16 p;
  padded = rw h (IsPaddedText-drop l (length l) 16 p);
  len = long;
}

-- one more word counted
pub len_step : (l w y : List ℕ) (n all sum : ℕ) → IsFirstWord l w y → n ≡ length w → sum + length (text_of l) ≡ all → sum + n + length (text_of y) ≡ all
len_step l w y n all sum c e left =
    let front = ap (λ (b : List ℕ). length b) c.word_text in
    let back = ap (λ (b : List ℕ). length b) c.others_text in
    let whole = ap (λ (b : List ℕ). length b) (take-append-drop 16 (text_of l)) in
    omega (arith, front, back, whole, length-append (take 16 (text_of l)) (drop 16 (text_of l)))

-- the first word's answer and that of the others are the text's
pub ask-first_word : (l w y : List ℕ) (first others : ℕ → Bool) → IsFirstWord l w y → ask first others (text_of l) ≡ (ask first others w && ask others others (text_of y))
ask-first_word l w y first others c = rw (c.word_text, c.others_text) (ask-pieces first others 15 (text_of l))

-- an answer is that of the first word and that of the others
pub ask_question-first_word : (l w y : List ℕ) (q : Question) → IsFirstWord l w y → ask_question q (text_of l) ≡ (ask_question q w && ask_question (later_question q) (text_of y))
ask_question-first_word l w y q c =
    ask-first_word l w y (first_class q) (later_class q) c ∙ ap (λ r. ask_question q w && r) (later-ask_question q (text_of y))

-- where one word fails, the whole text does
pub ask_question-word_fails : (l w y : List ℕ) (q : Question) (r all : Bool) → IsFirstWord l w y → r ≡ ask_question q w → r ≡ false → ask_question q (text_of l) ≡ all → false ≡ all
ask_question-word_fails l w y q r all c answered fails left = sym (rw (← answered, fails) at (ask_question-first_word l w y q c)) ∙ left

-- where one word passes, the others decide
pub ask_question-word_passes : (l w y : List ℕ) (q later : Question) (r all : Bool) → IsFirstWord l w y → r ≡ ask_question q w → r ≡ true → later ≡ later_question q → ask_question q (text_of l) ≡ all → ask_question later (text_of y) ≡ all
ask_question-word_passes l w y q later r all c answered passes later_is left = rw later_is (sym (rw (← answered, passes) at (ask_question-first_word l w y q c)) ∙ left)

-- padded bytes of a text in another case
pub IsPaddedText-in_case : (c : Case) (l made : List ℕ) (n : ℕ) → IsPaddedText l n → made ≡ pad (in_case c (text_of l)) n → IsPaddedText made n × (text_of made ≡ in_case c (text_of l))
IsPaddedText-in_case c l made n p e =
    let x = IsText-in_case c (text_of l) p.text in (
      IsPaddedText-made made (in_case c (text_of l)) n e (record { text = x; fits = rw (length-in_case c (text_of l)) p.fits }),
      text_of-made made (in_case c (text_of l)) n e x,
    )

-- a word of w bytes, cut to the array
pub in_case_take : (c : Case) (t : List ℕ) (n w : ℕ) → length t ≤ n → n ≤ w → take n (pad (in_case c t) w) ≡ pad (in_case c t) n
in_case_take c t n w fits le = take-pad (in_case c t) n w (rw length-in_case fits) le

-- one more word changed
pub in_case-first_word : (all bytes word made : List ℕ) (start k : ℕ) (c later : Case) →
    start + 16 ≤ length bytes → k ≡ 16 → IsPadded (drop start bytes) →
    word ≡ pad (in_case c (text_of (take k (drop start bytes)))) 16 → made ≡ word →
    later ≡ later_case c →
    take start bytes ++ in_case c (drop start bytes) ≡ all →
    take (start + 16) (put_mid start k bytes made) ++ in_case later (drop (start + 16) (put_mid start k bytes made)) ≡ all
in_case-first_word all bytes word made start k c later fits size p word_is made_is e left =
    let rest = drop start bytes in
    let long : 16 ≤ length rest = omega (arith, length-drop start bytes) in
    let first = IsPaddedText-first_word rest (take 16 rest) p long refl in
    let made_now : made ≡ in_case c (take 16 rest) =
    made_is ∙ word_is ∙ ap (λ (n : ℕ). pad (in_case c (text_of (take n rest))) 16) size ∙ sym (in_case-padded c (take 16 rest) 16 first) in
    let made_len : length made ≡ 16 = ap length made_now ∙ length-in_case c (take 16 rest) ∙ length-take-le 16 rest long in
    let front = take-put_mid start k bytes made (start + 16) (omega arith) (omega arith) in
    let back = drop-put_mid start k bytes made (start + 16) (omega arith) (omega arith) (omega arith) in
    let tail : drop (start + 16) bytes ≡ drop 16 rest = sym (drop-drop 16 start bytes) in
    rw (front, back, tail, made_now, e)
    (append_assoc (take start bytes) (in_case c (take 16 rest)) (in_case (later_case c) (drop 16 rest))
    ∙ ap (λ (l : List ℕ). take start bytes ++ l) (sym (in_case-pieces c 15 rest)) ∙ left)

-- the last word changed
pub in_case-last_word : (all bytes word made t : List ℕ) (start k count : ℕ) (c : Case) →
    start ≤ length bytes → k ≡ length bytes - start → count ≡ length bytes - start → k ≤ 16 → IsPadded (drop start bytes) →
    t ≡ text_of (take k (drop start bytes)) → word ≡ pad (in_case c t) 16 → made ≡ take count word →
    take start bytes ++ in_case c (drop start bytes) ≡ all →
    put_mid start k bytes made ≡ all
in_case-last_word all bytes word made t start k count c fits size count_is small p t_is word_is made_is left =
    let rest = drop start bytes in
    let long : length rest ≡ count = omega (arith, length-drop start bytes) in
    let whole_rest : take k rest ≡ rest = take_all k rest (omega arith) in
    let made_now : made ≡ in_case c rest = rw (made_is, word_is, t_is, whole_rest, in_case_take c (text_of rest) count 16 (omega (arith, length-text_of-le rest)) (omega arith))
    (sym (in_case-padded c rest count (rw long at p))) in
    let size_now = length-in_case c rest in
    rw made_now (same_lists _ _ (search (rules, places)) (λ i d h. grind (arith, places)) ∙ left)

-- the rest after one more word is padded
pub IsPadded-after_word : (bytes made : List ℕ) (start k : ℕ) → start + 16 ≤ length bytes → k ≡ 16 → length made ≡ k
    → IsPadded (drop start bytes)
    → IsPadded (drop (start + 16) (put_mid start k bytes made))
IsPadded-after_word bytes made start k fits size long p =
    rw (drop-put_mid start k bytes made (start + 16) (omega arith) (omega arith) long, ← drop-drop 16 start bytes)
    (IsPaddedText-drop (drop start bytes) (length (drop start bytes)) 16 p)
