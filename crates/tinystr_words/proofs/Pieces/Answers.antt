-- The answer and the case change of a text are those of its pieces, and a padded array changes as its text does.
use Rattle.std.proofs.Common.{◌≡◌, ℕ, zero, suc, ◌-◌, Bool, ◌&&◌, ◌⊎◌, inl, inr, ⊎_elim, List, [], ◌∷◌, ◌++◌, length, take, drop, map, sym, ap, ◌∙◌, refl, arith}
use Rattle.std.proofs.Math.Bool.{and_assoc}
use Rattle.std.proofs.lemmas.Bool.{cases_lt}
use Rattle.std.proofs.lemmas.Bool.Decides.{nat_tests}
use Rattle.std.proofs.lemmas.List.{map-append, length-map, take-append-drop, length-take-le, drop_all}
use Rattle.std.proofs.lemmas.List.Folds.{list_all-append}
use Rattle.std.proofs.lemmas.List.Elements.{All-cons, All-head, All-tail, All-map, All-weaker}
use Rattle.std.specs.List.{list_all}
use Rattle.tinystr_words.specs.Text.{IsTextByte, IsText, IsPaddedText, text_of, pad}
use Rattle.tinystr_words.specs.Classes.{ask}
use Rattle.tinystr_words.specs.Case.{lower, raise}
use Rattle.tinystr_words.specs.declared.question.Question.{Question}
use Rattle.tinystr_words.specs.declared.question.Question.TheVariants.{Titlecase, AlphabeticTitlecase}
use Rattle.tinystr_words.specs.declared.question.Case.{Case}
use Rattle.tinystr_words.specs.declared.question.Case.TheVariants.{Lower, Title, Upper}
use Rattle.tinystr_words.specs.Questions.{ask_question, later_class, later_question, in_case, later_case}
use Rattle.tinystr_words.proofs.Texts.{NULS}

-- ---- two lists joined, the first of q + 1 items or the second of none

abbrev pub IsCut : ℕ → List ℕ → List ℕ → Type 0
IsCut q a b = (length a ≡ suc q) ⊎ (b ≡ [])

-- each list is cut so
IsCut-at : (q : ℕ) (t : List ℕ) → IsCut q (take (suc q) t) (drop (suc q) t)
IsCut-at q t =
    ⊎_elim (λ short. inr (drop_all (suc q) t (omega arith))) (λ long. inl (length-take-le (suc q) t long)) (cases_lt (length t) (suc q))

-- one class for all bytes; callers cite same_as_std_each
pub ask-same : (f : ℕ → Bool) (t : List ℕ) → ask f f t ≡ list_all f t
ask-same f [] = refl
ask-same f (b ∷ t) = refl

-- a question of both lists, by the class of the later bytes in the second
pub ask-append : (first others : ℕ → Bool) (q : ℕ) (a b : List ℕ) → IsCut q a b → ask first others (a ++ b) ≡ (ask first others a && ask others others b)
ask-append first others q [] b (inl e) = absurd (omega arith)
ask-append first others q [] b (inr e) = rw e refl
ask-append first others q (d ∷ a) b x =
    rw (list_all-append others a b, ask-same others b) (sym (and_assoc (first d) (list_all others a) (list_all others b)))

-- a case change of both lists, by that of later words in the second
pub in_case-append : (c : Case) (q : ℕ) (a b : List ℕ) → IsCut q a b → in_case c (a ++ b) ≡ in_case c a ++ in_case (later_case c) b
in_case-append Lower q a b x = map-append lower a b
in_case-append Upper q a b x = map-append raise a b
in_case-append Title q [] b (inl e) = absurd (omega arith)
in_case-append Title q [] b (inr e) = rw e refl
in_case-append Title q (d ∷ a) b x = ap (λ l. raise d ∷ l) (map-append lower a b)

-- the later class of a question, tested on each byte, is its question for later words
pub later-ask_question : (q : Question) (t : List ℕ) → ask (later_class q) (later_class q) t ≡ ask_question (later_question q) t
later-ask_question Titlecase t = refl
later-ask_question AlphabeticTitlecase t = refl
later-ask_question q t = refl

-- an answer by two classes, from those of the first q + 1 bytes and of the others
pub ask-pieces : (first others : ℕ → Bool) (q : ℕ) (t : List ℕ) → ask first others t ≡ (ask first others (take (suc q) t) && ask others others (drop (suc q) t))
ask-pieces first others q t =
    ap (ask first others) (sym (take-append-drop (suc q) t))
    ∙ ask-append first others q (take (suc q) t) (drop (suc q) t) (IsCut-at q t)

-- a changed text from its changed pieces
pub in_case-pieces : (c : Case) (q : ℕ) (l : List ℕ) → in_case c l ≡ in_case c (take (suc q) l) ++ in_case (later_case c) (drop (suc q) l)
in_case-pieces c q l =
    ap (λ (m : List ℕ). in_case c m) (sym (take-append-drop (suc q) l)) ∙ in_case-append c q (take (suc q) l) (drop (suc q) l) (IsCut-at q l)

-- a case for later words is its own
pub later_case-same : (c : Case) → later_case (later_case c) ≡ later_case c
later_case-same Title = refl
later_case-same c = refl

-- ---- a text in another case

abbrev pub first_change : Case → ℕ → ℕ
first_change Lower = lower
first_change Title = raise
first_change Upper = raise

abbrev pub later_change : Case → ℕ → ℕ
later_change Lower = lower
later_change Title = lower
later_change Upper = raise

-- a case change keeps the length
pub length-in_case : (c : Case) (t : List ℕ) → length (in_case c t) ≡ length t
length-in_case Lower t = length-map t lower
length-in_case Upper t = length-map t raise
length-in_case Title [] = refl
length-in_case Title (b ∷ t) = ap suc (length-map t lower)

-- a change of each byte leaves a text, if it leaves each byte of a text one
IsText-map : (f : ℕ → ℕ) → ((b : ℕ) → IsTextByte b → IsTextByte (f b)) → (t : List ℕ) → IsText t → IsText (map f t)
IsText-map f h t x = All-map IsTextByte f t (All-weaker IsTextByte (λ b. IsTextByte (f b)) h t x)

-- and leaves a text
pub IsText-in_case : (c : Case) (t : List ℕ) → IsText t → IsText (in_case c t)
IsText-in_case Lower t x = IsText-map lower (λ b h. grind (arith, nat_tests)) t x
IsText-in_case Upper t x = IsText-map raise (λ b h. grind (arith, nat_tests)) t x
IsText-in_case Title [] x = x
IsText-in_case Title (b ∷ t) x =
    All-cons IsTextByte (raise b) (map lower t) (let h = All-head IsTextByte b t x in grind (arith, nat_tests))
    (IsText-map lower (λ b h. grind (arith, nat_tests)) t (All-tail IsTextByte b t x))

-- a change that keeps NUL, of a list and then NULs, changes the list alone
map-padded : (f : ℕ → ℕ) → f 0 ≡ 0 → (t : List ℕ) (k : ℕ) → map f (t ++ NULS k) ≡ map f t ++ NULS k
map-padded f e [] zero = refl
map-padded f e [] (suc k) = rw (e, map-padded f e [] k) refl
map-padded f e (b ∷ t) k = ap (λ l. f b ∷ l) (map-padded f e t k)

-- a case change of a list and then NULs changes the list alone
in_case-nuls : (c : Case) (t : List ℕ) (k : ℕ) → in_case c (t ++ NULS k) ≡ in_case c t ++ NULS k
in_case-nuls Lower t k = map-padded lower refl t k
in_case-nuls Upper t k = map-padded raise refl t k
in_case-nuls Title [] zero = refl
in_case-nuls Title [] (suc k) = ap (λ l. 0 ∷ l) (map-padded lower refl [] k)
in_case-nuls Title (b ∷ t) k = ap (λ l. raise b ∷ l) (map-padded lower refl t k)

-- a change leaves NUL alone, so it may be done on the array, NULs and all
pub in_case-padded : (c : Case) (l : List ℕ) (n : ℕ) → IsPaddedText l n → in_case c l ≡ pad (in_case c (text_of l)) n
in_case-padded c l n p =
    ap (λ (b : List ℕ). in_case c b) p.padded ∙ in_case-nuls c (text_of l) (n - length (text_of l))
    ∙ ap (λ k. in_case c (text_of l) ++ NULS (n - k)) (sym (length-in_case c (text_of l)))
