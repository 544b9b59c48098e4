-- The classes of an input's bytes, as a text: they show whether it is an identifier, and where its canonical text has capitals.
use Rattle.std.proofs.Common.{inl, inr, codes, ◌⊎◌, ◌&&◌, ◌≡◌, ◌-◌, ◌≤◌, ◌<◌, ℕ, zero, suc, Bool, true, false, ◌==◌, List, [], ◌∷◌, ◌++◌, length, map, replicate, append-nil, refl, sym, ap, ap₂, ◌∙◌, cond, arith}
use Rattle.std.specs.List.{list_all, slice_split, join_with_byte, position_or_len}
use Rattle.std.proofs.lemmas.Bool.{or_cases, false≢true}
use Rattle.std.proofs.lemmas.Bool.Decides.{nat_tests}
use Rattle.std.proofs.lemmas.List.{map-append, length-map, length-append, length-replicate}
use Rattle.std.proofs.lemmas.List.Folds.{list_all-map}
use Rattle.std.proofs.lemmas.Simd.{map-map}
use Rattle.tinystr.specs.Classes.{is_alphabetic, is_digit, is_upper}
use Rattle.tinystr.specs.Case.{lower, raise, titlecase}
use Rattle.subtags.specs.Grammar.{dash, is_separator, fold_byte, fold_text, subtags_of, is_language, is_language_length, is_script, is_region, is_tail, is_lang_id, canonical_subtag, canonical_subtags, canonical_text, IsLangId}
use Rattle.subtags.specs.Private.{first_subtag, tail_example, example}
use Rattle.subtags.proofs.FoldLemmas.{map-map_absorbed}
use Rattle.subtags.proofs.CanonLemmas.{slice_split-map, subtags_of-fold_text, subtags_after, subtags_at_first_separator, fold_text-canonical_text}
use Rattle.subtags.proofs.HeadLemmas.{length-first_subtag, letters_few, end-le}

-- a letter as 'a', a digit as '0', a separator as '-', and any other byte as 0
abbrev pub class_of : ℕ → ℕ
class_of b = cond (is_alphabetic b) 0x61 (cond (is_digit b) 0x30 (cond (is_separator b) dash 0))

pub is_alphabetic-class_of : (b : ℕ) → is_alphabetic (class_of b) ≡ is_alphabetic b
is_alphabetic-class_of b = grind (arith, nat_tests)

pub is_digit-class_of : (b : ℕ) → is_digit (class_of b) ≡ is_digit b
is_digit-class_of b = grind (arith, nat_tests)

pub is_separator-class_of : (b : ℕ) → is_separator (class_of b) ≡ is_separator b
is_separator-class_of b = grind (arith, nat_tests)

ruleset class_steps = (list_all-map, length-map, is_alphabetic-class_of, is_digit-class_of)

-- ---- whether it is an identifier

classes-fold_text : (u : List ℕ) → map class_of (fold_text u) ≡ map class_of u
classes-fold_text = map-map_absorbed class_of fold_byte (λ b. grind (arith, nat_tests))

fold_text-classes : (u : List ℕ) → fold_text (map class_of u) ≡ map class_of u
fold_text-classes u = let kept : (b : ℕ) → fold_byte (class_of b) ≡ class_of b = λ b. grind (arith, nat_tests) in simp (map-map, kept)

subtags_of-classes : (u : List ℕ) → subtags_of (fold_text (map class_of u)) ≡ map (λ p. map class_of p) (subtags_of (fold_text u))
subtags_of-classes u =
    rw (fold_text-classes, subtags_of-fold_text) (slice_split-map class_of (λ b. b == dash) is_separator (λ b. grind (arith, nat_tests)) u
    ∙ sym (map-map_absorbed (λ p. map class_of p) fold_text classes-fold_text (slice_split is_separator u)))

pub id_by_classes : (u : List ℕ) → is_lang_id (subtags_of (fold_text (map class_of u))) ≡ is_lang_id (subtags_of (fold_text u))
id_by_classes u =
    let language : (p : List ℕ) → is_language (map class_of p) ≡ is_language p = λ p. simp class_steps in
    let script : (p : List ℕ) → is_script (map class_of p) ≡ is_script p = λ p. simp class_steps in
    let region : (p : List ℕ) → is_region (map class_of p) ≡ is_region p = λ p. simp class_steps in
    rw subtags_of-classes (grind (arith, language, script, region))

-- ---- its canonical text

-- the class of a byte, as 'A' of a capital
abbrev pub cased : ℕ → ℕ
cased b = cond (is_upper b) 0x41 (class_of b)

cased-raise : (b : ℕ) → cased (raise b) ≡ raise (class_of b)
cased-raise b = grind (arith, nat_tests)

cased-map : (f : ℕ → ℕ) → ((b : ℕ) → cased (f b) ≡ f (class_of b)) → (p : List ℕ) → map cased (map f p) ≡ map f (map class_of p)
cased-map f e p = simp (map-map, e)

cased-titlecase : (p : List ℕ) → map cased (titlecase p) ≡ titlecase (map class_of p)
cased-titlecase [] = refl
cased-titlecase (b ∷ p) = ap₂ (λ (a : ℕ) (w : List ℕ). a ∷ w) (cased-raise b) (cased-map lower (λ c. grind (arith, nat_tests)) p)

cased-canonical_subtag : (p : List ℕ) → map cased (canonical_subtag p) ≡ canonical_subtag (map class_of p)
cased-canonical_subtag p =
    let title = cased-titlecase p in
    let upper = cased-map raise cased-raise p in
    let same : is_script (map class_of p) ≡ is_script p = simp class_steps in
    grind arith

cased-join : (l : List ℕ) (ps : List (List ℕ)) → map cased (join_with_byte dash (l ∷ map canonical_subtag ps)) ≡ join_with_byte dash (map cased l ∷ map canonical_subtag (map (λ p. map class_of p) ps))
cased-join l [] = refl
cased-join l (p ∷ ps) = map-append _ l _ ∙ ap (λ (w : List ℕ). map cased l ++ dash ∷ w) (rw cased-canonical_subtag at (cased-join (canonical_subtag p) ps))

pub cased-canonical_text : (u : List ℕ) → map cased (canonical_text u) ≡ canonical_text (map class_of u)
cased-canonical_text u =
    let each : (b : ℕ) → cased (fold_byte b) ≡ class_of (fold_byte b) = λ b. grind (arith, nat_tests) in
    let language : map cased (fold_text (first_subtag u)) ≡ map class_of (fold_text (first_subtag u)) = simp (map-map, each) in
    rw (subtags_of-classes, subtags_at_first_separator u) (rw language at (cased-join (fold_text (first_subtag u)) (subtags_after u)))

-- ---- examples

classes_of_all : (t : ℕ → Bool) (c : ℕ) → ((b : ℕ) → t b ≡ true → class_of b ≡ c) → (p : List ℕ) → list_all t p ≡ true → map class_of p ≡ replicate (length p) c
classes_of_all t c e [] h = refl
classes_of_all t c e (b ∷ p) h = let here = e b (grind arith) in let rest = classes_of_all t c e p (grind arith) in cc

pub classes_of_letters : (p : List ℕ) → list_all is_alphabetic p ≡ true → map class_of p ≡ replicate (length p) 0x61
classes_of_letters = classes_of_all is_alphabetic 0x61 (λ b h. grind (arith, nat_tests))

pub bytes_of_script : (p : List ℕ) → is_script p ≡ true → (length p ≡ 4) × (list_all is_alphabetic p ≡ true)
bytes_of_script p h = (grind (arith, nat_tests), grind arith)

pub bytes_of_region : (p : List ℕ) → is_region p ≡ true → (2 ≤ length p) × (length p ≤ 3)
bytes_of_region p h = (grind (arith, nat_tests), grind (arith, nat_tests))

classes_of_script : (p : List ℕ) → is_script p ≡ true → map class_of p ≡ codes "aaaa"
classes_of_script p h = let is = bytes_of_script p h in rw is.0 at (classes_of_letters p is.1)

classes_of_region : (p : List ℕ) → is_region p ≡ true → (map class_of p ≡ codes "aa") ⊎ (map class_of p ≡ codes "000")
classes_of_region p h = elim (or_cases (list_all is_alphabetic p && length p == 2) (list_all is_digit p && length p == 3) h) [
  | inl letters ↦ (let two : length p ≡ 2 = grind (arith, nat_tests) in inl (rw two at (classes_of_letters p (grind arith))))
  | inr digits ↦ (let three : length p ≡ 3 = grind (arith, nat_tests) in inr (rw three at (classes_of_all is_digit 0x30 (λ b d. grind (arith, nat_tests)) p (grind arith))))
]

-- the canonical subtags of a tail after a language, by their classes: the example of some length
record LikeExample (ps : List (List ℕ)) : Type 0 where
  count : ℕ
  size : length (tail_example count) ≡ count
  text : (l : List ℕ) → join_with_byte dash (l ∷ map canonical_subtag (map (λ p. map class_of p) ps)) ≡ l ++ tail_example count

tail_like : (ps : List (List ℕ)) → is_tail ps ≡ true → LikeExample ps
tail_like [] h = record { count = 0; size = refl; text = λ l. sym (append-nil l) }
tail_like (p ∷ []) h = elim (or_cases (is_script p) (is_region p) h) [
  | inl script ↦ record { count = 5; size = refl; text = λ l. rw (classes_of_script p script) refl }
  | inr region ↦ elim (classes_of_region p region) [
    | inl two ↦ record { count = 3; size = refl; text = λ l. rw two refl }
    | inr three ↦ record { count = 4; size = refl; text = λ l. rw three refl }
  ]
]
tail_like (p ∷ q ∷ []) h = elim (classes_of_region q (grind arith)) [
  | inl two ↦ (let script = classes_of_script p (grind arith) in record { count = 8; size = refl; text = λ l. rw (script, two) refl })
  | inr three ↦ (let script = classes_of_script p (grind arith) in record { count = 9; size = refl; text = λ l. rw (script, three) refl })
]
tail_like (p ∷ q ∷ r ∷ ps) h = absurd (grind arith)

-- an identifier is an example by its classes
pub record IsExample (e n : ℕ) (u : List ℕ) : Type 0 where
  pub language : is_language_length e ≡ true
  pub size : length (tail_example n) ≡ n
  pub text : canonical_text (map class_of u) ≡ example e n
  pub like : map class_of u ≡ map class_of (example e n)

pub example_of_id : (u : List ℕ) → IsLangId u → (let e = position_or_len is_separator u in IsExample e (length u - e) u)
example_of_id u h =
    let e = position_or_len is_separator u in
    let l = fold_text (first_subtag u) in
    let split = subtags_at_first_separator u in
    let all : (is_language l && is_tail (subtags_after u)) ≡ true = rw split at h in
    let tail = tail_like (subtags_after u) (grind arith) in
    let first : length l ≡ e = length-map (first_subtag u) fold_byte ∙ length-first_subtag u in
    let start : map class_of l ≡ replicate e 0x61 = rw first at (classes_of_letters l (grind arith)) in
    let text : canonical_text (map class_of u) ≡ example e tail.count =
    ap (λ ps. join_with_byte dash (canonical_subtags ps)) (subtags_of-classes u ∙ ap (λ ps. map (λ p. map class_of p) ps) split)
    ∙ tail.text (map class_of l) ∙ ap (λ (m : List ℕ). m ++ tail_example tail.count) start in
    let folded : map class_of u ≡ fold_text (example e tail.count) = sym (rw text at (fold_text-canonical_text (map class_of u)) ∙ fold_text-classes u) in
    let count : tail.count ≡ length u - e = omega (arith, ap (λ (t : List ℕ). length t) folded, length-map u class_of, length-map (example e tail.count) fold_byte, length-append (replicate e 0x61) (tail_example tail.count), length-replicate {A = ℕ} e 0x61, tail.size) in
    rw (← count) record { language = grind arith; size = tail.size; text = text; like = sym (map-map_absorbed class_of class_of (λ b. grind (arith, nat_tests)) u) ∙ ap (λ w. map class_of w) folded ∙ classes-fold_text (example e tail.count) }

split_example : (e : ℕ) (w : List ℕ) → subtags_of (fold_text (replicate e 0x61 ++ dash ∷ w)) ≡ replicate e 0x61 ∷ subtags_of (fold_text w)
split_example zero w = refl
split_example (suc e) w = let rest = split_example e w in rw rest refl

letters_example : (e : ℕ) → list_all is_alphabetic (replicate e 0x61) ≡ true
letters_example zero = refl
letters_example (suc e) = letters_example e

pub id_of_example : (u : List ℕ) (e n : ℕ) → is_language_length e ≡ true → 0 < length (tail_example n) → map class_of u ≡ map class_of (example e n) → IsLangId u
id_of_example u e n language more like =
    let split = split_example e in
    let letters = letters_example e in
    let size = length-replicate {A = ℕ} e 0x61 in
    let id : IsLangId (example e n) = grind (arith, nat_tests) in
    sym (id_by_classes u) ∙ ap (λ w. is_lang_id (subtags_of (fold_text w))) like ∙ id_by_classes (example e n) ∙ id

-- a tail follows the language where not all bytes are letters
pub more_than_letters : (u : List ℕ) (e n : ℕ) → list_all is_alphabetic u ≡ false → length (tail_example n) ≡ n → map class_of u ≡ map class_of (example e n) → 0 < length (tail_example n)
more_than_letters u e zero other size like =
    let same : list_all is_alphabetic u ≡ list_all is_alphabetic (example e 0) = simp class_steps at (ap (list_all is_alphabetic) like) in
    absurd (false≢true (sym other ∙ same ∙ ap (list_all is_alphabetic) (append-nil (replicate e 0x61)) ∙ letters_example e))
more_than_letters u e (suc n) other size like = omega (arith, size)

pub language_id : (u : List ℕ) → IsLangId u → is_language_length (position_or_len is_separator u) ≡ true
language_id u h = (example_of_id u h).language

pub few_id : (u : List ℕ) → IsLangId u → position_or_len is_separator u ≤ 8
few_id u h = letters_few (position_or_len is_separator u) (language_id u h)

pub short_id : (u : List ℕ) → IsLangId u → length u - position_or_len is_separator u ≤ 9
short_id u h =
    let most : (n : ℕ) → length (tail_example n) ≤ 9 = λ n. grind (arith, nat_tests) in
    omega (arith, (example_of_id u h).size, most (length u - position_or_len is_separator u))

pub ruleset parts_of_id = (language_id, few_id, short_id, end-le)
