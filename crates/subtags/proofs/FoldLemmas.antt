-- What folding and the case changes leave alone.
use Rattle.std.proofs.Common.{◌≡◌, ◌≤◌, ℕ, Bool, true, ◌||◌, List, [], ◌∷◌, map, length, refl, sym, ◌∙◌, arith}
use Rattle.std.specs.List.{All, list_all}
use Rattle.std.proofs.lemmas.Bool.Decides.{nat_tests}
use Rattle.std.proofs.lemmas.List.{length-map}
use Rattle.std.proofs.lemmas.List.Folds.{list_all-map}
use Rattle.std.proofs.lemmas.List.Sums.{AllPass-from_list_all, list_all-from_AllPass}
use Rattle.std.proofs.lemmas.Simd.{map-map}
use Rattle.tinystr.specs.Text.{IsTextByte, IsStrictText}
use Rattle.tinystr.specs.Classes.{is_alphabetic, is_digit, is_alphanumeric, ask}
use Rattle.tinystr.specs.Case.{lower, raise, lowercase, titlecase, uppercase}
use Rattle.subtags.specs.Grammar.{fold_byte, fold_text, is_language, is_script, is_region, canonical_subtag}
use Rattle.subtags.specs.Subtags.{IsCanonicalSubtag}

-- where f after g is f at each element, it is so on a list
pub map-map_absorbed : {X Y : Type 0} (f : X → Y) (g : X → X) → ((x : X) → f (g x) ≡ f x) → (l : List X) → map f (map g l) ≡ map f l
map-map_absorbed f g e l = simp (map-map, e)

-- where each byte passes a test, each has what the test shows
pub All-from_list_all : (t : ℕ → Bool) (P : ℕ → Type 0) → ((b : ℕ) → t b ≡ true → P b) → (p : List ℕ) → list_all t p ≡ true → All P p
All-from_list_all t P e p h = λ k d below. e _ (AllPass-from_list_all t p h k d below)

-- to fold twice is to fold once
pub fold_text-fold_text : (u : List ℕ) → fold_text (fold_text u) ≡ fold_text u
fold_text-fold_text u = map-map_absorbed fold_byte fold_byte (λ b. grind (arith, nat_tests)) u

-- a text in titlecase folds as the text does, and has the titlecase of the text and of its lowercase
titlecase_absorbed : (t : List ℕ) → (fold_text (titlecase t) ≡ fold_text t) × (titlecase (titlecase t) ≡ titlecase t) × (titlecase (lowercase t) ≡ titlecase t)
titlecase_absorbed [] = (refl, refl, refl)
titlecase_absorbed (b ∷ t) =
    let folded = map-map_absorbed fold_byte lower (λ c. grind (arith, nat_tests)) t in
    let lowered = map-map_absorbed lower lower (λ c. grind (arith, nat_tests)) t in
    (grind (arith, nat_tests), grind (arith, nat_tests), grind (arith, nat_tests))

-- a canonical subtag folds as the subtag does
pub fold_text-canonical_subtag : (p : List ℕ) → fold_text (canonical_subtag p) ≡ fold_text p
fold_text-canonical_subtag p =
    let in_title = titlecase_absorbed p in
    let raised = map-map_absorbed fold_byte raise (λ b. grind (arith, nat_tests)) p in
    grind arith

pub is_alphabetic-fold_byte : (b : ℕ) → is_alphabetic (fold_byte b) ≡ is_alphabetic b
is_alphabetic-fold_byte b = grind (arith, nat_tests)

pub is_digit-fold_byte : (b : ℕ) → is_digit (fold_byte b) ≡ is_digit b
is_digit-fold_byte b = grind (arith, nat_tests)

ruleset fold_steps = (list_all-map, length-map, is_alphabetic-fold_byte, is_digit-fold_byte)

-- folding leaves languages, scripts, regions, and letters and digits
pub is_language-fold_text : (p : List ℕ) → is_language (fold_text p) ≡ is_language p
is_language-fold_text p = simp fold_steps

pub is_script-fold_text : (p : List ℕ) → is_script (fold_text p) ≡ is_script p
is_script-fold_text p = simp fold_steps

pub is_region-fold_text : (p : List ℕ) → is_region (fold_text p) ≡ is_region p
is_region-fold_text p = simp fold_steps

pub alphanumeric-fold_text : (p : List ℕ) → list_all is_alphanumeric (fold_text p) ≡ list_all is_alphanumeric p
alphanumeric-fold_text p = simp fold_steps

alphanumeric-from_class : (t : ℕ → Bool) → ((b : ℕ) → t b ≡ true → is_alphanumeric b ≡ true) → (p : List ℕ) → list_all t p ≡ true → list_all is_alphanumeric p ≡ true
alphanumeric-from_class t e p h = list_all-from_AllPass is_alphanumeric p (All-from_list_all t (λ b. is_alphanumeric b ≡ true) e p h)

pub alphanumeric-from_letters : (p : List ℕ) → list_all is_alphabetic p ≡ true → list_all is_alphanumeric p ≡ true
alphanumeric-from_letters = alphanumeric-from_class is_alphabetic (λ b a. grind arith)

-- a language, a script or a region has letters and digits alone
pub alphanumeric-from_subtag : (p : List ℕ) → (is_language p || is_script p || is_region p) ≡ true → list_all is_alphanumeric p ≡ true
alphanumeric-from_subtag p h =
    let digits = alphanumeric-from_class is_digit (λ b a. grind arith) p in
    grind (arith, alphanumeric-from_letters)

-- and is a text
pub IsStrictText-from_subtag : (p : List ℕ) (n : ℕ) → (is_language p || is_script p || is_region p) ≡ true → length p ≤ n → IsStrictText p n
IsStrictText-from_subtag p n h fits = record { text = All-from_list_all is_alphanumeric IsTextByte (λ b a. grind (arith, nat_tests)) p (alphanumeric-from_subtag p h); fits = fits }

-- one question about all bytes of a text is the question about each byte
pub ask-same : (p : ℕ → Bool) (t : List ℕ) → ask p p t ≡ list_all p t
ask-same p [] = refl
ask-same p (b ∷ t) = refl

-- to fold letters and digits is to put them in lowercase
pub fold_text-alphanumeric : (p : List ℕ) → list_all is_alphanumeric p ≡ true → fold_text p ≡ lowercase p
fold_text-alphanumeric [] h = refl
fold_text-alphanumeric (b ∷ p) h = let rest = fold_text-alphanumeric p (grind arith) in grind (arith, nat_tests)

-- a script or a region, folded, has the same canonical form
pub canonical_subtag-fold_text : (p : List ℕ) → (is_script p || is_region p) ≡ true → canonical_subtag (fold_text p) ≡ canonical_subtag p
canonical_subtag-fold_text p h =
    let lowered = fold_text-alphanumeric p (alphanumeric-from_subtag p (grind arith)) in
    let raised = map-map_absorbed raise lower (λ b. grind (arith, nat_tests)) p in
    rw (is_script-fold_text p, lowered, (titlecase_absorbed p).2, raised) refl

-- a well-formed subtag is canonical in its case: a language in lowercase, a script in titlecase, a region in uppercase
in_its_case : (t : List ℕ → Bool) (f : List ℕ → List ℕ) → ((p : List ℕ) → t (fold_text p) ≡ t p) → ((p : List ℕ) → fold_text (f p) ≡ fold_text p) → ((p : List ℕ) → f (f p) ≡ f p) → (p : List ℕ) → t p ≡ true → IsCanonicalSubtag t f (f p)
in_its_case t f same folded twice p h = record { well_formed = cc (same (f p), same p, folded p); canonical = twice p }

pub IsCanonicalSubtag-lowercase : (p : List ℕ) → is_language p ≡ true → IsCanonicalSubtag is_language lowercase (lowercase p)
IsCanonicalSubtag-lowercase = in_its_case is_language lowercase is_language-fold_text (map-map_absorbed fold_byte lower (λ b. grind (arith, nat_tests))) (map-map_absorbed lower lower (λ b. grind (arith, nat_tests)))

pub IsCanonicalSubtag-titlecase : (p : List ℕ) → is_script p ≡ true → IsCanonicalSubtag is_script titlecase (titlecase p)
IsCanonicalSubtag-titlecase = in_its_case is_script titlecase is_script-fold_text (λ p. (titlecase_absorbed p).0) (λ p. (titlecase_absorbed p).1)

pub IsCanonicalSubtag-uppercase : (p : List ℕ) → is_region p ≡ true → IsCanonicalSubtag is_region uppercase (uppercase p)
IsCanonicalSubtag-uppercase = in_its_case is_region uppercase is_region-fold_text (map-map_absorbed fold_byte raise (λ b. grind (arith, nat_tests))) (map-map_absorbed raise raise (λ b. grind (arith, nat_tests)))

-- a region is two letters or three digits
pub two_letters : (p : List ℕ) → length p ≡ 2 → ask is_alphabetic is_alphabetic p ≡ true → IsCanonicalSubtag is_region uppercase (uppercase p)
two_letters p two h = IsCanonicalSubtag-uppercase p (rw (← ask-same is_alphabetic p, h, two) refl)

pub three_digits : (p : List ℕ) → length p ≡ 3 → ask is_digit is_digit p ≡ true → IsCanonicalSubtag is_region uppercase (uppercase p)
three_digits p three h = let digits = sym (ask-same is_digit p) ∙ h in IsCanonicalSubtag-uppercase p (grind (arith, nat_tests))

pub ruleset subtag_steps = (IsStrictText-from_subtag, ask-same, IsCanonicalSubtag-titlecase, two_letters, three_digits)
