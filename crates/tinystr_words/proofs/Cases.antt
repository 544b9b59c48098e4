-- Case changes, the classes of characters that they keep, and what std says of both.
use Rattle.std.proofs.Common.{◌≡◌, ◌≢◌, ◌==◌, ℕ, ◌↔◌, Bool, true, false, ◌&&◌, List, [], ◌∷◌, None, map, ap, ap₂, ◌∙◌, refl, sym, arith}
use Rattle.std.proofs.Math.Path.{fun_ext}
use Rattle.std.proofs.lemmas.Simd.{map-map}
use Rattle.std.proofs.lemmas.Bool.Decides.{nat_tests}
use Rattle.std.proofs.lemmas.Bool.{false≢true}
use Rattle.std.proofs.lemmas.List.{length-map}
use Rattle.std.proofs.lemmas.List.Elements.{All-cons, All-head, All-map, All-nil, All-tail, All-weaker}
use Rattle.std.specs.List.{All, list_all, position}
use Rattle.tinystr_words.specs.Classes.{ask, is_not_lower, is_not_upper, is_alphanumeric}
use Rattle.tinystr_words.specs.Case.{lower, raise, lowercase, titlecase, uppercase}
use Rattle.tinystr_words.specs.Text.{IsStrictText, IsText, IsTextByte}
use Rattle.tinystr_words.proofs.Pieces.Answers.{ask-same}
use Rattle.std.specs.Char.{is_ascii_alphanumeric, to_ascii_lowercase, to_ascii_uppercase}

-- ---- done twice

-- one change after another, where both come to one change of each byte
pub map-map_same : (f g h : ℕ → ℕ) → ((b : ℕ) → f (g b) ≡ h b) → (t : List ℕ) → map f (map g t) ≡ map h t
map-map_same f g h each t = map-map f g t ∙ ap (λ (change : ℕ → ℕ). map change t) (fun_ext each)

-- a text in titlecase stays the same when it is put in titlecase again
pub titlecase-twice : (t : List ℕ) → titlecase (titlecase t) ≡ titlecase t
titlecase-twice [] = refl
titlecase-twice (b ∷ t) = ap₂ (λ x xs. x ∷ xs) (grind (arith, nat_tests)) (map-map_same lower lower lower (λ b. grind (arith, nat_tests)) t)

-- a text in another case, put in titlecase
pub titlecase-lowercase : (t : List ℕ) → titlecase (lowercase t) ≡ titlecase t
titlecase-lowercase [] = refl
titlecase-lowercase (b ∷ t) = ap₂ (λ x xs. x ∷ xs) (grind (arith, nat_tests)) (map-map_same lower lower lower (λ b. grind (arith, nat_tests)) t)

pub titlecase-uppercase : (t : List ℕ) → titlecase (uppercase t) ≡ titlecase t
titlecase-uppercase [] = refl
titlecase-uppercase (b ∷ t) = ap₂ (λ x xs. x ∷ xs) (grind (arith, nat_tests)) (map-map_same lower raise lower (λ b. grind (arith, nat_tests)) t)

-- a text in titlecase, put in another case
pub lowercase-titlecase : (t : List ℕ) → lowercase (titlecase t) ≡ lowercase t
lowercase-titlecase [] = refl
lowercase-titlecase (b ∷ t) = ap₂ (λ x xs. x ∷ xs) (grind (arith, nat_tests)) (map-map_same lower lower lower (λ b. grind (arith, nat_tests)) t)

pub uppercase-titlecase : (t : List ℕ) → uppercase (titlecase t) ≡ uppercase t
uppercase-titlecase [] = refl
uppercase-titlecase (b ∷ t) = ap₂ (λ x xs. x ∷ xs) (grind (arith, nat_tests)) (map-map_same raise lower raise (λ b. grind (arith, nat_tests)) t)

-- ---- kept by a case change

-- a change of each byte that puts the bytes of one class in another
list_all-changed : (p q : ℕ → Bool) (f : ℕ → ℕ) → ((b : ℕ) → p (f b) ≡ q b) → (t : List ℕ) → list_all p (map f t) ≡ list_all q t
list_all-changed p q f changed [] = refl
list_all-changed p q f changed (b ∷ t) = ap₂ (λ x y. x && y) (changed b) (list_all-changed p q f changed t)

pub ask-map : (p q : ℕ → Bool) (f : ℕ → ℕ) → ((b : ℕ) → p (f b) ≡ q b) → (t : List ℕ) → ask p p (map f t) ≡ ask q q t
ask-map p q f changed t = ask-same p (map f t) ∙ list_all-changed p q f changed t ∙ sym (ask-same q t)

pub ask-titlecase : (first others q : ℕ → Bool) → ((b : ℕ) → first (raise b) ≡ q b) → ((b : ℕ) → others (lower b) ≡ q b) → (t : List ℕ) → ask first others (titlecase t) ≡ ask q q t
ask-titlecase first others q raised lowered [] = refl
ask-titlecase first others q raised lowered (b ∷ t) = ap₂ (λ x y. x && y) (raised b) (list_all-changed others q lower lowered t)

-- a text that fits, under a change that makes bytes of texts of such bytes
pub IsStrictText-map : (f : ℕ → ℕ) → ((b : ℕ) → IsTextByte b → IsTextByte (f b)) → (t : List ℕ) (n : ℕ) → IsStrictText t n → IsStrictText (map f t) n
IsStrictText-map f kept t n h = record {
  text = All-map IsTextByte f t (All-weaker IsTextByte (λ b. IsTextByte (f b)) kept t h.text);
  fits = omega (arith, length-map t f, h.fits);
}

pub IsStrictText-titlecase : (t : List ℕ) (n : ℕ) → IsStrictText t n → IsStrictText (titlecase t) n
IsStrictText-titlecase [] n h = h
IsStrictText-titlecase (b ∷ t) n h =
    let first : IsTextByte b = All-head IsTextByte b t h.text in
    let others = All-tail IsTextByte b t h.text in
    record {
      text = All-cons IsTextByte (raise b) (map lower t) (grind (arith, nat_tests)) (All-map IsTextByte lower t (All-weaker IsTextByte (λ c. IsTextByte (lower c)) (λ c k. grind (arith, nat_tests)) t others));
      fits = omega (arith, length-map t lower, h.fits);
    }

-- ---- left alone

-- a byte is left alone by lowering exactly if it isn't upper
lower_alone : (b : ℕ) → (lower b ≡ b) ↔ (is_not_upper b ≡ true)
lower_alone b = (λ e. grind (arith, nat_tests), λ e. grind (arith, nat_tests))

-- and by raising exactly if it isn't lower
raise_alone : (b : ℕ) → (raise b ≡ b) ↔ (is_not_lower b ≡ true)
raise_alone b = (λ e. grind (arith, nat_tests), λ e. grind (arith, nat_tests))

-- a byte and the list after it, each left alone exactly where a test passes
cons_alone : (b c : ℕ) (t s : List ℕ) (p q : Bool) → (c ≡ b) ↔ (p ≡ true) → (s ≡ t) ↔ (q ≡ true) → (c ∷ s ≡ b ∷ t) ↔ ((p && q) ≡ true)
cons_alone b c t s p q first others = (
  λ e. let x = first.0 (cc) in let y = others.0 (cc) in cc,
  λ e. let x = first.1 (grind arith) in let y = others.1 (grind arith) in cc,
)

-- a list is left alone by a change of each byte exactly if each byte passes the test of being left alone
map_alone : (f : ℕ → ℕ) (p : ℕ → Bool) → ((b : ℕ) → (f b ≡ b) ↔ (p b ≡ true)) → (t : List ℕ) → (map f t ≡ t) ↔ (list_all p t ≡ true)
map_alone f p alone [] = (λ e. refl, λ e. refl)
map_alone f p alone (b ∷ t) = cons_alone b (f b) t (map f t) (p b) (list_all p t) (alone b) (map_alone f p alone t)

-- a text is left alone by lowercase exactly if no byte is upper
pub lowercase-alone : (t : List ℕ) → (lowercase t ≡ t) ↔ (ask is_not_upper is_not_upper t ≡ true)
lowercase-alone t = rw (ask-same is_not_upper t) (map_alone lower is_not_upper lower_alone t)

-- by uppercase exactly if no byte is lower
pub uppercase-alone : (t : List ℕ) → (uppercase t ≡ t) ↔ (ask is_not_lower is_not_lower t ≡ true)
uppercase-alone t = rw (ask-same is_not_lower t) (map_alone raise is_not_lower raise_alone t)

-- and by titlecase exactly if its first byte isn't lower and no later one is upper
pub titlecase-alone : (t : List ℕ) → (titlecase t ≡ t) ↔ (ask is_not_lower is_not_upper t ≡ true)
titlecase-alone [] = (λ e. refl, λ e. refl)
titlecase-alone (b ∷ t) =
    cons_alone b (raise b) t (map lower t) (is_not_lower b) (list_all is_not_upper t) (raise_alone b)
    (map_alone lower is_not_upper lower_alone t)

-- ---- joined

-- each byte is in a class joined from two exactly if each is in the one and each is in the other
list_all-joined : (both one other : ℕ → Bool) → ((b : ℕ) → both b ≡ (one b && other b)) → (t : List ℕ) → list_all both t ≡ (list_all one t && list_all other t)
list_all-joined both one other joined [] = refl
list_all-joined both one other joined (b ∷ t) = let e = joined b in let r = list_all-joined both one other joined t in grind arith

-- a question whose classes are joined from one for all bytes and two others is the two questions of these
pub ask-joined : (first others class first_case others_case : ℕ → Bool) → ((b : ℕ) → first b ≡ (class b && first_case b)) → ((b : ℕ) → others b ≡ (class b && others_case b)) → (t : List ℕ) → ask first others t ≡ (ask class class t && ask first_case others_case t)
ask-joined first others class first_case others_case at_first at_others [] = refl
ask-joined first others class first_case others_case at_first at_others (b ∷ t) =
    let e = at_first b in
    let r = list_all-joined others class others_case at_others t in
    grind arith

-- ---- classes of characters

-- each byte is of a class of characters
pub IsText-list_all : (p : ℕ → Bool) → ((b : ℕ) → p b ≡ true → IsTextByte b) → (t : List ℕ) → list_all p t ≡ true → IsText t
IsText-list_all p each [] h = All-nil IsTextByte
IsText-list_all p each (b ∷ t) h = All-cons IsTextByte b t (each b (grind arith)) (IsText-list_all p each t (grind arith))

-- so are the first byte and the others
pub IsText-ask : (first others : ℕ → Bool) → ((b : ℕ) → first b ≡ true → IsTextByte b) → ((b : ℕ) → others b ≡ true → IsTextByte b) → (t : List ℕ) → ask first others t ≡ true → IsText t
IsText-ask first others one each [] h = All-nil IsTextByte
IsText-ask first others one each (b ∷ t) h = All-cons IsTextByte b t (one b (grind arith)) (IsText-list_all others each t (grind arith))

-- no byte of a class is a byte that isn't
pub All-differs : (p : ℕ → Bool) (c : ℕ) (t : List ℕ) → list_all p t ≡ true → p c ≡ false → All (λ b. b ≢ c) t
All-differs p c [] h out = All-nil (λ b. b ≢ c)
All-differs p c (b ∷ t) h out =
    let here : p b ≡ true = grind arith in
    All-cons (λ b. b ≢ c) b t (λ e. false≢true (sym out ∙ (ap p (sym e) ∙ here))) (All-differs p c t (grind arith) out)

-- a list whose bytes all differ from a byte has no place of it
pub position-missed : (c : ℕ) (t : List ℕ) → All (λ b. b ≢ c) t → position (λ b. b == c) t ≡ None
position-missed c [] h = refl
position-missed c (b ∷ t) h =
    let other : b ≢ c = All-head (λ b. b ≢ c) b t h in
    let rest = position-missed c t (All-tail (λ b. b ≢ c) b t h) in
    grind (arith, nat_tests)

-- ---- classes and case changes, as std says them

pub is_alphanumeric-std : (b : ℕ) → is_alphanumeric b ≡ is_ascii_alphanumeric b
is_alphanumeric-std b = grind (arith, nat_tests)

pub lower-std : (b : ℕ) → lower b ≡ to_ascii_lowercase b
lower-std b = grind (arith, nat_tests)

pub raise-std : (b : ℕ) → raise b ≡ to_ascii_uppercase b
raise-std b = grind (arith, nat_tests)

pub lowercase-std : (t : List ℕ) → lowercase t ≡ map to_ascii_lowercase t
lowercase-std t = ap (λ (change : ℕ → ℕ). map change t) (fun_ext lower-std)

pub uppercase-std : (t : List ℕ) → uppercase t ≡ map to_ascii_uppercase t
uppercase-std t = ap (λ (change : ℕ → ℕ). map change t) (fun_ext raise-std)
