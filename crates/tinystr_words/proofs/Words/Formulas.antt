-- Formulas over words: what each does to a lane alone, it does to that lane of the word.
use Rattle.std.proofs.Common.{ℕ, zero, suc, ◌+◌, ◌-◌, ◌*◌, ◌/◌, ◌%◌, ◌^◌, ◌<◌, ◌≤◌, ◌≡◌, Bool, true, false, cond, ◌&&◌, List, [], ◌∷◌, ◌++◌, length, refl, sym, ap, ap₂, ◌∙◌, arith, nat_eq, nat_lt, replicate, lit<, map}
use Rattle.std.proofs.lemmas.Bool.Decides.{nat_tests}
use Rattle.std.specs.Cmp.{booleans_Decides}
use Rattle.std.specs.Bool.{beq}
use Rattle.std.specs.List.{list_all}
use Rattle.std.proofs.lemmas.Bool.{ltb-true}
use Rattle.std.proofs.lemmas.List.Elements.{All-head, All-tail}
use Rattle.tinystr_words.specs.Text.{IsTextByte, IsText, pad}
use Rattle.tinystr_words.specs.Classes.{ask}
use Rattle.tinystr_words.specs.Case.{lower, raise}
use Rattle.tinystr_words.specs.Words.{word, first_then, text_in, HoldsText}
use Rattle.tinystr_words.specs.Questions.{in_case}
use Rattle.tinystr_words.specs.declared.question.Case.{Case}
use Rattle.tinystr_words.specs.declared.question.Case.TheVariants.{Lower, Title, Upper}
use Rattle.tinystr_words.proofs.Texts.{NULS, length-pad}
use Rattle.tinystr_words.proofs.Pieces.Answers.{first_change, later_change, length-in_case}
use Rattle.std.proofs.Math.Dec.{eqb-suc-zero}
use Rattle.std.proofs.Math.Bool.{and-true}
use Rattle.std.proofs.lemmas.Simd.{Each1-replicate}
use Rattle.std.proofs.lemmas.List.Folds.{list_all-append, list_all-map}
use Rattle.tinystr_words.proofs.Words.Lanes.{Bytewise, everywhere, true_from_everywhere, Ascii, Bytes, lanes, op-word_lanes, word_not, word_quarter, nat_eq-word_lanes}

-- a formula over a word, as `(w + u(0x50)) & H` is `join conjunction (join addition itself (splat 0x50)) (splat 0x80)`
pub data Formula : Type 0 where
  itself : Formula
  lead : ℕ → ℕ → Formula
  join : Bytewise → Formula → Formula → Formula
  flip : Formula → Formula
  quarter : Formula → Formula

abbrev pub splat : ℕ → Formula
splat c = lead c c

-- of one lane, where the flag says whether it is the first
abbrev pub at : Formula → Bool → ℕ → ℕ
at itself i b = b
at (lead a c) i b = cond i a c
at (join o f g) i b = o.op (at f i b) (at g i b)
at (flip f) i b = 255 - at f i b
at (quarter f) i b = at f i b / 4

-- of a word of n lanes
abbrev pub on : Formula → ℕ → ℕ → ℕ
on itself n w = w
on (lead a c) n w = word (first_then n a c)
on (join o f g) n w = o.op (on f n w) (on g n w)
on (flip f) n w = 256 ^ n - 1 - on f n w
on (quarter f) n w = on f n w / 4

-- the lane stays a byte at each step, and a shift moves no bit out of it
abbrev pub is_safe : Formula → Bool → ℕ → Bool
is_safe itself i b = true
is_safe (lead a c) i b = nat_lt (cond i a c) 256
is_safe (join o f g) i b = is_safe f i b && (is_safe g i b && nat_lt (o.op (at f i b) (at g i b)) 256)
is_safe (flip f) i b = is_safe f i b
is_safe (quarter f) i b = is_safe f i b && nat_eq (at f i b % 4) 0

abbrev pub IsSafe : Formula → Type 0
IsSafe f = (i : Bool) (b : ℕ) → b < 128 → is_safe f i b ≡ true

-- numbers that the test finds equal are equal
pub same_from_nat_eq : (x y : ℕ) → nat_eq x y ≡ true → x ≡ y
same_from_nat_eq x y h = grind (arith, nat_tests)

-- the parts of a safe formula are safe
IsSafe-join : (o : Bytewise) (f g : Formula) → IsSafe (join o f g) → IsSafe f × (IsSafe g × Bytes (at (join o f g)))
IsSafe-join o f g s = (λ i b l. let h = s i b l in grind arith, (λ i b l. let h = s i b l in grind arith, λ i b l. let h = s i b l in grind (arith, nat_tests)))

IsSafe-quarter : (f : Formula) → IsSafe (quarter f) → IsSafe f × ((i : Bool) (b : ℕ) → b < 128 → at f i b % 4 ≡ 0)
IsSafe-quarter f s = (λ i b l. let h = s i b l in grind arith, λ i b l. let h = s i b l in grind (arith, nat_tests))

-- a safe formula makes bytes of ASCII bytes
pub Bytes-at : (f : Formula) → IsSafe f → Bytes (at f)
Bytes-at itself s i b l = omega arith
Bytes-at (lead a c) s i b l = ltb-true _ _ (s i b l)
Bytes-at (join o f g) s i b l = (IsSafe-join o f g s).1.1 i b l
Bytes-at (flip f) s i b l = omega arith
Bytes-at (quarter f) s i b l = let e = Bytes-at f (IsSafe-quarter f s).0 i b l in omega arith

-- a word with each lane left alone is the word
word-lanes_unchanged : (i : Bool) (l : List ℕ) → word l ≡ word (lanes (λ i b. b) i l)
word-lanes_unchanged i [] = refl
word-lanes_unchanged i (b ∷ l) = ap (λ n. b + 256 * n) (word-lanes_unchanged false l)

-- copies of a byte are later lanes, each changed to that byte
replicate_is_lanes : (a c : ℕ) (l : List ℕ) → replicate (length l) c ≡ lanes (λ i _. cond i a c) false l
replicate_is_lanes a c [] = refl
replicate_is_lanes a c (b ∷ l) = ap (λ m. c ∷ m) (replicate_is_lanes a c l)

-- a byte and then copies of another are lanes, the first changed to the one and the later ones to the other
first_then_is_lanes : (a c : ℕ) (l : List ℕ) → first_then (length l) a c ≡ lanes (λ i _. cond i a c) true l
first_then_is_lanes a c [] = refl
first_then_is_lanes a c (b ∷ l) = ap (λ m. a ∷ m) (replicate_is_lanes a c l)

-- a safe formula over a word of ASCII bytes does to each lane what it does to a lane alone
lanewise : (f : Formula) (l : List ℕ) → Ascii l → IsSafe f → on f (length l) (word l) ≡ word (lanes (at f) true l)
lanewise itself l a s = word-lanes_unchanged true l
lanewise (lead x c) l a s = ap word (first_then_is_lanes x c l)
lanewise (join o f g) l a s =
    let p = IsSafe-join o f g s in
    rw (lanewise f l a p.0, lanewise g l a p.1.0) (op-word_lanes o (at f) (at g) (Bytes-at f p.0) (Bytes-at g p.1.0) true l a)
lanewise (flip f) l a s = rw (lanewise f l a s) (word_not (at f) (Bytes-at f s) true l a)
lanewise (quarter f) l a s =
    let p = IsSafe-quarter f s in
    let e = word_quarter (at f) p.1 true l a in
    rw (lanewise f l a p.0) (omega arith)

-- ---- what is known of each ASCII byte is known of each lane of a padded text

-- what is z at NUL, and at another byte what G makes of it, is on a text and then NULs that of the text, and then z
lanes-padded : {A : Type 0} (F G : Bool → ℕ → A) (z : A) → ((i : Bool) (b : ℕ) → b < 128 → F i b ≡ cond (nat_eq b 0) z (G i b)) → (i : Bool) (t : List ℕ) (k : ℕ) → IsText t → lanes F i (t ++ NULS k) ≡ lanes G i t ++ replicate k z
lanes-padded F G z same i [] zero x = refl
lanes-padded F G z same i [] (suc k) x = ap₂ (λ x xs. x ∷ xs) (same i 0 (lit< tt)) (lanes-padded F G z same false [] k x)
lanes-padded F G z same i (zero ∷ t) k x = let h = All-head (IsTextByte) zero t x in absurd (omega arith)
lanes-padded F G z same i (suc b ∷ t) k x =
    let h = All-head (IsTextByte) (suc b) t x in
    ap₂ (λ x xs. x ∷ xs) (same i (suc b) h.1 ∙ ap (λ e. cond e z (G i (suc b))) (eqb-suc-zero b)) (lanes-padded F G z same false t k (All-tail (IsTextByte) (suc b) t x))

-- a text and then NULs are ASCII bytes
pub Ascii-padded : (t : List ℕ) (k : ℕ) → IsText t → Ascii (t ++ NULS k)
Ascii-padded [] k x = Each1-replicate (λ b. b < 128) k 0 (lit< tt)
Ascii-padded (b ∷ t) k x = ((All-head (IsTextByte) b t x).1, Ascii-padded t k (All-tail (IsTextByte) b t x))

-- ---- what a test or a change of words says of the text

abbrev pub first_or_others : {A : Type 0} → (ℕ → A) → (ℕ → A) → Bool → ℕ → A
first_or_others first others i b = cond i (first b) (others b)

-- later lanes are all changed as later bytes are
lanes-first_or_others : {A : Type 0} (first others : ℕ → A) (t : List ℕ) → lanes (first_or_others first others) false t ≡ map others t
lanes-first_or_others first others [] = refl
lanes-first_or_others first others (b ∷ t) = ap (λ r. others b ∷ r) (lanes-first_or_others first others t)

list_all-replicate_true : (k : ℕ) → list_all (λ r. r) (replicate k true) ≡ true
list_all-replicate_true zero = refl
list_all-replicate_true (suc k) = list_all-replicate_true k

-- lanes pass a test of two classes, and NULs any, exactly if the first byte is in the first and each later one in the other
list_all-lanes : (first others : ℕ → Bool) (t : List ℕ) (k : ℕ) → list_all (λ r. r) (lanes (first_or_others first others) true t ++ replicate k true) ≡ ask first others t
list_all-lanes first others [] k = list_all-replicate_true k
list_all-lanes first others (b ∷ t) k =
    ap (λ r. first b && r) (list_all-append (λ r. r) (lanes (first_or_others first others) false t) (replicate k true) ∙ rw (lanes-first_or_others first others t, list_all-map (λ r. r) others t, list_all-replicate_true k) (and-true (list_all others t)))

-- the lanes of a text, each changed as a case does, are the text in that case
lanes-in_case : (c : Case) (t : List ℕ) → lanes (first_or_others (first_change c) (later_change c)) true t ≡ in_case c t
lanes-in_case Lower [] = refl
lanes-in_case Lower (b ∷ t) = ap (λ r. lower b ∷ r) (lanes-first_or_others lower lower t)
lanes-in_case Title [] = refl
lanes-in_case Title (b ∷ t) = ap (λ r. raise b ∷ r) (lanes-first_or_others raise lower t)
lanes-in_case Upper [] = refl
lanes-in_case Upper (b ∷ t) = ap (λ r. raise b ∷ r) (lanes-first_or_others raise raise t)

-- at each byte, first or later, f and g are equal exactly if the byte is NUL or in its class
abbrev pub Asks : Formula → Formula → (ℕ → Bool) → (ℕ → Bool) → Type 0
Asks f g first others = (i : Bool) (b : ℕ) → b < 128 → (is_safe f i b ≡ true) × ((is_safe g i b ≡ true) × (nat_eq (at f i b) (at g i b) ≡ cond (nat_eq b 0) true (first_or_others first others i b)))

-- they are, if computing finds it at each byte
pub Asks-from_everywhere : (f g : Formula) (first others : ℕ → Bool) → everywhere (λ i b. is_safe f i b && (is_safe g i b && beq (nat_eq (at f i b) (at g i b)) (cond (nat_eq b 0) true (first_or_others first others i b)))) ≡ true → Asks f g first others
Asks-from_everywhere f g first others h i b l =
    let e = true_from_everywhere _ h i b l in
    (grind arith, (grind arith, (booleans_Decides _ _).0 (grind arith)))

-- at each byte, f keeps NUL and changes another as the case does
abbrev pub Changes : Formula → Case → Type 0
Changes f c = everywhere (λ i b. is_safe f i b && nat_eq (at f i b) (cond (nat_eq b 0) 0 (first_or_others (first_change c) (later_change c) i b))) ≡ true

-- a safe formula over a word that holds a text does to each lane what it does to a lane alone
pub on-text_in : {n w : ℕ} → HoldsText n w → (f : Formula) → IsSafe f → on f n w ≡ word (lanes (at f) true (pad (text_in n w) n))
on-text_in {n} {w} h f s =
    let l = pad (text_in n w) n in
    ap (on f n) h.padded ∙ ap (λ m. on f m (word l)) (sym (length-pad (text_in n w) n h.fits)) ∙ lanewise f l (Ascii-padded (text_in n w) (n - length (text_in n w)) h.text) s

-- two formulas that test for classes are equal on such a word exactly if its text is in them
pub nat_eq-on : {n w : ℕ} → HoldsText n w → (f g : Formula) (first others : ℕ → Bool) → Asks f g first others → nat_eq (on f n w) (on g n w) ≡ ask first others (text_in n w)
nat_eq-on {n} {w} h f g first others a =
    let t = text_in n w in
    let p : IsSafe f = λ i b l. (a i b l).0 in
    let r : IsSafe g = λ i b l. (a i b l).1.0 in
    rw (on-text_in h f p, on-text_in h g r)
    (nat_eq-word_lanes (at f) (at g) (Bytes-at f p) (Bytes-at g r) true (pad t n) (Ascii-padded t (n - length t) h.text)
    ∙ ap (list_all (λ r. r)) (lanes-padded _ (first_or_others first others) true (λ i b l. (a i b l).1.1) true t (n - length t) h.text) ∙ list_all-lanes first others t (n - length t))

-- a formula that changes bytes as a case does is safe
pub IsSafe-changes : (f : Formula) (c : Case) → Changes f c → IsSafe f
IsSafe-changes f c h i b l = let e = true_from_everywhere _ h i b l in grind arith

-- the lanes of a padded text, each changed by f, are those of the changed text
pub lanes-change : (f : Formula) (c : Case) → Changes f c → (n : ℕ) (t : List ℕ) → IsText t → length t ≤ n → lanes (at f) true (pad t n) ≡ pad (in_case c t) n
lanes-change f c h n t x le =
    let change = first_or_others (first_change c) (later_change c) in
    let agree : (i : Bool) (b : ℕ) → b < 128 → at f i b ≡ cond (nat_eq b 0) 0 (change i b) = λ i b l. let e = true_from_everywhere _ h i b l in same_from_nat_eq _ _ (grind arith) in
    rw (length-in_case c t) (lanes-padded (at f) change 0 agree true t (n - length t) x ∙ ap (λ l. l ++ NULS (n - length t)) (lanes-in_case c t))
