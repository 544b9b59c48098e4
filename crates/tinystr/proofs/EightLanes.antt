-- The bytes of a text in eight lanes, and letters there.
use Rattle.std.proofs.Common.{◌≡◌, ◌+◌, ◌-◌, ◌*◌, ◌/◌, ◌%◌, ◌^◌, ◌<◌, ℕ, zero, suc, [], ◌∷◌, List, length, take, drop, eqb, ap, ap₂, sym, ◌∙◌, arith, refl, ◌≢◌, ◌≤◌, true, false, not, ◌&&◌, Bool, ◌++◌, map, replicate, get_or, cond, ltb, bit_or, lit<, subst, w8}
use Rattle.std.proofs.Math.Nat.{zero-div, zero-mod}
use Rattle.std.proofs.lemmas.Bool.Decides.{nat_tests}
use Rattle.tinystr_words.specs.Text.{IsPadded, IsPaddedText, IsStrictText, text_of, pad, IsTextByte}
use Rattle.tinystr_words.specs.Words.{word, lanes_of}
use Rattle.tinystr_words.proofs.Words.Lanes.{IsBytes, IsBytes-from_IsText, below_at}
use Rattle.tinystr_words.proofs.Parts.Splits.{IsStrictText-drop, IsStrictText-take}
use Rattle.tinystr_words.proofs.Texts.{length-pad, NULS}
use Rattle.tinystr_words.proofs.Words.Numbers.{div-pow_256, mod-pow_256, lanes_of-word_pad, pow_256, word-nuls, lanes_of-word}
use mir.Val.{Fits}
use lib.Lanes.{Each1, zip2, mask_l, top}
use lib.Count.{count_trailing_zeros}
use Rattle.std.specs.List.{prefix_len, list_all}
use Rattle.std.proofs.lemmas.List.{length-map, length-take, take-take}
use Rattle.std.proofs.lemmas.List.Sums.{AllPass-from_list_all, prefix_len-le-length}
use Rattle.std.proofs.lemmas.Simd.{Each1-replicate, below_from_Fits, chunk-fits, tops_compared, zip2_splat_left, mask_l-mod, first_set_mask_l, length-zip2, length-replicate}
use Rattle.tinystr_words.specs.Classes.{is_alphabetic, is_lower}
use Rattle.tinystr_words.specs.Case.{lower, lowercase}

-- ---- the bytes of a text in eight lanes

-- padded bytes are all that the array has
pub IsPadded-whole : (bytes : List ℕ) (n : ℕ) → IsPaddedText bytes n → IsPadded bytes
IsPadded-whole bytes n padded = let size : length bytes ≡ n = ap length padded.padded ∙ length-pad (text_of bytes) n padded.fits in rw size padded

-- ---- a word cut at a byte

-- the bytes before a place
word-take : (n : ℕ) (l : List ℕ) → IsBytes l → word l % 256 ^ n ≡ word (take n l)
word-take zero l a = omega arith
word-take (suc n) [] a = zero-mod (256 ^ suc n)
word-take (suc n) (b ∷ l) a =
    let first : (b + 256 * word l) % 256 ≡ b = omega (arith, a.0) in
    let rest : (b + 256 * word l) / 256 ≡ word l = omega (arith, a.0) in
    mod-pow_256 n (b + 256 * word l) ∙ ap₂ (λ c w. c + 256 * (w % 256 ^ n)) first rest ∙ ap (λ w. b + 256 * w) (word-take n l a.1)

-- and those from it on
word-drop : (n : ℕ) (l : List ℕ) → IsBytes l → word l / 256 ^ n ≡ word (drop n l)
word-drop zero l a = omega arith
word-drop (suc n) [] a = zero-div (256 ^ suc n)
word-drop (suc n) (b ∷ l) a =
    let rest : (b + 256 * word l) / 256 ≡ word l = omega (arith, a.0) in
    div-pow_256 (b + 256 * word l) n ∙ ap (λ w. w / 256 ^ n) rest ∙ word-drop n l a.1

-- the lanes of a word that holds a text
lanes_of-text : (w : ℕ) (t : List ℕ) → IsStrictText t 8 → w ≡ word t → lanes_of 8 w ≡ pad t 8
lanes_of-text w t strict is = ap (lanes_of 8) (is ∙ sym (word-nuls t (8 - length t))) ∙ lanes_of-word_pad 8 t strict.text strict.fits

power-fits : (at : ℕ) → at < 8 → 1 * 2 ^ (8 * at) % 18446744073709551616 ≡ 2 ^ (8 * at)
power-fits at inside = let e = below_at (λ at. eqb (1 * 2 ^ (8 * at) % 18446744073709551616) (2 ^ (8 * at))) 8 refl at inside in grind (arith, nat_tests)

-- the front of a text and its back, as shifts of its word give them
pub lanes_of-split_around : (bytes : List ℕ) (w at : ℕ) → IsPaddedText bytes 8 → w ≡ word bytes → at < 8
    → (let t = text_of bytes in
    (lanes_of 8 (w % (1 * 2 ^ (8 * at) % 18446744073709551616)) ≡ pad (take at t) 8) × IsStrictText (take at t) 8
    × (lanes_of 8 (w / 256 / 2 ^ (8 * at)) ≡ pad (drop (at + 1) t) 8) × IsStrictText (drop (at + 1) t) 8)
lanes_of-split_around bytes w at padded is inside =
    let t = text_of bytes in
    let strict : IsStrictText t 8 = record { text = padded.text; fits = padded.fits } in
    let front = IsStrictText-take at t 8 strict in
    let back = IsStrictText-drop (at + 1) t 8 strict in
    let small = IsBytes-from_IsText t padded.text in
    let next : at + 1 ≡ suc at = omega arith in
    let loaded : w ≡ word t = is ∙ ap word padded.padded ∙ word-nuls t (8 - length t) in (
      lanes_of-text (w % (1 * 2 ^ (8 * at) % 18446744073709551616)) (take at t) front (ap₂ (λ v n. v % n) loaded (power-fits at inside ∙ sym (pow_256 at)) ∙ word-take at t small),
      front,
      lanes_of-text (w / 256 / 2 ^ (8 * at)) (drop (at + 1) t) back
          (ap (λ n. w / 256 / n) (sym (pow_256 at)) ∙ sym (div-pow_256 w at) ∙ ap (λ v. v / 256 ^ suc at) loaded ∙ word-drop (suc at) t small ∙ ap (λ n. word (drop n t)) (sym next)),
      back,
    )

-- ---- letters in eight lanes

-- a byte with another taken from it
abbrev pub less : ℕ → ℕ → ℕ
less a b = (a + (256 - b)) % 256

-- the marks of the lanes that aren't lowercase letters
abbrev pub others : List ℕ → ℕ
others lanes = mask_l (map (top 7) (zip2 (λ a b. cond (ltb a b) 255 0) (replicate 8 25) (zip2 less lanes (replicate 8 97)))) % 18446744073709551616

is_lower-less : (b : ℕ) → b < 256 → not (ltb 25 (less b 97)) ≡ is_lower b
is_lower-less b small = grind (arith, nat_tests)

prefix_len-less : (lanes : List ℕ) → Each1 (Fits w8) lanes → prefix_len (λ x. not (ltb 25 x)) (zip2 less lanes (replicate (length lanes) 97)) ≡ prefix_len is_lower lanes
prefix_len-less [] a = refl
prefix_len-less (b ∷ l) a = ap₂ (λ (is : Bool) (n : ℕ). cond is (1 + n) 0) (is_lower-less b a.0.fits) (prefix_len-less l a.1)

-- the lowest mark is at the number of leading ones
prefix_len-others : (lanes : List ℕ) → length lanes ≡ 8 → Each1 (Fits w8) lanes
    → (others lanes ≡ 0 → 8 ≡ prefix_len is_lower lanes) × (others lanes ≢ 0 → (count_trailing_zeros 64 (others lanes) ≡ prefix_len is_lower lanes) × (count_trailing_zeros 64 (others lanes) ≤ 8))
prefix_len-others lanes eight small =
    let p : ℕ → Bool = λ x. ltb 25 x in
    let places = zip2 less lanes (replicate 8 97) in
    let long : length places ≡ 8 = length-zip2 less lanes (replicate 8 97) (eight ∙ sym (length-replicate {A = ℕ} 8 97)) ∙ eight in
    let marks : others lanes ≡ mask_l (map p places) =
    ap (λ ms. mask_l ms % 18446744073709551616) (tops_compared w8 ltb (replicate 8 25) places ∙ zip2_splat_left ltb 25 8 places long)
    ∙ mask_l-mod (map p places) 64 (omega (arith, length-map places p)) in
    let found = first_set_mask_l p places 8 long (omega arith) in
    let letters : prefix_len (λ x. not (p x)) places ≡ prefix_len is_lower lanes = rw eight at (prefix_len-less lanes small) in
    let most = prefix_len-le-length is_lower lanes in
    rw marks (
      λ none. grind (arith, nat_tests),
      λ some.
          let at : count_trailing_zeros 64 (mask_l (map p places)) ≡ prefix_len is_lower lanes = grind (arith, nat_tests) in
          (at, omega (arith, at, most)),
    )

pub others_none : (lanes : List ℕ) → length lanes ≡ 8 → Each1 (Fits w8) lanes → others lanes ≡ 0 → prefix_len is_lower lanes ≡ 8
others_none lanes eight small none = sym ((prefix_len-others lanes eight small).0 none)

pub others_some : (lanes : List ℕ) → length lanes ≡ 8 → Each1 (Fits w8) lanes → others lanes ≢ 0 → (count_trailing_zeros 64 (others lanes) ≡ prefix_len is_lower lanes) × (count_trailing_zeros 64 (others lanes) ≤ 8)
others_some lanes eight small some = (prefix_len-others lanes eight small).1 some

IsBytes-nuls : (l : List ℕ) (k : ℕ) → IsBytes l → IsBytes (l ++ NULS k)
IsBytes-nuls [] k a = Each1-replicate (λ b. b < 256) k 0 (lit< tt)
IsBytes-nuls (b ∷ l) k a = (a.0, IsBytes-nuls l k a.1)

-- bytes are read into lanes, and then NULs
pub lanes_of-bytes : (n : ℕ) (l : List ℕ) → IsBytes l → length l ≤ n → lanes_of n (word l) ≡ pad l n
lanes_of-bytes n l a fits =
    subst (λ m. lanes_of m (word l) ≡ pad l n) (length-pad l n fits)
    (ap (lanes_of (length (pad l n))) (sym (word-nuls l (n - length l))) ∙ lanes_of-word (pad l n) (IsBytes-nuls l (n - length l) a))

-- one bit more makes a lowercase letter of a letter, and of nothing else
is_lower-lowered : (b : ℕ) → b < 256 → is_lower (bit_or b 32) ≡ is_alphabetic b
is_lower-lowered b small = let e = below_at (λ b. cond (is_lower (bit_or b 32)) (is_alphabetic b) (not (is_alphabetic b))) 256 refl b small in grind arith

lower-lowered : (b : ℕ) → b < 256 → is_alphabetic b ≡ true → bit_or b 32 ≡ lower b
lower-lowered b small letter = let e = below_at (λ b. cond (is_alphabetic b) (eqb (bit_or b 32) (lower b)) true) 256 refl b small in grind (arith, nat_tests)

-- the same number of leading lanes and of leading bytes are letters
prefix_len-lowered : (l : List ℕ) (k n : ℕ) → IsBytes l → n ≡ length l + k → prefix_len is_lower (zip2 bit_or (l ++ NULS k) (replicate n 32)) ≡ prefix_len is_alphabetic l
prefix_len-lowered [] zero n a e = refl
prefix_len-lowered [] (suc k) zero a e = refl
prefix_len-lowered [] (suc k) (suc n) a e = refl
prefix_len-lowered (b ∷ l) k zero a e = absurd (omega arith)
prefix_len-lowered (b ∷ l) k (suc n) a e = ap₂ (λ (is : Bool) (m : ℕ). cond is (1 + m) 0) (is_lower-lowered b a.0) (prefix_len-lowered l k n a.1 (omega arith))

-- and are these in lowercase
take-lowered : (l : List ℕ) (k n : ℕ) → IsBytes l → n ≡ length l + k
    → (take (prefix_len is_alphabetic l) (zip2 bit_or (l ++ NULS k) (replicate n 32)) ≡ lowercase (take (prefix_len is_alphabetic l) l)) × (list_all is_alphabetic (lowercase (take (prefix_len is_alphabetic l) l)) ≡ true)
take-lowered [] k n a e = (refl, refl)
take-lowered (b ∷ l) k zero a e = absurd (omega arith)
take-lowered (b ∷ l) k (suc n) a e = first (is_alphabetic b) refl (take-lowered l k n a.1 (omega arith)) where
  first : (is : Bool) → is_alphabetic b ≡ is
      → (let m = prefix_len is_alphabetic l in (take m (zip2 bit_or (l ++ NULS k) (replicate n 32)) ≡ lowercase (take m l)) × (list_all is_alphabetic (lowercase (take m l)) ≡ true))
      → (let m = cond is (1 + prefix_len is_alphabetic l) 0 in (take m (bit_or b 32 ∷ zip2 bit_or (l ++ NULS k) (replicate n 32)) ≡ lowercase (take m (b ∷ l))) × (list_all is_alphabetic (lowercase (take m (b ∷ l))) ≡ true))
  first true letter rest =
      let one : 1 + prefix_len is_alphabetic l ≡ suc (prefix_len is_alphabetic l) = omega arith in
      let lowered : is_alphabetic (lower b) ≡ true = grind (arith, nat_tests) in
      rw one (ap₂ (λ (x : ℕ) (y : List ℕ). x ∷ y) (lower-lowered b a.0 letter) rest.0, ap₂ (λ x y. x && y) lowered rest.1)
  first false other rest = (refl, refl)

-- a letter is a byte of a text
letter_is_text : (b : ℕ) → is_alphabetic b ≡ true → IsTextByte b
letter_is_text b letter = grind (arith, nat_tests)

-- the leading letters, in lowercase, as lanes hold them
letters-lanes : (u : List ℕ) → ((i : ℕ) → Fits w8 (get_or u i 0))
    → (let lanes = zip2 bit_or (pad (take 8 u) 8) (replicate 8 32) in let n = prefix_len is_alphabetic (take 8 u) in
    (prefix_len is_lower lanes ≡ n) × (take n lanes ≡ lowercase (take n u)) × IsStrictText (lowercase (take n u)) 8)
letters-lanes u small =
    let l = take 8 u in
    let bytes : IsBytes l = below_from_Fits w8 l (chunk-fits w8 0 8 u small) in
    let few : length l ≤ 8 = omega (arith, length-take 8 u) in
    let all : 8 ≡ length l + (8 - length l) = omega arith in
    let n = prefix_len is_alphabetic (take 8 u) in
    let most : n ≤ 8 = omega (arith, prefix_len-le-length is_alphabetic l) in
    let taken = take-lowered l (8 - length l) 8 bytes all in
    let same = take-take n 8 u most in
    let letters : list_all is_alphabetic (lowercase (take n u)) ≡ true = rw same at taken.1 in (
      prefix_len-lowered l (8 - length l) 8 bytes all,
      rw same at taken.0,
      record { text = λ k d below. letter_is_text (get_or (lowercase (take n u)) k d) (AllPass-from_list_all is_alphabetic (lowercase (take n u)) letters k d below); fits = omega (arith, length-map (take n u) lower, length-take n u) },
    )

-- and as they are read
pub letters-read : (u lanes : List ℕ) (n : ℕ) → ((i : ℕ) → Fits w8 (get_or u i 0)) → lanes ≡ pad (take 8 u) 8 → n ≡ prefix_len is_lower (zip2 bit_or lanes (replicate 8 32))
    → (n ≡ prefix_len is_alphabetic (take 8 u)) × (take n (zip2 bit_or lanes (replicate 8 32)) ≡ lowercase (take n u)) × IsStrictText (lowercase (take n u)) 8
letters-read u lanes n small loaded count =
    let all = letters-lanes u small in
    let same : n ≡ prefix_len is_alphabetic (take 8 u) = count ∙ ap (λ l. prefix_len is_lower (zip2 bit_or l (replicate 8 32))) loaded ∙ all.0 in
    (same, rw (loaded, same) all.1, rw same all.2)
