-- The text that a word holds: how it comes in and out, what a kernel answers of it, and what a case change makes of it.
use Rattle.std.proofs.Common.{cond, eqb, ℕ, zero, suc, ◌+◌, ◌-◌, ◌*◌, ◌/◌, ◌%◌, ◌^◌, ◌<◌, ◌≤◌, ◌≡◌, List, [], ◌∷◌, ◌++◌, length, get_or, Fits, w8, drop, map, replicate, refl, sym, ap, ◌∙◌, subst, arith, take, ap₂, lit<, inl, inr}
use lib.Lanes.{zip2, mask_l, top}
use Rattle.std.proofs.Math.Nat.{pow-suc, mul_comm, pow-le-pow_right, mul-mod_left, mod-eq_of_lt, add-mul-mod_self_left}
use Rattle.std.proofs.lemmas.Nat.{leading_top, pow_pos, pow-add, div-mul-add}
use Rattle.std.proofs.lemmas.Simd.{bitmask_splat, Each1-chunk}
use Rattle.std.proofs.lemmas.Bool.Decides.{nat_tests}
use Rattle.std.proofs.lemmas.List.{length-drop, take_all, length-take, length-append}
use Rattle.std.proofs.lemmas.List.Elements.{All-head, All-tail, All-drop, All-append, All-take}
use Rattle.std.specs.Int.Count.{count_leading_zeros, leading_unique}
use Rattle.tinystr_words.specs.Text.{IsTextByte, IsText, IsPadded, pad, text_of}
use Rattle.tinystr_words.specs.Words.{word, lanes_of, text_in, HoldsText}
use Rattle.tinystr_words.proofs.Pieces.Answers.{IsText-in_case, length-in_case}
use Rattle.tinystr_words.specs.Questions.{in_case}
use Rattle.tinystr_words.specs.declared.question.Case.{Case}
use Rattle.tinystr_words.proofs.Texts.{NULS, text_of-pad, length-text_of-le, take-joined}
use Rattle.tinystr_words.proofs.Words.Lanes.{lanes, IsBytes, IsBytes-from_Fits, IsBytes-from_IsText, word-lt}
use Rattle.tinystr_words.proofs.Words.Formulas.{on, Ascii-padded, IsSafe-changes, on-text_in, lanes-change}
use Rattle.tinystr_words.proofs.Words.Numbers.{lanes_of-word_bytes, lanes_of-word_pad, word-nuls, leading_zeros-word, leading_zeros-more, low_word, low_word_bounds, pow_256-pos}
use Rattle.tinystr_words.proofs.Pieces.Word.{map-mod_bytes, word_by_halves, word_split}
use Rattle.tinystr_words.proofs.Words.Kernels.{case_change, Changes-case_change}
use Rattle.std.proofs.Math.Arith.{mod-mul}
use Rattle.std.proofs.Math.Seq.{take-append_seam, drop-append_seam}
use Rattle.std.proofs.lemmas.Bool.{cases_lt}

-- ---- a word from a padded text

-- the word of a text holds it and nothing else
pub HoldsText-word : (n : ℕ) (t : List ℕ) → IsText t → length t ≤ n → HoldsText n (word t) × (text_in n (word t) ≡ t)
unfolding text_in
HoldsText-word n t x le =
    let z = word-nuls t (n - length t) in
    let e : text_in n (word t) ≡ t = ap (λ m. text_of (lanes_of n m)) (sym z) ∙ ap (λ (l : List ℕ). text_of l) (lanes_of-word_pad n t x le) ∙ text_of-pad t n x in
    (record { text = subst IsText (sym e) x; fits = rw e le; padded = rw e (sym z); low = rw (← z) (low_word (pad t n) (Ascii-padded t (n - length t) x)) }, e)

-- the word that is loaded from a padded text holds the text
pub HoldsText-padded : (n : ℕ) (l : List ℕ) → ((i : ℕ) → Fits w8 (get_or l i 0)) → IsPadded l → length l ≤ n
    → HoldsText n (word (map (λ u. u % 256) l)) × (text_in n (word (map (λ u. u % 256) l)) ≡ text_of l)
HoldsText-padded n l bytes p le =
    let t = text_of l in
    let e : word (map (λ u. u % 256) l) ≡ word t = ap word (map-mod_bytes l bytes ∙ p.padded) ∙ word-nuls t (length l - length t) in
    rw e (HoldsText-word n t p.text (omega (arith, length-text_of-le l)))

-- the length of the text, by the leading zeros
pub text_length : {n w : ℕ} → HoldsText n w → n - count_leading_zeros (8 * n) w / 8 ≡ length (text_in n w)
text_length {n} {w} h =
    let t = text_in n w in
    let e : w ≡ word t = h.padded ∙ word-nuls t (n - length t) in
    let z : count_leading_zeros (8 * n) w / 8 ≡ n - length t = ap (λ v. count_leading_zeros (8 * n) v / 8) e ∙ leading_zeros-word n t h.text h.fits in
    let fits = h.fits in
    omega arith

-- and by the place of the highest bit, above one more bit
pub length_by_top : {w : ℕ} → HoldsText 8 w → w < 2 ^ 64
    → (length (text_in 8 w) ≡ (63 - count_leading_zeros 64 (2 * w + 1) + 7) / 8) × ((count_leading_zeros 64 (2 * w + 1) ≤ 63) × (w ≤ 0x7f7f7f7f7f7f7f7f))
length_by_top {w} h small =
    let low : w ≤ 0x7f7f7f7f7f7f7f7f = (low_word_bounds w h.low).1 small in
    (omega (arith, text_length h, leading_zeros-more 63 w (omega arith)), (omega (arith, (leading_top 64 (2 * w + 1) (omega arith) (omega arith)).1), low))

-- the padded text is the lanes
pub padded_lanes : {n w : ℕ} → HoldsText n w → pad (text_in n w) n ≡ lanes_of n w
padded_lanes {n} {w} h = sym (ap (λ m. lanes_of n m) h.padded ∙ lanes_of-word_pad n (text_in n w) h.text h.fits)

-- of a text and then NULs the NULs are marked: these marks and the bit at the text's length are the bit above all
mask_nuls-padded : (t : List ℕ) (k n : ℕ) → IsText t → length t + k ≡ n → mask_l (map (λ b. eqb b 0) (t ++ NULS k)) + 2 ^ length t ≡ 2 ^ n
mask_nuls-padded [] zero zero x e = refl
mask_nuls-padded [] zero (suc n) x e = absurd (omega arith)
mask_nuls-padded [] (suc k) zero x e = absurd (omega arith)
mask_nuls-padded [] (suc k) (suc n) x e = omega (arith, pow-suc 2 n, mask_nuls-padded [] k n x (omega arith))
mask_nuls-padded (b ∷ t) k zero x e = absurd (omega arith)
mask_nuls-padded (b ∷ t) k (suc n) x e =
    let byte = All-head IsTextByte b t x in
    let rest = mask_nuls-padded t k n (All-tail IsTextByte b t x) (omega arith) in
    grind (arith, nat_tests, pow-suc 2 (length t), pow-suc 2 n)

-- the marks of the NULs in the lanes
abbrev pub nuls : List ℕ → ℕ
nuls lanes = mask_l (map (top 7) (zip2 (λ a b. cond (eqb a b) 255 0) lanes (replicate 16 0))) % 18446744073709551616

-- they leave the bit at the text's length
pub nuls-text_in : {w : ℕ} → HoldsText 16 w → (lanes : List ℕ) → lanes ≡ lanes_of 16 w → nuls lanes + 2 ^ length (text_in 16 w) ≡ 65536
nuls-text_in {w} h lanes is =
    let t = text_in 16 w in
    let long : length lanes ≡ 16 = ap (λ (l : List ℕ). length l) is in
    let fits = h.fits in
    ap (λ m. m + 2 ^ length t) (bitmask_splat w8 eqb lanes 16 0 long (omega arith) ∙ ap (λ (l : List ℕ). mask_l (map (λ b. eqb b 0) l)) (is ∙ sym (padded_lanes h)))
    ∙ mask_nuls-padded t (16 - length t) 16 h.text (omega arith)

-- and the zeros above it give the length
pub leading_zeros-nuls : {w : ℕ} → HoldsText 16 w → (lanes : List ℕ) → lanes ≡ lanes_of 16 w → 63 - length (text_in 16 w) ≡ count_leading_zeros 64 (65536 - nuls lanes)
leading_zeros-nuls {w} h lanes is =
    let k = length (text_in 16 w) in
    let fits = h.fits in
    let left : 65536 - nuls lanes ≡ 2 ^ k = omega (arith, nuls-text_in h lanes is) in
    rw left (leading_unique 64 (2 ^ k) (63 - k) (suc k) (omega arith) (omega (arith, pow-suc 2 k, pow_pos k)) (omega (arith, pow-suc 2 k)))

-- the word of a text, divided by 256, is that of the text without its first byte
word-div : (t : List ℕ) → IsText t → word t / 256 ≡ word (drop 1 t)
word-div [] x = omega arith
word-div (b ∷ t) x = let byte = All-head IsTextByte b t x in omega arith

-- a word without its lowest byte
pub HoldsText-rest : (n : ℕ) (t : List ℕ) → IsText t → length t ≤ n → HoldsText n (word t / 256) × (text_in n (word t / 256) ≡ drop 1 t)
HoldsText-rest n t x le =
    let rest = All-drop IsTextByte 1 t x in
    let fits : length (drop 1 t) ≤ n = omega (arith, length-drop 1 t) in
    rw (word-div t x) (HoldsText-word n (drop 1 t) rest fits)

-- ---- its changes

-- the changed text, padded, is the lanes of a changed word
pub changed_lanes : {n w : ℕ} → HoldsText n w → (c : Case) → pad (in_case c (text_in n w)) n ≡ lanes_of n (on (case_change c) n w)
changed_lanes {n} {w} h c =
    let s = IsSafe-changes (case_change c) c (Changes-case_change c) in
    let e = lanes-change (case_change c) c (Changes-case_change c) n (text_in n w) h.text h.fits in
    let back = lanes_of-word_pad n (in_case c (text_in n w)) (IsText-in_case c (text_in n w) h.text) (omega (arith, length-in_case c (text_in n w), h.fits)) in
    sym (rw (on-text_in h (case_change c) s, e) back)

-- ---- a word whose text is followed by that of another

-- the word of two lists joined: that of the second is above that of the first
word-append : (t s : List ℕ) → word (t ++ s) ≡ word t + 256 ^ length t * word s
word-append t s =
    rw (take-append_seam t s, drop-append_seam t s) at (word_split (length t) (t ++ s) (omega (arith, length-append t s)))

-- a word of at most n bytes is below 256 ^ n
word-lt_pow : (s : List ℕ) (n : ℕ) → IsBytes s → length s ≤ n → word s < 256 ^ n
word-lt_pow s n h le = let k : 256 ^ length s ≤ 256 ^ n = pow-le-pow_right {n = 256} (lit< tt) le in omega (arith, word-lt s h)

-- the lowest lanes
word-mod : (s : List ℕ) (n : ℕ) → IsBytes s → word s % 256 ^ n ≡ word (take n s)
word-mod s n h =
    let front : word (take n s) < 256 ^ n = word-lt_pow (take n s) n (Each1-chunk (λ b. b < 256) 0 n s h) (omega (arith, length-take n s)) in
    elim (cases_lt n (length s)) [
      | inl more ↦ ap (λ w. w % 256 ^ n) (word_split n s (omega arith)) ∙ add-mul-mod_self_left (word (take n s)) (256 ^ n) (word (drop n s)) ∙ mod-eq_of_lt front
      | inr all ↦ rw (take_all n s all) (mod-eq_of_lt (rw (take_all n s all) at front))
    ]

-- the second text follows the first, and what doesn't fit is lost
word-after : (s : List ℕ) (len n : ℕ) → IsBytes s → len ≤ n → word s * 256 ^ len % 256 ^ n ≡ 256 ^ len * word (take (n - len) s)
word-after s len n h le =
    let k : 256 ^ n ≡ 256 ^ (n - len) * 256 ^ len = ap (λ m. 256 ^ m) (omega arith) ∙ pow-add 256 (n - len) len in
    let one = pow_256-pos len in
    let up : word s * 256 ^ len / 256 ^ len ≡ word s = ap (λ m. m / 256 ^ len) (omega arith) ∙ div-mul-add (word s) (256 ^ len) 0 one in
    let none = mul-mod_left (word s) (256 ^ len) in
    rw k (mod-mul (word s * 256 ^ len) (pow_256-pos (n - len)) one ∙ rw (up, none, word-mod s (n - len) h) (omega (arith, mul_comm (256 ^ len) (word (take (n - len) s)))))

-- two words joined hold the two texts joined, or their first n bytes where there are more
pub HoldsText-concat : {n w v : ℕ} → HoldsText n w → HoldsText n v → (len : ℕ) → len ≡ length (text_in n w)
    → let both = w + v * 256 ^ len % 256 ^ n in let t = take n (text_in n w ++ text_in n v) in (both < 256 ^ n) × HoldsText n both × (text_in n both ≡ t)
HoldsText-concat {n} {w} {v} p q len is =
    let t = text_in n w in
    let s = text_in n v in
    let both : List ℕ = take n (t ++ s) in
    let text : IsText both = All-take IsTextByte n (t ++ s) (All-append IsTextByte t s p.text q.text) in
    let fits : length both ≤ n = omega (arith, length-take n (t ++ s)) in
    let cut : both ≡ t ++ take (n - len) s = take-joined t s n ∙ ap₂ (λ (l m : List ℕ). l ++ m) (take_all n t p.fits) (ap (λ m. take (n - m) s) (sym is)) in
    let sum : w + v * 256 ^ len % 256 ^ n ≡ word both =
    ap₂ (λ (x y : ℕ). x + y * 256 ^ len % 256 ^ n) (p.padded ∙ word-nuls t (n - length t)) (q.padded ∙ word-nuls s (n - length s))
    ∙ ap (λ m. word t + m) (word-after s len n (IsBytes-from_IsText s q.text) (omega (arith, is, p.fits)))
    ∙ sym (ap word cut ∙ word-append t (take (n - len) s) ∙ ap (λ m. word t + 256 ^ m * word (take (n - len) s)) (sym is)) in
    let holds = HoldsText-word n both text fits in
    rw sum (word-lt_pow both n (IsBytes-from_IsText both text) fits, holds.0, holds.1)

-- the lanes of at most sixteen bytes
pub padded_bytes : (l : List ℕ) → ((i : ℕ) → Fits w8 (get_or l i 0)) → length l ≤ 16 → pad l 16 ≡ lanes_of 16 (word l)
padded_bytes l f fits = sym (lanes_of-word_bytes 16 l (IsBytes-from_Fits l f) fits)

pub ruleset sixteen_bytes = (word_by_halves, padded_bytes)
