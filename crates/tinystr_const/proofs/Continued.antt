-- Whether bytes go on as a text and then NULs, as words of eight bytes are tested.
use Rattle.std.proofs.Common.{ℕ, zero, suc, ◌+◌, ◌-◌, ◌*◌, ◌/◌, ◌%◌, ◌^◌, ◌<◌, ◌≤◌, ◌≡◌, ◌⊎◌, Bool, true, false, ◌&&◌, List, [], ◌∷◌, ◌++◌, length, map, take, drop, rules, IsTrue, refl, sym, ap, ap₂, ◌∙◌, arith, bit_and, bit_or, nat_eq, nat_lt, lit<, inl, inr, cond, ◌||◌, get_or, ◌↔◌}
use Rattle.std.proofs.Math.Nat.{pow-suc}
use Rattle.std.proofs.lemmas.Bool.{and_parts, cases_lt}
use Rattle.std.proofs.lemmas.List.Elements.{All-nil}
use Rattle.std.proofs.lemmas.Bool.Decides.{nat_tests}
use Rattle.std.proofs.lemmas.Nat.{and_le_r, and_or_self, le_or_l, or_lt}
use Rattle.std.proofs.lemmas.List.{length-map, length-take, places, take-append-drop}
use Rattle.std.proofs.lemmas.Simd.{Each1-replicate}
use Rattle.std.specs.Int.Bits.{or_zero_r}
use Rattle.tinystr_words.specs.Text.{IsPadded, IsTextByte}
use Rattle.tinystr_words.specs.Words.{word}
use Rattle.tinystr_words.proofs.Texts.{NULS, IsPaddedText-whole}
use Rattle.tinystr_words.proofs.Words.Lanes.{below_at, IsBytes, IsBytes-append, word-lt, and_step, disjunction}
use Rattle.tinystr_words.proofs.Words.Numbers.{div-pow_256, mod-pow_256, word-nuls}
use Rattle.tinystr_words.proofs.Words.Formulas.{same_from_nat_eq}
use Rattle.tinystr_words.proofs.Padding.{fill, high_bit-is, mark, IsPadded-cons}

-- the mark of a byte is the high bit, unless the lower ones are clear
mark-is : (b : ℕ) → b < 256 → mark b ≡ cond (nat_eq b 0 || nat_eq b 0x80) 0 0x80
mark-is b l = same_from_nat_eq _ _ (below_at (λ b. nat_eq (mark b) (cond (nat_eq b 0 || nat_eq b 0x80) 0 0x80)) 256 refl b l)

mark-lt : (b : ℕ) → mark b < 256
mark-lt b = let e = and_le_r (bit_and b 0x7f + 0x7f) 0x80 in omega arith

IsBytes-marks : (l : List ℕ) → IsBytes (map mark l)
IsBytes-marks [] = tt
IsBytes-marks (b ∷ l) = (mark-lt b, IsBytes-marks l)

-- the marks of a word are those of its bytes
marks_word : (l : List ℕ) → IsBytes l → bit_and (bit_and (word l) (fill (length l) 0x7f) + fill (length l) 0x7f) (fill (length l) 0x80) ≡ word (map mark l)
marks_word [] a = refl
marks_word (b ∷ l) a =
    let n = length l in
    let low = and_le_r b 0x7f in
    let one = and_step (word l) (fill n 0x7f) b 0x7f a.0 (lit< tt) in
    let two : bit_and b 0x7f + 256 * bit_and (word l) (fill n 0x7f) + (0x7f + 256 * fill n 0x7f) ≡ bit_and b 0x7f + 0x7f + 256 * (bit_and (word l) (fill n 0x7f) + fill n 0x7f) = omega arith in
    let three = and_step (bit_and (word l) (fill n 0x7f) + fill n 0x7f) (fill n 0x80) (bit_and b 0x7f + 0x7f) 0x80 (omega arith) (lit< tt) in
    ap (λ m. bit_and (m + fill (suc n) 0x7f) (fill (suc n) 0x80)) one ∙ ap (λ m. bit_and m (fill (suc n) 0x80)) two ∙ three
    ∙ ap (λ m. mark b + 256 * m) (marks_word l a.1)

-- ---- the bytes, one after another, each with the mark of the one before it

abbrev pub IsMark : ℕ → Type 0
IsMark p = (p ≡ 0) ⊎ (p ≡ 0x80)

IsMark-mark : (b : ℕ) → b < 256 → IsMark (mark b)
IsMark-mark b small = elim (cases_lt 0 (mark b)) [
  | inl some ↦ inr (let e = mark-is b small in grind (arith, nat_tests))
  | inr none ↦ inl (omega arith)
]

-- the mark of a character after a NUL
abbrev late : ℕ → ℕ → ℕ
late p b = bit_and (mark b) (255 - p)

abbrev pub goes_on : ℕ → List ℕ → Bool
goes_on p [] = true
goes_on p (b ∷ l) = nat_lt b 128 && (nat_eq (late p b) 0 && goes_on (mark b) l)

-- the mark of the last byte
abbrev pub last_mark : ℕ → List ℕ → ℕ
last_mark p [] = p
last_mark p (b ∷ l) = last_mark (mark b) l

pub IsMark-last : (p : ℕ) (l : List ℕ) → IsMark p → IsBytes l → IsMark (last_mark p l)
IsMark-last p [] m a = m
IsMark-last p (b ∷ l) m a = IsMark-last (mark b) l (IsMark-mark b a.0) a.1

and_assoc : (p q r s : Bool) → (p && (q && (r && s))) ≡ ((p && (q && r)) && s)
and_assoc true true r s = refl
and_assoc true false r s = refl
and_assoc false q r s = refl

pub goes_on-append : (p : ℕ) (l m : List ℕ) → goes_on p (l ++ m) ≡ (goes_on p l && goes_on (last_mark p l) m)
goes_on-append p [] m = refl
goes_on-append p (b ∷ l) m =
    ap (λ r. nat_lt b 128 && (nat_eq (late p b) 0 && r)) (goes_on-append (mark b) l m)
    ∙ and_assoc (nat_lt b 128) (nat_eq (late p b) 0) (goes_on (mark b) l) (goes_on (last_mark (mark b) l) m)

goes_on-nuls : (p k : ℕ) → goes_on p (NULS k) ≡ true
goes_on-nuls p zero = refl
goes_on-nuls p (suc k) = goes_on-nuls 0 k

-- of a character and NULs before it
late-is : (p b : ℕ) → IsMark p → b < 128 → nat_eq (late p b) 0 ≡ (nat_eq b 0 || nat_lt 0 p)
late-is p b (inl e) small = rw (e, mark-is b (omega arith)) (grind (arith, nat_tests))
late-is p b (inr e) small = rw (e, mark-is b (omega arith)) (grind (arith, nat_tests))

-- bytes go on exactly if they are padded, and have no text after a NUL
pub goes_on-Decides : (p : ℕ) (l : List ℕ) → IsMark p → IsBytes l
    → (goes_on p l ≡ true → IsPadded l × (p ≡ 0 → get_or l 0 0 ≡ 0)) × (IsPadded l → (p ≡ 0 → get_or l 0 0 ≡ 0) → goes_on p l ≡ true)
goes_on-Decides p [] m a = (λ _. (IsPaddedText-whole [] (All-nil IsTextByte), λ _. refl), λ _ _. refl)
goes_on-Decides p (b ∷ l) m a =
    let others = goes_on-Decides (mark b) l (IsMark-mark b a.0) a.1 in
    let marked : b < 128 → mark b ≡ cond (nat_eq b 0 || nat_eq b 0x80) 0 0x80 = λ low. mark-is b (omega arith) in (
      λ t.
          let parts = and_parts (nat_lt b 128) (nat_eq (late p b) 0 && goes_on (mark b) l) t in
          let more = and_parts (nat_eq (late p b) 0) (goes_on (mark b) l) parts.1 in
          let low : b < 128 = grind (arith, nat_tests) in
          let is = marked low in
          let rest = others.0 more.1 in
          let first = sym (late-is p b m low) ∙ more.0 in
          ((IsPadded-cons b l).0 (low, (rest.0, λ nul. rest.1 (grind (arith, nat_tests)))), λ none. grind (arith, nat_tests)),
      λ q after.
          let parts = (IsPadded-cons b l).1 q in
          let low = parts.0 in
          let is = marked low in
          let nul : mark b ≡ 0 → b ≡ 0 = λ none. grind (arith, nat_tests) in
          let rest = others.1 parts.1.0 (λ none. parts.1.1 (nul none)) in
          let first : nat_eq (late p b) 0 ≡ true = late-is p b m low ∙ elim m [ inl e ↦ (let z = after e in grind (arith, nat_tests)) | inr e ↦ grind (arith, nat_tests) ] in
          let under : nat_lt b 128 ≡ true = grind (arith, nat_tests) in
          rw (under, first, rest) refl,
    )

-- ---- a word of them

-- the marks, each one place further
abbrev shifted : ℕ → List ℕ → List ℕ
shifted p [] = []
shifted p (b ∷ l) = p ∷ shifted (mark b) l

shifted-fits : (p : ℕ) (l : List ℕ) → p < 256 → word (shifted p l) < 256 ^ length l
shifted-fits p [] h = omega arith
shifted-fits p (b ∷ l) h = omega (arith, pow-suc 256 (length l), shifted-fits (mark b) l (mark-lt b))

shifted_word : (p : ℕ) (l : List ℕ) → p < 256 → (p + 256 * word (map mark l)) % 256 ^ length l ≡ word (shifted p l)
shifted_word p [] h = omega arith
shifted_word p (b ∷ l) h =
    let whole : p + 256 * (mark b + 256 * word (map mark l)) ≡ p + 256 * (mark b + 256 * word (map mark l)) = refl in
    let w = p + 256 * (mark b + 256 * word (map mark l)) in
    let low : w % 256 ≡ p = omega arith in
    let high : w / 256 ≡ mark b + 256 * word (map mark l) = omega arith in
    mod-pow_256 (length l) w ∙ rw (low, high) (ap (λ m. p + 256 * m) (shifted_word (mark b) l (mark-lt b)))

abbrev lates : ℕ → List ℕ → List ℕ
lates p [] = []
lates p (b ∷ l) = late p b ∷ lates (mark b) l

late_word : (p : ℕ) (l : List ℕ) → p < 256 → bit_and (word (map mark l)) (256 ^ length l - 1 - word (shifted p l)) ≡ word (lates p l)
late_word p [] h = refl
late_word p (b ∷ l) h =
    let n = length l in
    let s = word (shifted (mark b) l) in
    let fits = shifted-fits (mark b) l (mark-lt b) in
    let others : 256 ^ suc n - 1 - (p + 256 * s) ≡ 255 - p + 256 * (256 ^ n - 1 - s) = omega (arith, pow-suc 256 n) in
    let small : 255 - p < 256 = omega arith in
    rw others (and_step (word (map mark l)) (256 ^ n - 1 - s) (mark b) (255 - p) (mark-lt b) small ∙ ap (λ m. late p b + 256 * m) (late_word (mark b) l (mark-lt b)))

IsMark-late : (p b : ℕ) → IsMark p → b < 256 → IsMark (late p b)
IsMark-late p b m small = elim m [
  | inl e ↦ elim (IsMark-mark b small) [ inl f ↦ rw (e, f) (inl refl) | inr f ↦ rw (e, f) (inr refl) ]
  | inr e ↦ elim (IsMark-mark b small) [ inl f ↦ rw (e, f) (inl refl) | inr f ↦ rw (e, f) (inl refl) ]
]

fault : (p b : ℕ) → IsMark p → b < 256 → nat_eq (bit_and (bit_or b (late p b)) 0x80) 0 ≡ (nat_lt b 128 && nat_eq (late p b) 0)
fault p b m small =
    let high = high_bit-is b small in
    elim (IsMark-late p b m small) [
      | inl e ↦ rw (e, or_zero_r b, high) (grind (arith, nat_tests))
      | inr e ↦ rw (e, and_or_self 0x80 b) (grind (arith, nat_tests))
    ]

nat_eq-lanes : (x y : ℕ) → nat_eq (x + 256 * y) 0 ≡ (nat_eq x 0 && nat_eq y 0)
nat_eq-lanes x y = grind (arith, nat_tests)

faults : (p : ℕ) (l : List ℕ) → IsMark p → IsBytes l → nat_eq (bit_and (bit_or (word l) (word (lates p l))) (fill (length l) 0x80)) 0 ≡ goes_on p l
faults p [] m a = refl
faults p (b ∷ l) m a =
    let n = length l in
    let t = late p b in
    let t_lt : t < 256 = elim (IsMark-late p b m a.0) [ inl e ↦ omega arith | inr e ↦ omega arith ] in
    let o = bit_or (word l) (word (lates (mark b) l)) in
    let one : bit_or (b + 256 * word l) (t + 256 * word (lates (mark b) l)) ≡ bit_or b t + 256 * o = disjunction.step (word l) (word (lates (mark b) l)) b t a.0 t_lt in
    let both = or_lt 8 b t a.0 t_lt in
    rw (one, and_step o (fill n 0x80) (bit_or b t) 0x80 both (lit< tt), nat_eq-lanes (bit_and (bit_or b t) 0x80) (bit_and o (fill n 0x80)), fault p b m a.0, faults (mark b) l (IsMark-mark b a.0) a.1)
    (and_pair (nat_lt b 128) (nat_eq t 0) (goes_on (mark b) l))
  where
    and_pair : (p q r : Bool) → ((p && q) && r) ≡ (p && (q && r))
    and_pair true q r = refl
    and_pair false q r = refl

-- the high byte of the marks is the last
top_mark : (p b : ℕ) (l : List ℕ) → word (map mark (b ∷ l)) / 256 ^ length l ≡ last_mark p (b ∷ l)
top_mark p b [] = omega arith
top_mark p b (c ∷ l) =
    let small = mark-lt b in
    let rest : (mark b + 256 * word (map mark (c ∷ l))) / 256 ≡ word (map mark (c ∷ l)) = omega arith in
    div-pow_256 (mark b + 256 * word (map mark (c ∷ l))) (length l) ∙ rw rest (top_mark (mark b) c l)

IsBytes-parts : (l m : List ℕ) → IsBytes (l ++ m) → IsBytes l × IsBytes m
IsBytes-parts [] m a = (tt, a)
IsBytes-parts (b ∷ l) m a = let rest = IsBytes-parts l m a.1 in ((a.0, rest.0), rest.1)

-- the tests of eight bytes, as the code makes them
abbrev marks_of_eight : ℕ → ℕ
marks_of_eight w = bit_and (bit_and w 0x7f7f7f7f7f7f7f7f + 0x7f7f7f7f7f7f7f7f) 0x8080808080808080

abbrev faults_of_eight : ℕ → ℕ → ℕ → ℕ
faults_of_eight w marks p = bit_and (bit_or w (bit_and marks (2 ^ 64 - 1 - (marks * 256 % 2 ^ 64 + p)))) 0x8080808080808080

eight : (p : ℕ) (l : List ℕ) → IsMark p → IsBytes l → length l ≡ 8
    → (marks_of_eight (word l) / 2 ^ 56 ≡ last_mark p l) × (nat_eq (faults_of_eight (word l) (marks_of_eight (word l)) p) 0 ≡ goes_on p l)
eight p l m a long =
    let marks : marks_of_eight (word l) ≡ word (map mark l) = rw long at (marks_word l a) in
    let p_lt : p < 256 = elim m [ inl e ↦ omega arith | inr e ↦ omega arith ] in
    let fits : word (map mark l) < 256 ^ 8 = rw (length-map l mark, long) at (word-lt (map mark l) (IsBytes-marks l)) in
    let next : word (map mark l) * 256 % 2 ^ 64 + p ≡ word (shifted p l) = omega (arith, rw long at (shifted_word p l p_lt)) in
    let lates_is : bit_and (word (map mark l)) (2 ^ 64 - 1 - word (shifted p l)) ≡ word (lates p l) = rw long at (late_word p l p_lt) in
    let tested : nat_eq (bit_and (bit_or (word l) (word (lates p l))) 0x8080808080808080) 0 ≡ goes_on p l = rw long at (faults p l m a) in
    rw (marks, next, lates_is) (top l long, tested)
  where
    top : (l : List ℕ) → length l ≡ 8 → word (map mark l) / 2 ^ 56 ≡ last_mark p l
    top [] e = absurd (omega arith)
    top (b ∷ l) e = let seven : length l ≡ 7 = omega arith in rw seven at (top_mark p b l)

both_zero : (x y : ℕ) → nat_eq (bit_or x y) 0 ≡ (nat_eq x 0 && nat_eq y 0)
both_zero zero y = refl
both_zero (suc x) y = let some = le_or_l (suc x) y in grind (arith, nat_tests)

-- one more word tested
pub eight_more : (all rest u v : List ℕ) (found p w marks faulty : ℕ) → IsMark p → IsBytes rest → u ≡ take 8 rest → v ≡ drop 8 rest → length v + 8 ≡ length rest
    → w ≡ word u → marks ≡ marks_of_eight w → faulty ≡ faults_of_eight w marks p
    → (nat_eq found 0 && goes_on p rest) ≡ goes_on 0x80 all
    → IsMark (marks / 2 ^ 56) × (IsBytes v × ((nat_eq (bit_or found faulty) 0 && goes_on (marks / 2 ^ 56) v) ≡ goes_on 0x80 all))
eight_more all rest u v found p w marks faulty m a front back long w_is marks_is faulty_is left =
    let whole : rest ≡ u ++ v = rw (front, back) (sym (take-append-drop 8 rest)) in
    let parts = IsBytes-parts u v (rw whole at a) in
    let eight_long : length u ≡ 8 = rw front (omega (arith, length-take 8 rest)) in
    let here = eight p u m parts.0 eight_long in
    let top : marks / 2 ^ 56 ≡ last_mark p u = rw (marks_is, w_is) here.0 in
    let tested : nat_eq faulty 0 ≡ goes_on p u = rw (faulty_is, marks_is, w_is) here.1 in (
      rw top (IsMark-last p u m parts.0),
      (
        parts.1,
        ap (λ r. r && goes_on (marks / 2 ^ 56) v) (both_zero found faulty) ∙ rw (tested, top) (regroup (nat_eq found 0) (goes_on p u) (goes_on (last_mark p u) v))
            ∙ ap (λ r. nat_eq found 0 && r) (sym (goes_on-append p u v)) ∙ ap (λ l. nat_eq found 0 && goes_on p l) (sym whole) ∙ left,
      ),
    )
  where
    regroup : (p q r : Bool) → ((p && q) && r) ≡ (p && (q && r))
    regroup true q r = refl
    regroup false q r = refl

-- bytes are their own lowest bytes
pub low-bytes : (l : List ℕ) → IsBytes l → map (λ b. b % 256) l ≡ l
low-bytes [] a = refl
low-bytes (b ∷ l) a = let small : b < 256 = a.0 in ap₂ (λ x (m : List ℕ). x ∷ m) (omega arith) (low-bytes l a.1)

-- the last bytes, fewer than eight
pub last_tested : (all rest : List ℕ) (found p w marks faulty : ℕ) → IsMark p → IsBytes rest → length rest ≤ 8 → IsBytes all
    → w ≡ word (map (λ b. b % 256) rest) → marks ≡ marks_of_eight w → faulty ≡ faults_of_eight w marks p
    → (nat_eq found 0 && goes_on p rest) ≡ goes_on 0x80 all
    → IsTrue (nat_eq (bit_or found faulty) 0) ↔ IsPadded all
last_tested all rest found p w marks faulty m a few bytes w_is marks_is faulty_is left =
    let nuls = NULS (8 - length rest) in
    let eight_long : length (rest ++ nuls) ≡ 8 = search (rules, places) in
    let here = eight p (rest ++ nuls) m (IsBytes-append rest nuls a (Each1-replicate (λ b. b < 256) (8 - length rest) 0 (lit< tt))) eight_long in
    let word_is : w ≡ word (rest ++ nuls) = w_is ∙ ap word (low-bytes rest a) ∙ sym (word-nuls rest (8 - length rest)) in
    let tested : nat_eq faulty 0 ≡ goes_on p rest = rw (faulty_is, marks_is, word_is) here.1 ∙ goes_on-append p rest nuls ∙ ap (λ r. goes_on p rest && r) (goes_on-nuls (last_mark p rest) (8 - length rest)) ∙ and_true (goes_on p rest) in
    let answer : nat_eq (bit_or found faulty) 0 ≡ goes_on 0x80 all = both_zero found faulty ∙ ap (λ r. nat_eq found 0 && r) tested ∙ left in
    let decides = goes_on-Decides 0x80 all (inr refl) bytes in
    (λ t. (decides.0 (grind (arith, nat_tests))).0, λ q. let d = decides.1 q (λ no. absurd (omega arith)) in grind (arith, nat_tests))
  where
    and_true : (r : Bool) → (r && true) ≡ r
    and_true true = refl
    and_true false = refl
