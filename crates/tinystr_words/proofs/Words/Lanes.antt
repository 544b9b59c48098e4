-- Sums, masks and shifts of words, lane by lane.
use Rattle.std.proofs.Common.{ℕ, zero, suc, ◌+◌, ◌-◌, ◌*◌, ◌/◌, ◌%◌, ◌^◌, ◌<◌, ◌≡◌, Bool, true, false, ◌&&◌, List, [], ◌∷◌, ◌++◌, length, get_or, refl, sym, ap, ◌∙◌, arith, bit_and, bit_or, nat_eq, Fits, w8}
use Rattle.std.proofs.Math.Nat.{pow-suc}
use Rattle.std.proofs.Math.Facts.{Fits-lt-pow}
use Rattle.std.proofs.lemmas.Bool.{and_parts}
use Rattle.std.proofs.lemmas.Bool.Decides.{Decides-below_and, nat_tests}
use Rattle.std.proofs.lemmas.Nat.{and_block, or_block, xor_block}
use Rattle.std.specs.Int.Bits.{bit_xor}
use Rattle.std.specs.List.{list_all}
use Rattle.std.specs.Simd.Lanes.{Each1, zip2}
use Rattle.std.proofs.lemmas.Simd.{Each1-weaker, Each1-from_get_or}
use Rattle.tinystr_words.specs.Text.{IsText}
use Rattle.tinystr_words.specs.Words.{word}

-- ---- a fact of each byte below n, by computing it

abbrev pub below : (ℕ → Bool) → ℕ → Bool
below p zero = true
below p (suc n) = p n && below p n

-- a test that computing finds true below n is true of each byte there
pub below_at : (p : ℕ → Bool) (n : ℕ) → below p n ≡ true → (b : ℕ) → b < n → p b ≡ true
below_at p n h = (Decides-below_and p (λ b. p b ≡ true) (below p) (λ b. (λ e. e, λ e. e)) refl (λ m. refl) n).0 h

-- of each ASCII byte, as the first and as a later one
unfoldable pub everywhere : (Bool → ℕ → Bool) → Bool
everywhere p = below (λ b. p true b && p false b) 128

-- a test that computing finds true everywhere is true of each ASCII byte
pub true_from_everywhere : (p : Bool → ℕ → Bool) → everywhere p ≡ true → (i : Bool) (b : ℕ) → b < 128 → p i b ≡ true
unfolding everywhere
true_from_everywhere p h true b l = (and_parts (p true b) (p false b) (below_at (λ b. p true b && p false b) 128 h b l)).0
true_from_everywhere p h false b l = (and_parts (p true b) (p false b) (below_at (λ b. p true b && p false b) 128 h b l)).1

-- ---- words of bytes

abbrev pub IsBytes : List ℕ → Type 0
IsBytes l = Each1 (λ b. b < 256) l

abbrev pub Ascii : List ℕ → Type 0
Ascii l = Each1 (λ b. b < 128) l

-- ASCII bytes are bytes
pub IsBytes-from_Ascii : (l : List ℕ) → Ascii l → IsBytes l
IsBytes-from_Ascii l = Each1-weaker (λ b. b < 128) (λ b. b < 256) (λ b h. omega arith) l

-- and so are numbers of eight bits
pub IsBytes-from_Fits : (l : List ℕ) → ((i : ℕ) → Fits w8 (get_or l i 0)) → IsBytes l
IsBytes-from_Fits l f = Each1-from_get_or (λ b. b < 256) l 0 (λ i h. Fits-lt-pow (f i))

-- and those of a text
pub IsBytes-from_IsText : (t : List ℕ) → IsText t → IsBytes t
IsBytes-from_IsText t x = Each1-from_get_or (λ b. b < 256) t 0 (λ i h. omega (arith, (x i 0 h).1))

-- bytes joined with bytes are bytes
pub IsBytes-append : (l m : List ℕ) → IsBytes l → IsBytes m → IsBytes (l ++ m)
IsBytes-append [] m a d = d
IsBytes-append (b ∷ l) m a d = (a.0, IsBytes-append l m a.1 d)

-- a word of n bytes is below 256 ^ n
pub word-lt : (l : List ℕ) → IsBytes l → word l < 256 ^ length l
word-lt [] a = omega arith
word-lt (b ∷ l) a = let h : b < 256 = a.0 in omega (arith, pow-suc 256 (length l), word-lt l a.1)

-- an operation on numbers that is done on each byte apart
pub record Bytewise : Type 0 where
  pub op : ℕ → ℕ → ℕ
  pub zeros : op 0 0 ≡ 0
  pub step : (a b r s : ℕ) → r < 256 → s < 256 → op (r + 256 * a) (s + 256 * b) ≡ op r s + 256 * op a b

-- done on a low byte and on the bytes above it, it is done on each byte
pub step_from_block : (op : ℕ → ℕ → ℕ) → ((a b r s : ℕ) → r < 256 → s < 256 → op (a * 256 + r) (b * 256 + s) ≡ op a b * 256 + op r s)
    → (a b r s : ℕ) → r < 256 → s < 256 → op (r + 256 * a) (s + 256 * b) ≡ op r s + 256 * op a b
step_from_block op block a b r s p q =
    let x : r + 256 * a ≡ a * 256 + r = omega arith in
    let y : s + 256 * b ≡ b * 256 + s = omega arith in
    rw (x, y) (block a b r s p q ∙ omega arith)

pub and_step : (a b r s : ℕ) → r < 256 → s < 256 → bit_and (r + 256 * a) (s + 256 * b) ≡ bit_and r s + 256 * bit_and a b
and_step = step_from_block bit_and (and_block 8)

abbrev pub conjunction : Bytewise
conjunction = record { op = bit_and; zeros = refl; step = and_step }

abbrev pub disjunction : Bytewise
disjunction = record { op = bit_or; zeros = refl; step = step_from_block bit_or (or_block 8) }

abbrev pub difference : Bytewise
difference = record { op = bit_xor; zeros = refl; step = step_from_block bit_xor (xor_block 8) }

-- and a sum, which may leave a lane that isn't a byte
abbrev pub addition : Bytewise
addition = record { op = λ m n. m + n; zeros = refl; step = λ a b r s p q. omega arith }

-- it is done on two words as on each pair of their bytes: what is known of a byte is so of a lane
pub op-word : (o : Bytewise) (l m : List ℕ) → length l ≡ length m → IsBytes l → IsBytes m → o.op (word l) (word m) ≡ word (zip2 o.op l m)
op-word o [] [] e a c = o.zeros
op-word o [] (d ∷ m) e a c = absurd (omega arith)
op-word o (b ∷ l) [] e a c = absurd (omega arith)
op-word o (b ∷ l) (d ∷ m) e a c = o.step _ _ _ _ a.0 c.0 ∙ ap (λ n. o.op b d + 256 * n) (op-word o l m (omega arith) a.1 c.1)

-- ---- the lanes of a word, each changed by a function that may treat the first apart

abbrev pub lanes : {A : Type 0} → (Bool → ℕ → A) → Bool → List ℕ → List A
lanes F i [] = []
lanes F i (b ∷ l) = F i b ∷ lanes F false l

abbrev pub Bytes : (Bool → ℕ → ℕ) → Type 0
Bytes F = (i : Bool) (b : ℕ) → b < 128 → F i b < 256

-- the same number of lanes
pub length-lanes : (F : Bool → ℕ → ℕ) (i : Bool) (l : List ℕ) → length (lanes F i l) ≡ length l
length-lanes F i [] = refl
length-lanes F i (b ∷ l) = ap suc (length-lanes F false l)

-- each of them below a bound
pub Each1-lanes : (n : ℕ) (F : Bool → ℕ → ℕ) → ((i : Bool) (b : ℕ) → b < 128 → F i b < n) → (i : Bool) (l : List ℕ) → Ascii l → Each1 (λ b. b < n) (lanes F i l)
Each1-lanes n F p i [] a = tt
Each1-lanes n F p i (b ∷ l) a = (p i b a.0, Each1-lanes n F p false l a.1)

-- on two changes of one word, lane by lane
zip2-lanes : (f : ℕ → ℕ → ℕ) (F G : Bool → ℕ → ℕ) (i : Bool) (l : List ℕ) → zip2 f (lanes F i l) (lanes G i l) ≡ lanes (λ i b. f (F i b) (G i b)) i l
zip2-lanes f F G i [] = refl
zip2-lanes f F G i (b ∷ l) = ap (λ m. f (F i b) (G i b) ∷ m) (zip2-lanes f F G false l)

pub op-word_lanes : (o : Bytewise) (F G : Bool → ℕ → ℕ) → Bytes F → Bytes G → (i : Bool) (l : List ℕ) → Ascii l → o.op (word (lanes F i l)) (word (lanes G i l)) ≡ word (lanes (λ i b. o.op (F i b) (G i b)) i l)
op-word_lanes o F G p q i l a =
    op-word o (lanes F i l) (lanes G i l) (length-lanes F i l ∙ sym (length-lanes G i l)) (Each1-lanes 256 F p i l a) (Each1-lanes 256 G q i l a) ∙ ap word (zip2-lanes o.op F G i l)

-- the complement of a word is that of each lane
pub word_not : (F : Bool → ℕ → ℕ) → Bytes F → (i : Bool) (l : List ℕ) → Ascii l → 256 ^ length l - 1 - word (lanes F i l) ≡ word (lanes (λ i b. 255 - F i b) i l)
word_not F p i [] a = refl
word_not F p i (b ∷ l) a =
    let s = rw (length-lanes F false l) at (word-lt (lanes F false l) (Each1-lanes 256 F p false l a.1)) in
    let k = p i b a.0 in omega (arith, pow-suc 256 (length l), word_not F p false l a.1)

-- a quarter of a word whose lanes lose no bit is that of each lane
pub word_quarter : (F : Bool → ℕ → ℕ) → ((i : Bool) (b : ℕ) → b < 128 → F i b % 4 ≡ 0) → (i : Bool) (l : List ℕ) → Ascii l → word (lanes F i l) ≡ 4 * word (lanes (λ i b. F i b / 4) i l)
word_quarter F p i [] a = refl
word_quarter F p i (b ∷ l) a = let h = word_quarter F p false l a.1 in let k = p i b a.0 in omega arith

-- ---- tests on words

-- two words are equal exactly if each lane is
pub nat_eq-word_lanes : (F G : Bool → ℕ → ℕ) → Bytes F → Bytes G → (i : Bool) (l : List ℕ) → Ascii l → nat_eq (word (lanes F i l)) (word (lanes G i l)) ≡ list_all (λ r. r) (lanes (λ i b. nat_eq (F i b) (G i b)) i l)
nat_eq-word_lanes F G p q i [] a = refl
nat_eq-word_lanes F G p q i (b ∷ l) a =
    let h = p i b a.0 in
    let k = q i b a.0 in
    let others = nat_eq-word_lanes F G p q false l a.1 in
    grind (arith, nat_tests)
