-- Sixteen bytes in a vector.
use Rattle.std.proofs.Common.{List, ap, arith, drop, length, sym, take, ℕ, ◌&&◌, ◌++◌, ◌+◌, ◌-◌, ◌∙◌, ◌≡◌, ◌≤◌, Bool, [], cond, eqb, map, not, refl, w8, ◌%◌, ◌^◌, ◌∷◌, get_or, min, nat_eq, nat_lt, nat_le, rules, ◌*◌, ◌/◌, ◌<◌, ◌⊎◌, ◌||◌, T, ltb, ap₂, lit<, subst, replicate, zero, suc}
use Rattle.std.proofs.lemmas.Bool.Decides.{Decides-and, same_from_decides, nat_tests}
use Rattle.std.proofs.lemmas.List.{drop-drop, length-drop, take-append-drop, take-take, take_all, get_or-drop, get_or-take, get_or_past, length-take, length-take-le, places, same_lists, length-map, length-replicate}
use Rattle.std.proofs.lemmas.Slice.Eq.{bytes_eq-Decides}
use Rattle.std.specs.Str.{bytes_eq}
use Rattle.std.proofs.lemmas.Simd.{length-zip2, mask_l-mod, tops_compared, Each1-from_get_or, SwzOk, SwzOk-from_Each1, get_or-swz_l, get_or-zip2, length-swz_l, swz_l, Each1-replicate}
use Rattle.std.specs.Simd.Lanes.{mask_l, top, zip2, chunk, sel_l}
use Rattle.std.proofs.lemmas.Grind.{same_number_lists}
use Rattle.std.specs.Int.Bits.{bit_or, or_zero_l, or_zero_r}
use Rattle.std.specs.List.{flat_map}
use mir.Val.{zeroes}
use Rattle.tinystr_words.specs.Text.{IsPadded, IsPaddedText, IsText, IsTextByte, pad, text_of, is_text_byte}
use Rattle.std.proofs.lemmas.List.Elements.{All-append}
use Rattle.tinystr_words.proofs.Pieces.Copying.{IsPaddedText-pad_take, copied_more}
use borrow.Rule.Slice.PartMut.{put_mid}
use Rattle.tinystr_words.proofs.Texts.{IsPaddedText-drop, NULS, get_or-nuls, get_or-pad, length-text_of-le, text_of-drop, text_of-take, length-pad}
use Rattle.tinystr_words.specs.Private.{sixteen_from}
use Rattle.tinystr_words.specs.declared.padded.concatenation.TheConstants.{TAKEN_LANES as rows}
use Rattle.tinystr_words.proofs.Words.Lanes.{below_at, IsBytes}
use Rattle.tinystr_words.specs.Words.{lanes_of, word}
use Rattle.tinystr_words.specs.Reading.{lossy_byte}
use Rattle.tinystr_words.proofs.Words.Numbers.{lanes_of-word, word-nuls}

-- ---- bytes are the same where pieces are that cover them

-- the first n and those from k on, which overlap or meet
same-pieces : (xs ys : List ℕ) (n k : ℕ) → k ≤ n
    → take n xs ≡ take n ys → drop k xs ≡ drop k ys
    → xs ≡ ys
same-pieces xs ys n k le front back =
    let short : take k xs ≡ take k ys = sym (take-take k n xs le) ∙ ap (take k) front ∙ take-take k n ys le in
    sym (take-append-drop k xs) ∙ ap (λ l. l ++ drop k xs) short ∙ ap (λ l. take k ys ++ l) back ∙ take-append-drop k ys

bytes_eq-pieces : (xs ys : List ℕ) (n k : ℕ) → k ≤ n
    → (bytes_eq (take n xs) (take n ys) && bytes_eq (drop k xs) (drop k ys)) ≡ bytes_eq xs ys
bytes_eq-pieces xs ys n k le =
    let parts = Decides-and _ _ (bytes_eq-Decides (take n xs) (take n ys)) (bytes_eq-Decides (drop k xs) (drop k ys)) in
    same_from_decides _ _
    ((λ t. let p = parts.0 t in same-pieces xs ys n k le p.0 p.1), (λ e. parts.1 (ap (take n) e, ap (drop k) e)))
    (bytes_eq-Decides xs ys)

-- sixteen bytes, and those after them
pub next_sixteen : (xs ys : List ℕ) (s : ℕ)
    → (bytes_eq (take 16 (drop s xs)) (take 16 (drop s ys)) && bytes_eq (drop (s + 16) xs) (drop (s + 16) ys))
    ≡ bytes_eq (drop s xs) (drop s ys)
next_sixteen xs ys s = rw (← drop-drop 16 s xs, ← drop-drop 16 s ys) (bytes_eq-pieces (drop s xs) (drop s ys) 16 16 (omega arith))

-- sixteen bytes, and the last sixteen
pub last_sixteen : (xs ys : List ℕ) (s : ℕ) → length xs ≡ length ys → s + 16 ≤ length xs → length xs - s ≤ 32
    → (bytes_eq (take 16 (drop s xs)) (take 16 (drop s ys))
    && bytes_eq (take 16 (drop (length xs - 16) xs)) (take 16 (drop (length xs - 16) ys)))
    ≡ bytes_eq (drop s xs) (drop s ys)
last_sixteen xs ys s same fits near =
    let k = length xs - 16 - s in
    let at : s + k ≡ length xs - 16 = omega arith in
    let left = take_all 16 (drop (length xs - 16) xs) (omega (arith, length-drop (length xs - 16) xs)) in
    let right = take_all 16 (drop (length xs - 16) ys) (omega (arith, length-drop (length xs - 16) ys)) in
    rw (left, right, ← at, ← drop-drop k s xs, ← drop-drop k s ys) (bytes_eq-pieces (drop s xs) (drop s ys) 16 k (omega arith))

pub ruleset windows = (next_sixteen, last_sixteen)

-- ---- two vectors are the same where no lane differs

abbrev pub differs : ℕ → ℕ → Bool
differs a b = not (eqb a b)

eqb-mask_differs : (xs ys : List ℕ) → length xs ≡ length ys → eqb (mask_l (zip2 differs xs ys)) 0 ≡ bytes_eq xs ys
eqb-mask_differs [] [] e = refl
eqb-mask_differs [] (y ∷ ys) e = absurd (omega arith)
eqb-mask_differs (x ∷ xs) [] e = absurd (omega arith)
eqb-mask_differs (x ∷ xs) (y ∷ ys) e = let others = eqb-mask_differs xs ys (omega arith) in grind (arith, nat_tests)

-- `==` of two vectors of at most 64 bytes
pub vectors_same : (xs ys : List ℕ) → length xs ≡ length ys → length xs ≤ 64
    → eqb (mask_l (map (top 7) (zip2 (λ a b. cond (not (eqb a b)) 255 0) xs ys)) % 2 ^ 64) 0 ≡ bytes_eq xs ys
vectors_same xs ys e small =
    ap (λ ms. eqb (mask_l ms % 2 ^ 64) 0) (tops_compared w8 differs xs ys)
    ∙ ap (λ m. eqb m 0) (mask_l-mod (zip2 differs xs ys) 64 (omega (arith, length-zip2 differs xs ys e)))
    ∙ eqb-mask_differs xs ys e

-- ---- two texts of at most 32 bytes, joined lane by lane

get_or-nuls_left : (n : ℕ) (l : List ℕ) (k : ℕ) → k < n → get_or (NULS n ++ l) k 0 ≡ 0
get_or-nuls_left n l k near = grind (arith, places)

get_or-nuls_right : (n : ℕ) (l : List ℕ) (k : ℕ) → n ≤ k → get_or (NULS n ++ l) k 0 ≡ get_or l (k - n) 0
get_or-nuls_right n l k far = grind (arith, places)

-- n bytes from `at` on
get_or-piece : (t : List ℕ) (n at i : ℕ) → i < n → get_or (pad (take n (drop at t)) n) i 0 ≡ get_or t (at + i) 0
get_or-piece t n at i inside = rw get_or-pad (grind (arith, places))

length-piece : (t : List ℕ) (n at : ℕ) → length (pad (take n (drop at t)) n) ≡ n
length-piece t n at = search (rules, places)

-- `sixteen_from`, lane by lane
abbrev pub HasLanes : List ℕ → List ℕ → ℕ → Type 0
HasLanes xs t at = (length xs ≡ 16) × ((i : ℕ) → i < 16 → get_or xs i 0 ≡ get_or t (at + i) 0)

pub HasLanes-sixteen_from : (xs t : List ℕ) (at : ℕ) → xs ≡ sixteen_from t at → HasLanes xs t at
HasLanes-sixteen_from xs t at is = rw is (length-piece t 16 at, get_or-piece t 16 at)

pub sixteen_from-HasLanes : (xs t : List ℕ) (at : ℕ) → HasLanes xs t at → xs ≡ sixteen_from t at
sixteen_from-HasLanes xs t at x =
    same_number_lists xs (sixteen_from t at) (x.0 ∙ sym (length-piece t 16 at)) (λ i inside. let small : i < 16 = omega (arith, x.0) in x.1 i small ∙ sym (get_or-piece t 16 at i small))

-- ---- lanes shifted by a table

abbrev pub TAKEN_LANES : List ℕ
TAKEN_LANES = flat_map (λ row. row) rows

-- 128, or the lane after 48 others
TAKEN_LANES-at : (k : ℕ) → k < 112 → get_or TAKEN_LANES k 0 ≡ cond (nat_le 48 k && nat_lt k 64) (k - 48) 128
TAKEN_LANES-at k inside = let e = below_at (λ k. nat_eq (get_or TAKEN_LANES k 0) (cond (nat_le 48 k && nat_lt k 64) (k - 48) 128)) 112 refl k inside in grind (arith, nat_tests)

-- what a lane of the table takes
abbrev taken : List ℕ → ℕ → ℕ
taken xs j = cond (zeroes 16 w8 j) 0 (get_or xs j 0)

taken-TAKEN_LANES : (xs : List ℕ) (k : ℕ) → length xs ≡ 16 → k < 112 → taken xs (get_or TAKEN_LANES k 0) ≡ get_or (NULS 48 ++ xs) k 0
taken-TAKEN_LANES xs k long inside = let e = TAKEN_LANES-at k inside in grind (arith, nat_tests, get_or-nuls_left 48 xs k, get_or-nuls_right 48 xs k, get_or_past xs (k - 48) 0)

abbrev Allowed : ℕ → Type 0
Allowed j = T (zeroes 16 w8 j || ltb j 16)

Allowed-TAKEN_LANES : (k : ℕ) → k < 112 → Allowed (get_or TAKEN_LANES k 0)
Allowed-TAKEN_LANES k inside = let e = below_at (λ k. zeroes 16 w8 (get_or TAKEN_LANES k 0) || ltb (get_or TAKEN_LANES k 0) 16) 112 refl k inside in rw e tt

-- sixteen lanes of the table, as they are loaded
abbrev pub lanes_of_table : ℕ → List ℕ
lanes_of_table start = chunk 0 16 (take (112 - start) (drop start TAKEN_LANES))

length-lanes_of_table : (start : ℕ) → start ≤ 96 → length (lanes_of_table start) ≡ 16
length-lanes_of_table start inside = omega (arith, length-take {A = ℕ}, length-drop {A = ℕ})

get_or-lanes_of_table : (start i : ℕ) → start ≤ 96 → i < 16 → get_or (lanes_of_table start) i 0 ≡ get_or TAKEN_LANES (start + i) 0
get_or-lanes_of_table start i inside small = get_or-take 16 (take (112 - start) (drop start TAKEN_LANES)) i 0 small ∙ get_or-take (112 - start) (drop start TAKEN_LANES) i 0 (omega arith) ∙ get_or-drop start TAKEN_LANES i 0

pub SwzOk-lanes_of_table : (start : ℕ) → start ≤ 96 → SwzOk w8 16 16 0 (lanes_of_table start)
SwzOk-lanes_of_table start inside =
    let many = length-lanes_of_table start inside in
    SwzOk-from_Each1 w8 16 1 16 0 (lanes_of_table start) refl (omega arith)
    (Each1-from_get_or Allowed (lanes_of_table start) 0 (λ i small. rw (get_or-lanes_of_table start i inside (omega arith)) (Allowed-TAKEN_LANES (start + i) (omega arith))))

pub swz_l-lanes_of_table : (xs : List ℕ) (start : ℕ) → length xs ≡ 16 → start ≤ 96 → swz_l w8 16 xs 0 (lanes_of_table start) ≡ sixteen_from (NULS 48 ++ xs) start
swz_l-lanes_of_table xs start long inside =
    let js = lanes_of_table start in
    let many = length-lanes_of_table start inside in
    sixteen_from-HasLanes (swz_l w8 16 xs 0 js) (NULS 48 ++ xs) start (
      length-swz_l w8 16 xs 0 js ∙ many,
      λ i small.
          let here : 16 * ((0 + i) / 16) + get_or js i 0 ≡ get_or js i 0 = omega arith in
          get_or-swz_l w8 16 xs 0 js i (omega (arith, many)) ∙ rw here (rw (get_or-lanes_of_table start i inside small) (taken-TAKEN_LANES xs (start + i) long (omega arith))),
    )

-- ---- one text and another

-- at each place at most one of the two texts has a byte
bit_or-append : (a b : List ℕ) (e p : ℕ) → (0 < length b → e ≡ length a) → bit_or (get_or a p 0) (get_or (NULS e ++ b) p 0) ≡ get_or (a ++ b) p 0
bit_or-append a b e p end = grind (arith, places, get_or-nuls, or_zero_l, or_zero_r, end)

-- shifted to where the other text ends
pub HasLanes-or : (xs ys l a b : List ℕ) (e at start : ℕ) → (0 < length b → e ≡ length a) → start + e ≡ 48 + at → ys ≡ sixteen_from (NULS 48 ++ l) start
    → ((k : ℕ) → get_or l k 0 ≡ get_or b k 0) → HasLanes xs a at → HasLanes (zip2 bit_or xs ys) (a ++ b) at
HasLanes-or xs ys l a b e at start end is made same x =
    let y = HasLanes-sixteen_from ys (NULS 48 ++ l) start made in (
      length-zip2 bit_or xs ys (x.0 ∙ sym y.0) ∙ x.0,
      λ i small.
          let shifted : get_or ys i 0 ≡ get_or (NULS e ++ b) (at + i) 0 =
          y.1 i small ∙ grind (arith, get_or-nuls_left 48 l (start + i), get_or-nuls_right 48 l (start + i), get_or-nuls_left e b (at + i), get_or-nuls_right e b (at + i), same (start + i - 48)) in
          get_or-zip2 bit_or xs ys i 0 0 0 (omega (arith, x.0)) (omega (arith, y.0)) ∙ rw (x.1 i small, shifted) (bit_or-append a b e (at + i) end),
    )

-- where no byte of the other text is
pub HasLanes-same : (xs a b : List ℕ) (e at : ℕ) → (0 < length b → e ≡ length a) → HasLanes xs a at → (at + 16 ≤ e) ⊎ (e + length b ≤ at) → HasLanes xs (a ++ b) at
HasLanes-same xs a b e at end x out = (x.0, λ i small. grind (arith, places, x.1 i small, end, out))

-- the first sixteen bytes of a text
pub get_or-first_sixteen : (l b : List ℕ) → l ≡ sixteen_from b 0 → (k : ℕ) → get_or l k 0 ≡ get_or (take 16 b) k 0
get_or-first_sixteen l b made k = rw made (get_or-pad (take 16 b) 16 k)

-- and those after them
pub get_or-last_sixteen : (l b : List ℕ) → l ≡ sixteen_from b 16 → length b ≤ 32 → (k : ℕ) → get_or l k 0 ≡ get_or (drop 16 b) k 0
get_or-last_sixteen l b made fits k = rw made (get_or-pad (take 16 (drop 16 b)) 16 k ∙ rw (take_all 16 (drop 16 b) (omega (arith, length-drop 16 b))) refl)

-- ---- lanes loaded and stored

pub sixteen_loaded : (l : List ℕ) (start count at : ℕ) → IsPadded l → start ≡ min at (length l) → count ≡ min (length l - start) 16
    → pad (text_of (take count (drop start l))) 16 ≡ sixteen_from (text_of l) at
sixteen_loaded l start count at p is many =
    let y = text_of-take (drop start l) (length (drop start l)) count (IsPaddedText-drop l (length l) start p) in
    let z = text_of-drop l (length l) start p in
    sixteen_from-HasLanes (pad (text_of (take count (drop start l))) 16) (text_of l) at (search (rules, places), λ i small. rw (get_or-pad, y, z) (grind (arith, places, length-text_of-le l)))

-- one more piece of t, which fills its array
pub take-sixteen_from : (lanes piece t : List ℕ) (n at k : ℕ) → at + k ≤ n → k ≤ 16 → lanes ≡ sixteen_from t at → piece ≡ take k lanes → piece ≡ take k (drop at (pad (take n t) n))
take-sixteen_from lanes piece t n at k inside few made is =
    let x = HasLanes-sixteen_from lanes t at made in
    let size : length (take k lanes) ≡ k = length-take-le k lanes (omega (arith, x.0)) in
    rw is (same_number_lists _ _ (search (rules, places)) (λ i within.
    let below : i < k = omega (arith, size) in
    let in_array : at + i < n = omega arith in
    rw (get_or-take, get_or-take, get_or-drop, get_or-pad, get_or-take) (x.1 i (omega arith))))

-- which is stored
pub stored_more : (t lanes piece bytes : List ℕ) (n at k count next : ℕ) → bytes ≡ take at (pad (take n t) n) ++ drop at (NULS n) → lanes ≡ sixteen_from t at → piece ≡ take count lanes
    → k ≡ count → next ≡ at + count → next ≤ n → count ≤ 16 → put_mid at k bytes piece ≡ take next (pad (take n t) n) ++ drop next (NULS n)
stored_more t lanes piece bytes n at k count next stored made is same step inside few =
    copied_more (NULS n) (pad (take n t) n) bytes piece at k next stored (omega arith) (omega (arith, length-pad (take n t) n (omega (arith, length-take n t)))) (omega (arith, length-replicate {A = ℕ} n 0))
    (take-sixteen_from lanes piece t n at k (omega arith) (omega arith) made (is ∙ ap (λ c. take c lanes) (sym same)))

-- all pieces
pub IsPaddedText-stored : (bytes a b : List ℕ) (n at : ℕ) → n ≤ at → IsText a → IsText b → bytes ≡ take at (pad (take n (a ++ b)) n) ++ drop at (NULS n)
    → IsPaddedText bytes n × (text_of bytes ≡ take n (a ++ b))
IsPaddedText-stored bytes a b n at end p q e =
    IsPaddedText-pad_take bytes (a ++ b) n (rw e (same_lists _ _ (search (rules, places)) (λ i d h. grind (arith, places)))) (All-append IsTextByte a b p q)

-- ---- bytes in a vector, with a replacement for those that aren't characters

-- the first of one byte again and again
pub pad-take_replicate : (r count : ℕ) → count ≤ 16 → pad (take count (replicate 16 r)) 16 ≡ pad (replicate count r) 16
pad-take_replicate r count few = same_lists _ _ (search (rules, places)) (λ k d h. grind (arith, places))

-- ---- characters among bytes

-- a byte with another taken from it
abbrev pub less : ℕ → ℕ → ℕ
less a b = (a + (256 - b)) % 256

-- a byte is a character where one less, which of 0 is 255, is below 127
less_one-character : (b : ℕ) → b < 256 → ltb (less b 1) 127 ≡ is_text_byte b
less_one-character b small = grind (arith, nat_tests)

-- of bytes and then NULs the characters are taken, and of the others those of another vector
sel_l-lossy : (l : List ℕ) (k n r : ℕ) → IsBytes l → length l + k ≡ n
    → sel_l (zip2 ltb (zip2 less (l ++ NULS k) (replicate n 1)) (replicate n 127)) (l ++ NULS k) (replicate (length l) r ++ NULS k) ≡ map (lossy_byte r) l ++ NULS k
sel_l-lossy [] zero zero r a e = refl
sel_l-lossy [] zero (suc n) r a e = absurd (omega arith)
sel_l-lossy [] (suc k) zero r a e = absurd (omega arith)
sel_l-lossy [] (suc k) (suc n) r a e = ap (λ (m : List ℕ). 0 ∷ m) (sel_l-lossy [] k n r a (omega arith))
sel_l-lossy (b ∷ l) k zero r a e = absurd (omega arith)
sel_l-lossy (b ∷ l) k (suc n) r a e = ap₂ (λ (is : Bool) (m : List ℕ). cond is b r ∷ m) (less_one-character b a.0) (sel_l-lossy l k n r a.1 (omega arith))

IsBytes-nuls : (l : List ℕ) (k : ℕ) → IsBytes l → IsBytes (l ++ NULS k)
IsBytes-nuls [] k a = Each1-replicate (λ b. b < 256) k 0 (lit< tt)
IsBytes-nuls (b ∷ l) k a = (a.0, IsBytes-nuls l k a.1)

-- a word of bytes has these bytes and then NULs
lanes_of-padded : (n : ℕ) (l : List ℕ) → IsBytes l → length l ≤ n → lanes_of n (word l) ≡ pad l n
lanes_of-padded n l a le =
    subst (λ m. lanes_of m (word l) ≡ pad l n) (length-pad l n le)
    (ap (lanes_of (length (pad l n))) (sym (word-nuls l (n - length l))) ∙ lanes_of-word (pad l n) (IsBytes-nuls l (n - length l) a))

pub sel_l-units : (units bytes others : List ℕ) (r : ℕ) → IsBytes units → length units ≤ 16 → bytes ≡ lanes_of 16 (word units) → others ≡ pad (replicate (length units) r) 16
    → sel_l (map (top 7) (zip2 (λ a b. cond (ltb a b) 255 0) (zip2 less bytes (replicate 16 1)) (replicate 16 127))) bytes others ≡ pad (map (lossy_byte r) units) 16
sel_l-units units bytes others r a fits loaded made =
    let k = 16 - length units in
    let is : bytes ≡ units ++ NULS k = loaded ∙ lanes_of-padded 16 units a fits in
    let replaced : others ≡ replicate (length units) r ++ NULS k = made ∙ ap (λ m. replicate (length units) r ++ NULS (16 - m)) (length-replicate (length units) r) in
    ap (λ ms. sel_l ms bytes others) (tops_compared w8 ltb (zip2 less bytes (replicate 16 1)) (replicate 16 127))
    ∙ rw (is, replaced) (sel_l-lossy units k 16 r a (omega arith))
    ∙ ap (λ m. map (lossy_byte r) units ++ NULS (16 - m)) (sym (length-map units (lossy_byte r)))

-- bytes that are padded are cut or padded again
pub pad-pad : (t : List ℕ) (n w : ℕ) → length t ≤ n → length t ≤ w → pad (take n (pad t w)) n ≡ pad t n
pad-pad t n w fits narrow = same_lists _ _ (search (rules, places)) (λ k d h. grind (arith, places))

pub ruleset replaced = (length-map, pad-pad, pad-take_replicate)
