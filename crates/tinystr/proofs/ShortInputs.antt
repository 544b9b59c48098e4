-- Sixteen bytes in a vector, and one more: their classes, and the texts that they become.
use Rattle.std.proofs.Common.{zero, suc, ◌≡◌, ◌+◌, ◌-◌, ◌*◌, ◌%◌, ◌^◌, ◌<◌, ◌≤◌, ◌==◌, ◌||◌, ◌&&◌, ℕ, Bool, true, false, List, [], ◌∷◌, ◌++◌, length, map, take, drop, cond, eqb, ltb, bit_or, bit_and, replicate, get_or, drop-cons, append-nil, ap, ap₂, refl, sym, ◌∙◌, w8, arith}
use mir.Val.{Fits}
use lib.Lanes.{Each1, mask_l, zip2, top, sel_l}
use Rattle.std.specs.List.{list_all}
use Rattle.std.proofs.Math.Nat.{pow-suc, mul_assoc}
use Rattle.std.proofs.lemmas.Bool.{eqb-true}
use Rattle.std.proofs.lemmas.Bool.Decides.{nat_tests}
use Rattle.std.proofs.lemmas.List.{length-map, length-take, length-append, take_all, drop_all, take-append-drop, get_or-take, get_or_past, places}
use Rattle.std.proofs.lemmas.List.Elements.{All-nil, All-cons, All-head, All-tail}
use Rattle.std.proofs.lemmas.Simd.{mask_l-mod, mask_l-lt}
use Rattle.tinystr_words.specs.Case.{lower, raise}
use Rattle.tinystr_words.specs.Classes.{is_alphabetic, is_digit}
use Rattle.tinystr_words.specs.Text.{IsPaddedText, IsText, IsTextByte, pad, text_of}
use Rattle.tinystr_words.proofs.Texts.{NULS, length-pad, get_or-pad, IsPaddedText-places}
use Rattle.tinystr_words.proofs.Words.Lanes.{below, below_at}
use Rattle.tinystr.specs.ShortInput.{has_lowercase_bit, lower_but, upper_but, in_case_of}
use Rattle.tinystr.specs.Private.{IsLoaded}
use Rattle.tinystr.proofs.EightLanes.{less}

-- ---- the bits of lanes

-- the marks of lanes that pass a test, which are computed lane by lane, and compared with it for each byte
marks : (V : ℕ → List ℕ → List Bool) (p : ℕ → Bool) → V 0 [] ≡ [] → ((n b : ℕ) (l : List ℕ) → V (suc n) (b ∷ l) ≡ get_or (V 1 (b ∷ [])) 0 false ∷ V n l) → ((b : ℕ) → b < 256 → get_or (V 1 (b ∷ [])) 0 false ≡ p b)
    → (lanes : List ℕ) → length lanes ≡ 16 → Each1 (Fits w8) lanes → mask_l (V 16 lanes) % 2 ^ 64 ≡ mask_l (map p lanes)
marks V p none more each lanes long small = ap (λ ms. mask_l ms % 2 ^ 64) (rw long at (lanewise lanes small)) ∙ mask_l-mod (map p lanes) 64 (omega (arith, length-map lanes p)) where
  lanewise : (l : List ℕ) → Each1 (Fits w8) l → V (length l) l ≡ map p l
  lanewise [] s = none
  lanewise (b ∷ l) s = more (length l) b l ∙ ap₂ (λ (x : Bool) (m : List Bool). x ∷ m) (each b s.0.fits) (lanewise l s.1)

abbrev bit : Bool → ℕ
bit b = cond b 1 0

same : (a b : Bool) → bit a ≡ bit b → a ≡ b
same true true e = refl
same true false e = absurd (omega (arith, e))
same false true e = absurd (omega (arith, e))
same false false e = refl

-- two tests that agree on each byte
agree : (p q : ℕ → Bool) → below (λ b. eqb (bit (p b)) (bit (q b))) 256 ≡ true → (b : ℕ) → b < 256 → p b ≡ q b
agree p q each b small = same (p b) (q b) (eqb-true _ _ (below_at (λ c. eqb (bit (p c)) (bit (q c))) 256 each b small))

pub letter_marks : (lanes : List ℕ) → length lanes ≡ 16 → Each1 (Fits w8) lanes → mask_l (map (top 7) (zip2 (λ a b. cond (ltb a b) 255 0) (zip2 less (zip2 bit_or lanes (replicate 16 32)) (replicate 16 97)) (replicate 16 26))) % 2 ^ 64 ≡ mask_l (map is_alphabetic lanes)
letter_marks = marks (λ n l. map (top 7) (zip2 (λ a b. cond (ltb a b) 255 0) (zip2 less (zip2 bit_or l (replicate n 32)) (replicate n 97)) (replicate n 26))) is_alphabetic refl (λ n b l. refl) (agree (λ b. top 7 (cond (ltb (less (bit_or b 32) 97) 26) 255 0)) is_alphabetic refl)

pub digit_marks : (lanes : List ℕ) → length lanes ≡ 16 → Each1 (Fits w8) lanes → mask_l (map (top 7) (zip2 (λ a b. cond (ltb a b) 255 0) (zip2 less lanes (replicate 16 48)) (replicate 16 10))) % 2 ^ 64 ≡ mask_l (map is_digit lanes)
digit_marks = marks (λ n l. map (top 7) (zip2 (λ a b. cond (ltb a b) 255 0) (zip2 less l (replicate n 48)) (replicate n 10))) is_digit refl (λ n b l. refl) (agree (λ b. top 7 (cond (ltb (less b 48) 10) 255 0)) is_digit refl)

pub either_marks : (x y : ℕ) (lanes : List ℕ) → length lanes ≡ 16 → Each1 (Fits w8) lanes → mask_l (map (top 7) (zip2 bit_or (zip2 (λ a b. cond (eqb a b) 255 0) lanes (replicate 16 x)) (zip2 (λ a b. cond (eqb a b) 255 0) lanes (replicate 16 y)))) % 2 ^ 64 ≡ mask_l (map (λ b. b == x || b == y) lanes)
either_marks x y = marks (λ n l. map (top 7) (zip2 bit_or (zip2 (λ a b. cond (eqb a b) 255 0) l (replicate n x)) (zip2 (λ a b. cond (eqb a b) 255 0) l (replicate n y)))) (λ b. b == x || b == y) refl (λ n b l. refl) (λ b small. one (eqb b x) (eqb b y)) where
  one : (p q : Bool) → top 7 (bit_or (cond p 255 0) (cond q 255 0)) ≡ (p || q)
  one false false = refl
  one false true = refl
  one true false = refl
  one true true = refl

-- ---- the bits of at most 17 bytes

pub mask_l-under : (p : ℕ → Bool) (xs : List ℕ) → mask_l (map p xs) < 2 ^ length xs
mask_l-under p xs = rw (length-map xs p) at (mask_l-lt (map p xs))

-- all bits are set where all bytes pass
pub mask_l-all : (p : ℕ → Bool) (xs : List ℕ) → (mask_l (map p xs) + 1 == 2 ^ length xs) ≡ list_all p xs
mask_l-all p [] = refl
mask_l-all p (x ∷ xs) = one (p x) (list_all p xs) (mask_l (map p xs)) (2 ^ length xs) (2 ^ suc (length xs)) (mask_l-all p xs) (pow-suc 2 (length xs)) where
  one : (b all : Bool) (n m w : ℕ) → (n + 1 == m) ≡ all → w ≡ m * 2 → (cond b 1 0 + 2 * n + 1 == w) ≡ (b && all)
  one b all n m w rest power = grind (arith, nat_tests)

pub mask_l-append : (p : ℕ → Bool) (xs ys : List ℕ) → mask_l (map p (xs ++ ys)) ≡ mask_l (map p ys) * 2 ^ length xs + mask_l (map p xs)
mask_l-append p [] ys = omega arith
mask_l-append p (x ∷ xs) ys = omega (arith, mask_l-append p xs ys, doubled (mask_l (map p ys)) (length xs)) where
  doubled : (n e : ℕ) → n * 2 ^ suc e ≡ n * 2 ^ e * 2
  doubled n e = ap (λ m. n * m) (pow-suc 2 e) ∙ sym (mul_assoc n (2 ^ e) 2)

-- NULs that don't pass have no bits
mask_l-nuls : (p : ℕ → Bool) → p 0 ≡ false → (k : ℕ) → mask_l (map p (NULS k)) ≡ 0
mask_l-nuls p none zero = refl
mask_l-nuls p none (suc k) = ap₂ (λ (b : Bool) (n : ℕ). cond b 1 0 + 2 * n) none (mask_l-nuls p none k)

pub mask_l_few : (p : ℕ → Bool) (u : List ℕ) → p 0 ≡ false → length u ≤ 16 → mask_l (map p (pad (take 16 u) 16)) ≡ mask_l (map p u)
mask_l_few p u none few = rw (take_all 16 u few, mask_l-append p u (NULS (16 - length u)), mask_l-nuls p none (16 - length u)) (omega arith)

pub mask_l_sixteen : (p : ℕ → Bool) (lanes : List ℕ) → length lanes ≡ 16 → mask_l (map p lanes) < 2 ^ 16
mask_l_sixteen p lanes long = rw long at (mask_l-under p lanes)

pub mask_l_last : (p : ℕ → Bool) (u : List ℕ) (bit : Bool) → 16 < length u → length u ≤ 17 → bit ≡ p (get_or u 16 0) → mask_l (map p (pad (take 16 u) 16)) + cond bit (2 ^ 16) 0 ≡ mask_l (map p u)
mask_l_last p u bit more few is =
    let sixteen : length (take 16 u) ≡ 16 = omega (arith, length-take 16 u) in
    let back : drop 16 u ≡ get_or u 16 0 ∷ [] = drop-cons u 16 0 more ∙ ap (λ (l : List ℕ). get_or u 16 0 ∷ l) (drop_all 17 u few) in
    rw (is, sixteen, append-nil (take 16 u)) (one (p (get_or u 16 0)) (mask_l (map p (take 16 u))) ∙ sym (rw (take-append-drop 16 u, sixteen, back) at (mask_l-append p (take 16 u) (drop 16 u))))
  where
    one : (b : Bool) (n : ℕ) → n + cond b (2 ^ 16) 0 ≡ (cond b 1 0 + 2 * 0) * 2 ^ 16 + n
    one b n = grind arith

pub either_nul : (x y : ℕ) → 0 < x → 0 < y → (0 == x || 0 == y) ≡ false
either_nul x y one other = grind (arith, nat_tests)

pub ruleset seventeen = (mask_l_few, mask_l_sixteen, mask_l_last, either_nul)

-- ---- the texts

abbrev in_case_at : ℕ → ℕ → ℕ → ℕ → ℕ
in_case_at m from to b = cond (has_lowercase_bit m) (lower_but from to b) (upper_but from to b)

letter_cased : (b m : ℕ) → b < 256 → m < 256 → cond (top 7 (cond (ltb (less (bit_or b 32) 97) 26) 255 0)) (bit_and (bit_or b 32) (bit_or m 223)) b ≡ cond (has_lowercase_bit m) (lower b) (raise b)
letter_cased b m small few =
    let letter = agree (λ c. top 7 (cond (ltb (less (bit_or c 32) 97) 26) 255 0)) is_alphabetic refl b small in
    let mark : bit_or m 223 ≡ cond (has_lowercase_bit m) 255 223 = eqb-true _ _ (below_at (λ c. eqb (bit_or c 223) (cond (has_lowercase_bit c) 255 223)) 256 refl m few) in
    let low : cond (is_alphabetic b) (bit_and (bit_or b 32) 255) b ≡ lower b = eqb-true _ _ (below_at (λ c. eqb (cond (is_alphabetic c) (bit_and (bit_or c 32) 255) c) (lower c)) 256 refl b small) in
    let high : cond (is_alphabetic b) (bit_and (bit_or b 32) 223) b ≡ raise b = eqb-true _ _ (below_at (λ c. eqb (cond (is_alphabetic c) (bit_and (bit_or c 32) 223) c) (raise c)) 256 refl b small) in
    rw (letter, mark) (choose (has_lowercase_bit m) low high)
  where
    choose : (bit : Bool) → cond (is_alphabetic b) (bit_and (bit_or b 32) 255) b ≡ lower b → cond (is_alphabetic b) (bit_and (bit_or b 32) 223) b ≡ raise b → cond (is_alphabetic b) (bit_and (bit_or b 32) (cond bit 255 223)) b ≡ cond bit (lower b) (raise b)
    choose true low high = low
    choose false low high = high

pub cased_lanes : (from to : ℕ) (lanes example : List ℕ) → length lanes ≡ 16 → length example ≡ 16 → Each1 (Fits w8) lanes → Each1 (Fits w8) example → sel_l (map (top 7) (zip2 (λ a b. cond (eqb a b) 255 0) lanes (replicate 16 from))) (replicate 16 to) (sel_l (map (top 7) (zip2 (λ a b. cond (ltb a b) 255 0) (zip2 less (zip2 bit_or lanes (replicate 16 32)) (replicate 16 97)) (replicate 16 26))) (zip2 bit_and (zip2 bit_or lanes (replicate 16 32)) (zip2 bit_or example (replicate 16 223))) lanes) ≡ in_case_of example from to lanes
cased_lanes from to lanes example long same small few = rw long at (each lanes example (omega (arith, long, same)) small few) where
  one : (is bit : Bool) (x l r : ℕ) → x ≡ cond bit l r → cond (top 7 (cond is 255 0)) to x ≡ cond bit (cond is to l) (cond is to r)
  one true true x l r e = refl
  one true false x l r e = refl
  one false true x l r e = e
  one false false x l r e = e

  each : (l e : List ℕ) → length l ≡ length e → Each1 (Fits w8) l → Each1 (Fits w8) e → sel_l (map (top 7) (zip2 (λ a b. cond (eqb a b) 255 0) l (replicate (length l) from))) (replicate (length l) to) (sel_l (map (top 7) (zip2 (λ a b. cond (ltb a b) 255 0) (zip2 less (zip2 bit_or l (replicate (length l) 32)) (replicate (length l) 97)) (replicate (length l) 26))) (zip2 bit_and (zip2 bit_or l (replicate (length l) 32)) (zip2 bit_or e (replicate (length l) 223))) l) ≡ in_case_of e from to l
  each [] e len s f = refl
  each (b ∷ l) [] len s f = absurd (omega arith)
  each (b ∷ l) (m ∷ e) len s f = ap₂ (λ (x : ℕ) (w : List ℕ). x ∷ w) (one (eqb b from) (has_lowercase_bit m) _ (lower b) (raise b) (letter_cased b m s.0.fits f.0.fits)) (each l e (omega arith) s.1 f.1)

length-in_case_of : (e : List ℕ) (from to : ℕ) (u : List ℕ) → length (in_case_of e from to u) ≡ length u
length-in_case_of e from to [] = refl
length-in_case_of [] from to (b ∷ u) = omega (arith, length-in_case_of [] from to u)
length-in_case_of (m ∷ e) from to (b ∷ u) = omega (arith, length-in_case_of e from to u)

nul_kept : (m from to : ℕ) → 0 < from → 0 ≡ in_case_at m from to 0
nul_kept m from to some = grind (arith, nat_tests)

get_or-in_case_of : (e : List ℕ) (from to : ℕ) (u : List ℕ) (k : ℕ) → 0 < from → get_or (in_case_of e from to u) k 0 ≡ in_case_at (get_or e k 0x20) from to (get_or u k 0)
get_or-in_case_of e from to [] k some = nul_kept (get_or e k 0x20) from to some
get_or-in_case_of [] from to (b ∷ u) zero some = refl
get_or-in_case_of [] from to (b ∷ u) (suc k) some = get_or-in_case_of [] from to u k some
get_or-in_case_of (m ∷ e) from to (b ∷ u) zero some = refl
get_or-in_case_of (m ∷ e) from to (b ∷ u) (suc k) some = get_or-in_case_of e from to u k some

byte-in_case : (m from to b : ℕ) → IsTextByte to → IsTextByte b → IsTextByte (in_case_at m from to b)
byte-in_case m from to b new old = grind (arith, nat_tests)

text-in_case_of : (e : List ℕ) (from to : ℕ) (u : List ℕ) → 0 < from → IsTextByte to → IsText u → IsText (in_case_of e from to u)
text-in_case_of e from to [] some new text = All-nil IsTextByte
text-in_case_of [] from to (b ∷ u) some new text =
    All-cons IsTextByte (lower_but from to b) (in_case_of [] from to u) (byte-in_case 0x20 from to b new (All-head IsTextByte b u text)) (text-in_case_of [] from to u some new (All-tail IsTextByte b u text))
text-in_case_of (m ∷ e) from to (b ∷ u) some new text =
    All-cons IsTextByte (in_case_at m from to b) (in_case_of e from to u) (byte-in_case m from to b new (All-head IsTextByte b u text)) (text-in_case_of e from to u some new (All-tail IsTextByte b u text))

-- sixteen bytes and one more that are a text, at each place
held : (xs : List ℕ) (x : ℕ) (t : List ℕ) → length xs ≡ 16 → IsText t → length t ≤ 17 → ((k : ℕ) → k < 16 → get_or xs k 0 ≡ get_or t k 0) → x ≡ get_or t 16 0 → IsPaddedText (xs ++ x ∷ []) 17 × (text_of (xs ++ x ∷ []) ≡ t)
held xs x t long text fits same last =
    let at : (k : ℕ) → k < 17 → get_or (xs ++ x ∷ []) k 0 ≡ get_or t k 0 = λ k below. grind (arith, places, same k, last) in
    let made = IsPaddedText-places (xs ++ x ∷ []) t 17 (omega (arith, length-append xs (x ∷ []))) text at in
    (made.0, made.1 ∙ take_all 17 t fits)

pub held_in_case : (from to : ℕ) (u lanes example : List ℕ) (last : ℕ) → IsLoaded lanes u → length example ≡ 16 → IsText u → 0 < from → IsTextByte to → last ≡ lower_but from to (get_or u 16 0) → IsPaddedText (in_case_of example from to lanes ++ last ∷ []) 17 × (text_of (in_case_of example from to lanes ++ last ∷ []) ≡ in_case_of example from to u)
held_in_case from to u lanes example last load sixteen text some new is =
    let t = in_case_of example from to u in
    let xs = in_case_of example from to lanes in
    let long : length xs ≡ 16 = length-in_case_of example from to lanes ∙ rw (load.held) (length-pad (take 16 u) 16 (omega (arith, length-take 16 u))) in
    let same : (k : ℕ) → k < 16 → get_or xs k 0 ≡ get_or t k 0 = λ k below.
    get_or-in_case_of example from to lanes k some ∙ ap (in_case_at (get_or example k 0x20) from to) (rw (load.held) (get_or-pad (take 16 u) 16 k ∙ get_or-take 16 u k 0 below)) ∙ sym (get_or-in_case_of example from to u k some) in
    let end : last ≡ get_or t 16 0 = is ∙ ap (λ m. in_case_at m from to (get_or u 16 0)) (sym (get_or_past example 16 0x20 (omega (arith, sixteen)))) ∙ sym (get_or-in_case_of example from to u 16 some) in
    held xs last t long (text-in_case_of example from to u some new text) (omega (arith, length-in_case_of example from to u, load.few)) same end

-- an example in lowercase
all_lowered : (from to k : ℕ) (u : List ℕ) → in_case_of (replicate k 0x61) from to u ≡ map (lower_but from to) u
all_lowered from to k [] = refl
all_lowered from to zero (b ∷ u) = ap (λ (w : List ℕ). lower_but from to b ∷ w) (all_lowered from to zero u)
all_lowered from to (suc k) (b ∷ u) = ap (λ (w : List ℕ). lower_but from to b ∷ w) (all_lowered from to k u)

pub all_in_lowercase : (from to : ℕ) (u : List ℕ) → in_case_of (replicate 16 0x61) from to u ≡ map (lower_but from to) u
all_in_lowercase from to u = all_lowered from to 16 u
