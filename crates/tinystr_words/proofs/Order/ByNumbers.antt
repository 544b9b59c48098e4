-- Bytes in order are the digits of a number, the greatest first: equally long lists compare as their numbers.
use Rattle.std.proofs.Common.{Bool, cond, nat_eq, nat_lt, Fits, map, ◌%◌, w8, List, [], ap, arith, drop, get_or, inl, inr, length, refl, suc, sym, take, ℕ, ◌*◌, ◌++◌, ◌+◌, ◌-◌, ◌<◌, ◌∙◌, ◌∷◌, ◌≡◌, ◌≤◌}
use Rattle.std.proofs.lemmas.Bool.{cases_lt}
use Rattle.std.proofs.lemmas.List.{append-nil, drop_all, get_or-drop, length-take-le, places, take-append-drop, take_all}
use Rattle.std.proofs.lemmas.Cmp.{nat_cmp_total, nat_list_cmp_total, tied_itself}
use Rattle.std.specs.Cmp.{nat_cmp_is}
use Rattle.std.specs.Cmp.Lexicographic.{slice_cmp}
use Rattle.std.specs.Ordering.{is_lt, nat_cmp, ordering_index, ordering_then}
use Rattle.std.specs.Prelude.{false, not, true, ◌==◌}
use Rattle.std.specs.declared.cmp.Ordering.{Ordering}
use Rattle.std.specs.declared.cmp.Ordering.TheVariants.{Equal, Greater, Less}
use Rattle.std.specs.Int.{from_be_bytes, from_le_bytes, swap_bytes, to_le_bytes, w64}
use Rattle.std.proofs.lemmas.Nat.{le_bytes_8}
use Rattle.std.proofs.Math.Facts.{Fits-lt-pow}
use Rattle.tinystr_words.specs.Words.{word}
use Rattle.tinystr_words.proofs.Words.Numbers.{word-nuls}
use Rattle.tinystr_words.proofs.Pieces.Word.{map-mod_bytes}
use Rattle.tinystr_words.specs.Text.{pad}
use Rattle.tinystr_words.proofs.Texts.{NULS, get_or-pad, length-pad}
use Rattle.tinystr_words.proofs.Pieces.Copying.{pad-full}

abbrev pub AreBytes : List ℕ → Type 0
AreBytes xs = (i : ℕ) → get_or xs i 0 < 256

-- the number that digits spell after a
abbrev spelled_after : ℕ → List ℕ → ℕ
spelled_after a [] = a
spelled_after a (b ∷ bs) = spelled_after (a * 256 + b) bs

-- the greater start stays greater
spelled_after-lt : (us vs : List ℕ) (a b : ℕ) → length us ≡ length vs → AreBytes us → a < b → spelled_after a us < spelled_after b vs
spelled_after-lt [] [] a b e h less = less
spelled_after-lt [] (v ∷ vs) a b e h less = absurd (omega arith)
spelled_after-lt (u ∷ us) [] a b e h less = absurd (omega arith)
spelled_after-lt (u ∷ us) (v ∷ vs) a b e h less =
    spelled_after-lt us vs (a * 256 + u) (b * 256 + v) (omega arith) (λ i. h (suc i)) (let small : u < 256 = h 0 in omega arith)

-- equally long digits compare as their numbers, and then what follows them
slice_cmp-spelled_after : (us vs r s : List ℕ) (a : ℕ) → length us ≡ length vs → AreBytes us → AreBytes vs
    → slice_cmp nat_cmp (us ++ r) (vs ++ s) ≡ ordering_then (nat_cmp (spelled_after a us) (spelled_after a vs)) (slice_cmp nat_cmp r s)
slice_cmp-spelled_after [] [] r s a e g h = rw (tied_itself nat_cmp_total a) refl
slice_cmp-spelled_after [] (v ∷ vs) r s a e g h = absurd (omega arith)
slice_cmp-spelled_after (u ∷ us) [] r s a e g h = absurd (omega arith)
slice_cmp-spelled_after (u ∷ us) (v ∷ vs) r s a e g h =
    elim (cases_lt u v) [
      | inl less ↦ rw (← nat_cmp_is u v Less less, ← nat_cmp_is _ _ Less (spelled_after-lt us vs (a * 256 + u) (a * 256 + v) (omega arith) (λ i. g (suc i)) (omega arith))) refl
      | inr from ↦ elim (cases_lt v u) [
        | inl more ↦ rw (← nat_cmp_is u v Greater more, ← nat_cmp_is _ _ Greater (spelled_after-lt vs us (a * 256 + v) (a * 256 + u) (omega arith) (λ i. h (suc i)) (omega arith))) refl
        | inr to ↦ (let same : u ≡ v = omega arith in
            rw (same, tied_itself nat_cmp_total v) (slice_cmp-spelled_after us vs r s (a * 256 + v) (omega arith) (λ i. g (suc i)) (λ i. h (suc i))))
      ]
    ]

-- eight digits are what `from_be_bytes` reads
from_be_bytes-spelled_after : (bs : List ℕ) → length bs ≡ 8 → from_be_bytes w64 bs ≡ spelled_after 0 bs
from_be_bytes-spelled_after (a ∷ b ∷ c ∷ d ∷ e ∷ f ∷ g ∷ h ∷ []) l = omega arith
from_be_bytes-spelled_after (a ∷ b ∷ c ∷ d ∷ e ∷ f ∷ g ∷ h ∷ i ∷ more) l = absurd (omega arith)
from_be_bytes-spelled_after [] l = absurd (omega arith)
from_be_bytes-spelled_after (a ∷ []) l = absurd (omega arith)
from_be_bytes-spelled_after (a ∷ b ∷ []) l = absurd (omega arith)
from_be_bytes-spelled_after (a ∷ b ∷ c ∷ []) l = absurd (omega arith)
from_be_bytes-spelled_after (a ∷ b ∷ c ∷ d ∷ []) l = absurd (omega arith)
from_be_bytes-spelled_after (a ∷ b ∷ c ∷ d ∷ e ∷ []) l = absurd (omega arith)
from_be_bytes-spelled_after (a ∷ b ∷ c ∷ d ∷ e ∷ f ∷ []) l = absurd (omega arith)
from_be_bytes-spelled_after (a ∷ b ∷ c ∷ d ∷ e ∷ f ∷ g ∷ []) l = absurd (omega arith)

-- the first of bytes are bytes
AreBytes-take : (n : ℕ) (xs : List ℕ) → AreBytes xs → AreBytes (take n xs)
AreBytes-take n xs h i = grind (arith, places, h i)

-- the last of bytes are bytes
pub AreBytes-drop : (n : ℕ) (xs : List ℕ) → AreBytes xs → AreBytes (drop n xs)
AreBytes-drop n xs h i = rw get_or-drop (h (n + i))

-- what follows both lists doesn't matter
slice_cmp-same_end : (xs ys r : List ℕ) → length xs ≡ length ys → AreBytes xs → AreBytes ys → slice_cmp nat_cmp (xs ++ r) (ys ++ r) ≡ slice_cmp nat_cmp xs ys
slice_cmp-same_end xs ys r e g h =
    let bare = rw (append-nil xs, append-nil ys) at (slice_cmp-spelled_after xs ys [] [] 0 e g h) in
    rw (tied_itself nat_list_cmp_total r) at (slice_cmp-spelled_after xs ys r r 0 e g h) ∙ sym bare

-- an order that is then equal is that order
ordering_then-Equal : (o : Ordering) → ordering_then o Equal ≡ o
ordering_then-Equal Less = refl
ordering_then-Equal Equal = refl
ordering_then-Equal Greater = refl

-- padded bytes are bytes
AreBytes-pad : (xs : List ℕ) (n : ℕ) → AreBytes xs → AreBytes (pad xs n)
AreBytes-pad xs n h i = rw (get_or-pad xs n i) (h i)

-- fewer than eight bytes, as numbers
pub slice_cmp-widened : (xs ys a b : List ℕ) (x y : ℕ) (o : Ordering) → length xs ≡ length ys → length xs < 8 → AreBytes xs → AreBytes ys
    → a ≡ pad xs 8 → b ≡ pad ys 8 → x ≡ from_be_bytes w64 a → y ≡ from_be_bytes w64 b → o ≡ nat_cmp x y → o ≡ slice_cmp nat_cmp xs ys
slice_cmp-widened xs ys a b x y o e small g h ea eb ex ey eo =
    let first = length-pad xs 8 (omega arith) in
    let second = length-pad ys 8 (omega arith) in
    let numbers = slice_cmp-spelled_after (pad xs 8) (pad ys 8) [] [] 0 (first ∙ sym second) (AreBytes-pad xs 8 g) (AreBytes-pad ys 8 h) in
    let bare = rw (append-nil (pad xs 8), append-nil (pad ys 8), ordering_then-Equal (nat_cmp (spelled_after 0 (pad xs 8)) (spelled_after 0 (pad ys 8)))) at numbers in
    let nuls : pad ys 8 ≡ ys ++ NULS (8 - length xs) = rw e refl in
    let same = slice_cmp-same_end xs ys (NULS (8 - length xs)) e g h in
    rw (eo, ex, ey, ea, eb, from_be_bytes-spelled_after (pad xs 8) first, from_be_bytes-spelled_after (pad ys 8) second) (sym bare ∙ ap (λ (l : List ℕ). slice_cmp nat_cmp (pad xs 8) l) nuls ∙ same)

-- the first eight bytes as numbers, and then the rest
pub slice_cmp-first_eight : (xs ys a b r s : List ℕ) (x y : ℕ) (o : Ordering) → 8 ≤ length xs → length xs ≡ length ys → AreBytes xs → AreBytes ys
    → (a ≡ take 8 xs) × (r ≡ drop 8 xs) × (length r + 8 ≡ length xs) → (b ≡ take 8 ys) × (s ≡ drop 8 ys) × (length s + 8 ≡ length ys)
    → x ≡ from_be_bytes w64 a → y ≡ from_be_bytes w64 b → o ≡ nat_cmp x y
    → slice_cmp nat_cmp xs ys ≡ ordering_then o (slice_cmp nat_cmp r s)
slice_cmp-first_eight xs ys a b r s x y o long e g h first second ex ey eo =
    let lx = length-take-le 8 xs long in
    let ly = length-take-le 8 ys (omega arith) in
    let cut = slice_cmp-spelled_after (take 8 xs) (take 8 ys) (drop 8 xs) (drop 8 ys) 0 (lx ∙ sym ly) (AreBytes-take 8 xs g) (AreBytes-take 8 ys h) in
    rw (eo, ex, ey, first.0, second.0, first.1, second.1, from_be_bytes-spelled_after (take 8 xs) lx, from_be_bytes-spelled_after (take 8 ys) ly) (rw (take-append-drop 8 xs, take-append-drop 8 ys) at cut)

-- an order that is found stays
pub ordering_then-found : (o rest : Ordering) → true ≡ not (ordering_index o == 1) → ordering_then o rest ≡ o
ordering_then-found Less rest h = refl
ordering_then-found Equal rest h = grind arith
ordering_then-found Greater rest h = refl

-- of equal numbers the rest decides
pub ordering_then-rest : (o rest : Ordering) → false ≡ not (ordering_index o == 1) → ordering_then o rest ≡ rest
ordering_then-rest Less rest h = grind arith
ordering_then-rest Equal rest h = refl
ordering_then-rest Greater rest h = grind arith

-- ---- numbers of at most eight bytes

-- what the type of bytes says
abbrev pub AllFit : List ℕ → Type 0
AllFit bs = (i : ℕ) → Fits w8 (get_or bs i 0)

pub AreBytes-from_type : (bs : List ℕ) → AllFit bs → AreBytes bs
AreBytes-from_type bs h i = Fits-lt-pow (h i)

-- eight lanes are what `from_le_bytes` reads
from_le_bytes-word : (bs : List ℕ) → length bs ≡ 8 → word bs ≡ from_le_bytes w64 bs
from_le_bytes-word (a ∷ b ∷ c ∷ d ∷ e ∷ f ∷ g ∷ h ∷ []) l = omega arith
from_le_bytes-word (a ∷ b ∷ c ∷ d ∷ e ∷ f ∷ g ∷ h ∷ i ∷ more) l = absurd (omega arith)
from_le_bytes-word [] l = absurd (omega arith)
from_le_bytes-word (a ∷ []) l = absurd (omega arith)
from_le_bytes-word (a ∷ b ∷ []) l = absurd (omega arith)
from_le_bytes-word (a ∷ b ∷ c ∷ []) l = absurd (omega arith)
from_le_bytes-word (a ∷ b ∷ c ∷ d ∷ []) l = absurd (omega arith)
from_le_bytes-word (a ∷ b ∷ c ∷ d ∷ e ∷ []) l = absurd (omega arith)
from_le_bytes-word (a ∷ b ∷ c ∷ d ∷ e ∷ f ∷ []) l = absurd (omega arith)
from_le_bytes-word (a ∷ b ∷ c ∷ d ∷ e ∷ f ∷ g ∷ []) l = absurd (omega arith)

-- the number of at most eight bytes
pub loaded_number : (bs : List ℕ) (w r : ℕ) → length bs ≤ 8 → AllFit bs → w ≡ word (map (λ u. u % 256) bs) → r ≡ swap_bytes w64 w → r ≡ from_be_bytes w64 (pad bs 8)
loaded_number bs w r fits bytes loaded swapped =
    let same : w ≡ word (pad bs 8) = loaded ∙ ap word (map-mod_bytes bs bytes) ∙ sym (word-nuls bs (8 - length bs)) in
    let long = length-pad bs 8 fits in
    let back : to_le_bytes w64 (word (pad bs 8)) ≡ pad bs 8 = le_bytes_8 (pad bs 8) (word (pad bs 8)) long (λ i. rw (get_or-pad bs 8 i) (AreBytes-from_type bs bytes i)) (from_le_bytes-word (pad bs 8) long) in
    swapped ∙ rw same (ap (λ (l : List ℕ). from_be_bytes w64 l) back)

-- ---- bytes compared by their numbers

-- a comparison of numbers is below where the number is
is_lt-chosen : (b c : Bool) → is_lt (cond b Less (cond c Equal Greater)) ≡ b
is_lt-chosen true c = refl
is_lt-chosen false true = refl
is_lt-chosen false false = refl

pub is_lt-nat_cmp : (x y : ℕ) → is_lt (nat_cmp x y) ≡ nat_lt x y
is_lt-nat_cmp x y = is_lt-chosen (nat_lt x y) (nat_eq x y)

-- the order of at most eight bytes is that of their numbers
pub slice_cmp-numbers : (xs ys : List ℕ) (x y : ℕ) → length xs ≡ length ys → length xs ≤ 8 → AreBytes xs → AreBytes ys
    → x ≡ from_be_bytes w64 (pad xs 8) → y ≡ from_be_bytes w64 (pad ys 8) → nat_cmp x y ≡ slice_cmp nat_cmp xs ys
slice_cmp-numbers xs ys x y same fits a b ex ey = elim (cases_lt (length xs) 8) [
  | inl less ↦ slice_cmp-widened xs ys (pad xs 8) (pad ys 8) x y (nat_cmp x y) same less a b refl refl ex ey refl
  | inr full ↦ (let cut = slice_cmp-first_eight xs ys xs ys [] [] x y (nat_cmp x y) full same a b
      (sym (take_all 8 xs fits), sym (drop_all 8 xs fits), omega arith) (sym (take_all 8 ys (omega arith)), sym (drop_all 8 ys (omega arith)), omega arith)
      (rw (pad-full xs 8 full) at ex) (rw (pad-full ys 8 (omega arith)) at ey) refl in
      sym (cut ∙ ordering_then-Equal (nat_cmp x y)))
]
