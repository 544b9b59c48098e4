-- The order of padded arrays is that of their texts.
use Rattle.std.proofs.Common.{◌≡◌, ℕ, ◌+◌, ◌-◌, List, [], ◌∷◌, ◌++◌, length, ap, refl, arith, suc, zero, ◌≤◌}
use Rattle.std.specs.Ordering.{nat_cmp, ordering_then}
use Rattle.std.specs.Cmp.Lexicographic.{slice_cmp}
use Rattle.std.specs.declared.cmp.Ordering.TheVariants.{Less, Greater}
use Rattle.std.proofs.lemmas.Cmp.{nat_list_cmp_total, tied_itself}
use Rattle.std.proofs.lemmas.Bool.Decides.{nat_tests}
use Rattle.std.proofs.lemmas.List.Elements.{All-head, All-tail}
use Rattle.tinystr_words.proofs.Texts.{NULS}
use Rattle.tinystr_words.specs.Text.{IsText, IsTextByte, pad, text_of, IsPaddedText}

-- texts followed by NULs, up to one length, are in the order of the texts
cmp-padded : (t s : List ℕ) (k m : ℕ) → IsText t → IsText s → length t + k ≡ length s + m → slice_cmp nat_cmp (t ++ NULS k) (s ++ NULS m) ≡ slice_cmp nat_cmp t s
cmp-padded [] [] k m a b e = let same : k ≡ m = omega arith in rw same (tied_itself nat_list_cmp_total (NULS m))
cmp-padded [] (y ∷ s) zero m a b e = absurd (omega arith)
cmp-padded [] (y ∷ s) (suc k) m a b e = let char = All-head IsTextByte y s b in let less : nat_cmp 0 y ≡ Less = grind (arith, nat_tests) in rw less refl
cmp-padded (x ∷ t) [] k zero a b e = absurd (omega arith)
cmp-padded (x ∷ t) [] k (suc m) a b e = let char = All-head IsTextByte x t a in let more : nat_cmp x 0 ≡ Greater = grind (arith, nat_tests) in rw more refl
cmp-padded (x ∷ t) (y ∷ s) k m a b e =
    ap (λ o. ordering_then (nat_cmp x y) o) (cmp-padded t s k m (All-tail IsTextByte x t a) (All-tail IsTextByte y s b) (omega arith))

-- two texts padded to one length keep their order
pub cmp-pad : (t s : List ℕ) (n : ℕ) → IsText t → IsText s → length t ≤ n → length s ≤ n → slice_cmp nat_cmp (pad t n) (pad s n) ≡ slice_cmp nat_cmp t s
cmp-pad t s n a b fits fits_other = cmp-padded t s (n - length t) (n - length s) a b (omega arith)

-- two arrays of one length are in the order of their texts
pub cmp-IsPaddedText : (xs ys : List ℕ) (n : ℕ) → IsPaddedText xs n → IsPaddedText ys n → length xs ≡ n → length ys ≡ n → slice_cmp nat_cmp xs ys ≡ slice_cmp nat_cmp (text_of xs) (text_of ys)
cmp-IsPaddedText xs ys n a b lx ly = let e = cmp-pad (text_of xs) (text_of ys) n a.text b.text a.fits b.fits in cc
