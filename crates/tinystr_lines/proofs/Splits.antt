-- Whether there is a place to split at.
use Rattle.std.proofs.Common.{◌≡◌, ◌+◌, ◌-◌, ◌%◌, ◌≤◌, ℕ, inl, inr, Bool, false, List, length, map, replicate, take, drop, cond, eqb, nat_lt, ap, sym, ◌∙◌, w8, arith, take_all, drop_of_length-le}
use lib.Lanes.{zip2, mask_l, top}
use lib.Count.{count_trailing_zeros}
use Rattle.std.specs.List.{position_or_len, list_any}
use Rattle.std.proofs.lemmas.Bool.{cases_lt}
use Rattle.std.proofs.lemmas.Bool.Decides.{nat_tests}
use Rattle.std.proofs.lemmas.List.{length-take, length-take-le, drop-take, drop-drop, take-append-drop}
use Rattle.std.proofs.lemmas.List.Folds.{list_any_at, list_any_none, list_any-append}
use Rattle.std.proofs.lemmas.Simd.{bitmask_splat, first_set_mask_l}
use Rattle.std.proofs.lemmas.List.Sums.{fails_before_first, passes_at_first}

-- an element passes exactly where the index of the first to pass is inside
pub list_any-position_or_len : (p : ℕ → Bool) (xs : List ℕ) → list_any p xs ≡ nat_lt (position_or_len p xs) (length xs)
list_any-position_or_len p xs = elim (cases_lt (position_or_len p xs) (length xs)) [
  | inl inside ↦ rw (list_any_at p xs (position_or_len p xs) 0 inside (passes_at_first p xs 0 inside)) (grind (arith, nat_tests))
  | inr outside ↦ rw (list_any_none p xs (λ k d below. fails_before_first p xs k d (omega arith))) (grind (arith, nat_tests))
]

pub ruleset split_steps = (nat_tests, list_any-position_or_len, take_all, drop_of_length-le)

-- ---- thirty-two in one step

-- the marks of the lanes that are the byte
abbrev pub marks : List ℕ → ℕ → ℕ
marks lanes byte = mask_l (map (top 7) (zip2 (λ a b. cond (eqb a b) 255 0) lanes (replicate 32 byte))) % 18446744073709551616

-- the index of the lowest mark is that of the first such byte
pub place-marks : (lanes : List ℕ) (byte : ℕ) → length lanes ≡ 32
    → cond (eqb (marks lanes byte) 0) 32 (count_trailing_zeros 64 (marks lanes byte)) ≡ position_or_len (λ b. eqb b byte) lanes
place-marks lanes byte long =
    let p : ℕ → Bool = λ b. eqb b byte in
    let is : marks lanes byte ≡ mask_l (map p lanes) = bitmask_splat w8 eqb lanes 32 byte long (omega arith) in
    rw is (first_set_mask_l p lanes 32 long (omega arith))

-- where none of the 32 before a place passes, and none from there on, none passes from the first of these on
pub none_from-lanes : (p : ℕ → Bool) (n end : ℕ) (xs lanes : List ℕ) → end ≡ n + 32 → end ≤ length xs → lanes ≡ drop (length (take end xs) - 32) (take end xs)
    → 32 ≤ position_or_len p lanes → list_any p (drop end xs) ≡ false → list_any p (drop n xs) ≡ false
none_from-lanes p n end xs lanes whole inside last none after =
    let long = length-take-le end xs inside in
    let at : length (take end xs) - 32 ≡ n = omega (arith, long, whole) in
    let front : lanes ≡ take 32 (drop n xs) = last ∙ ap (λ k. drop k (take end xs)) at ∙ ap (λ e. drop n (take e xs)) whole ∙ drop-take n 32 xs in
    let rest : drop 32 (drop n xs) ≡ drop end xs = drop-drop 32 n xs ∙ ap (λ e. drop e xs) (sym whole) in
    let short : length lanes ≤ 32 = rw (front, length-take 32 (drop n xs)) (omega arith) in
    let unmet : list_any p lanes ≡ false = list_any-position_or_len p lanes ∙ grind (arith, nat_tests, none, short) in
    ap (list_any p) (sym (take-append-drop 32 (drop n xs))) ∙ list_any-append p (take 32 (drop n xs)) (drop 32 (drop n xs)) ∙ rw (← front, rest, unmet) after
