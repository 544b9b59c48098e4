-- The places and the lengths of subtags in a canonical text.
use Rattle.std.proofs.Common.{Bool, ◌&&◌, map, sym, ◌∙◌, ◌/◌, ◌%◌, ◌^◌, false, get_or, cond, zero, nat_lt, ◌≡◌, ◌+◌, ◌-◌, ◌<◌, ◌≤◌, ◌==◌, ℕ, suc, true, length, List, [], ◌∷◌, ◌++◌, take, drop, Option, None, Some, refl, ap, arith}
use Rattle.std.proofs.lemmas.Bool.Decides.{nat_tests}
use Rattle.std.proofs.lemmas.List.{take_at, take_all, length-append, length-map, take-take}
use Rattle.std.proofs.Math.Nat.{add-sub_cancel_left, sub-zero}
use Rattle.std.proofs.Math.Seq.{drop-append-add}
use Rattle.std.specs.List.{list_all, find, position, range_with_len}
use Rattle.std.proofs.lemmas.Simd.{bit_mask_l}
use Rattle.std.proofs.lemmas.List.FromFn.{get_or-map-range_with_len}
use Rattle.std.specs.Option.{IfSome, unwrap_or}
use Rattle.std.proofs.lemmas.Option.{IfSome_then}
use Rattle.tinystr.specs.Classes.{is_alphanumeric}
use Rattle.tinystr.specs.Case.{lowercase, titlecase, uppercase}
use Rattle.subtags.specs.Grammar.{dash, fold_byte, fold_text, subtags_of, is_language, is_language_length, is_script, is_region, is_tail, canonical_subtag, canonical_text, IsCanonical}
use Rattle.subtags.specs.Subtags.{IsCanonicalSubtag, language_of, script_of, region_of, after_dash, join_subtags}
use Rattle.subtags.specs.Private.{first_subtag, language_end, region_start}
use Rattle.subtags.proofs.FoldLemmas.{fold_text-fold_text, fold_text-alphanumeric, alphanumeric-from_subtag, IsCanonicalSubtag-titlecase, IsCanonicalSubtag-uppercase}
use Rattle.subtags.proofs.CanonLemmas.{subtags_of-join, subtags_after, subtags_at_first_separator, same_kind, is_tail-canonical, no_script-from_region, join_with_byte-tail, plain_subtags, fold_text-canonical_text}
use Rattle.subtags.proofs.TailLemmas.{bytes_of_script, bytes_of_region}

pub length-language : (l : List ℕ) → is_language l ≡ true → (2 ≤ length l) × (length l ≤ 8)
length-language l h = (grind (arith, nat_tests), grind (arith, nat_tests))

-- where the dash after at most n letters and digits is, or n if nothing follows them
dash_within : (n : ℕ) (l w : List ℕ) → list_all is_alphanumeric l ≡ true → length l ≤ n → get_or w 0 dash ≡ dash
    → unwrap_or (position (λ b. b == dash) (take n (l ++ w))) n ≡ cond (length w == 0) n (length l)
dash_within zero [] w plain few next = grind (arith, nat_tests)
dash_within zero (b ∷ l) w plain few next = absurd (omega arith)
dash_within (suc n) [] w plain few next = grind (arith, nat_tests)
dash_within (suc n) (b ∷ l) w plain few next = let rest = dash_within n l w (grind arith) (omega arith) next in grind (arith, nat_tests)

-- the text t has the canonical subtags l, s and r in their places (`least` is first, since the prover uses these facts where it sees its `length t`)
pub record InPlace (t l : List ℕ) (s r : Option (List ℕ)) : Type 0 where
  pub least : 2 ≤ length t
  pub most : length t ≤ 17
  pub language : (take 8 (take (language_end t) t) ≡ l) × IsCanonicalSubtag is_language lowercase l
  pub script : (s ≡ cond (nat_lt (language_end t + 4) (length t)) (Some (take 4 (drop (language_end t + 1) t))) None) × IfSome s (IsCanonicalSubtag is_script titlecase)
  pub region : (r ≡ cond (nat_lt (region_start t) (length t)) (Some (take 3 (drop (region_start t) t))) None) × IfSome r (IsCanonicalSubtag is_region uppercase)
  pub joined : t ≡ join_subtags l s r

ruleset place_steps = (nat_tests, length-append, drop-append-add)

InPlace-join_subtags : (l : List ℕ) (s r : Option (List ℕ)) → IsCanonicalSubtag is_language lowercase l → IfSome s (IsCanonicalSubtag is_script titlecase) → IfSome r (IsCanonicalSubtag is_region uppercase) → InPlace (join_subtags l s r) l s r
InPlace-join_subtags l s r language script region =
    let w = after_dash s ++ after_dash r in
    let is : is_language l ≡ true = language.well_formed in
    let few_l = length-language l is in
    let end = dash_within 8 l w (alphanumeric-from_subtag l (grind arith)) few_l.1 (grind (arith, nat_tests)) in
    let first = take_at l w (length l) refl in
    let whole = take_all 8 (l ++ w) in
    let kept = take_all 8 l few_l.1 in
    let four = IfSome_then s script (λ p c. (bytes_of_script p c.well_formed).0) in
    let few = IfSome_then r region (λ p c. bytes_of_region p c.well_formed) in
    let all = IfSome_then r few (λ p c. take_all 3 p c.1) in
    let front = IfSome_then s four (λ p c. take_at p (after_dash r) 4 c) in
    let back = IfSome_then s four (λ p c. rw c at (drop-append-add p (after_dash r) 1)) in
    record { joined = refl; least = grind arith; most = grind (arith, place_steps); language = (grind (arith, place_steps), language); script = (grind (arith, place_steps), script); region = (grind (arith, place_steps), region) }

-- a canonical subtag that is found among others
canonical_found : (t : List ℕ → Bool) (f : List ℕ → List ℕ) → ((p : List ℕ) → t (canonical_subtag p) ≡ t p)
    → ((p : List ℕ) → t p ≡ true → IsCanonicalSubtag t f (canonical_subtag p)) → (ps : List (List ℕ)) → IfSome (find t (map canonical_subtag ps)) (IsCanonicalSubtag t f)
canonical_found t f same each [] = tt
canonical_found t f same each (p ∷ ps) = let here = same p in let one = each p in let rest = canonical_found t f same each ps in grind arith

-- a canonical text has its subtags in their places
pub InPlace-canonical : (t : List ℕ) → IsCanonical t → InPlace t (language_of t) (script_of t) (region_of t)
InPlace-canonical t h =
    let l = fold_text (first_subtag t) in
    let ps = map canonical_subtag (subtags_after t) in
    let split = subtags_at_first_separator t in
    let all : (is_language l && is_tail (subtags_after t)) ≡ true = rw split at h.accepted in
    let is : is_language l ≡ true = grind arith in
    let tail = is_tail-canonical (subtags_after t) (grind arith) in
    let lowered = sym (fold_text-alphanumeric l (alphanumeric-from_subtag l (grind arith))) ∙ fold_text-fold_text (first_subtag t) in
    let script = canonical_found is_script titlecase (λ p. (same_kind p).0) (λ p h. rw h (IsCanonicalSubtag-titlecase p h)) (subtags_after t) in
    let region = canonical_found is_region uppercase (λ p. (same_kind p).1) (λ p h. rw (no_script-from_region p h) (IsCanonicalSubtag-uppercase p h)) (subtags_after t) in
    let place = InPlace-join_subtags l (find is_script ps) (find is_region ps) record { well_formed = is; canonical = lowered } script region in
    let of : subtags_of (canonical_text t) ≡ l ∷ ps = rw split (subtags_of-join l ps (plain_subtags l ps is tail)) in
    rw (rw h.canonical at of) (rw (sym (join_with_byte-tail l ps tail) ∙ rw split at h.canonical) at place)

pub language_at : (t : List ℕ) (end : ℕ) → IsCanonical t → end ≡ language_end t → (take 8 (take (end - 0) t) ≡ language_of t) × IsCanonicalSubtag is_language lowercase (language_of t)
language_at t end h is = rw (sub-zero, is) (InPlace-canonical t h).language

-- the first bytes of a slice
pub slice_from : (t : List ℕ) (start n : ℕ) → (take (start + n - start) (drop start t) ≡ take n (drop start t)) × (take n (take n (drop start t)) ≡ take n (drop start t))
slice_from t start n = (rw add-sub_cancel_left, take-take n n (drop start t) (omega arith))

pub ruleset subtags_in_place = (InPlace-canonical, language_at, slice_from, nat_tests)

-- ---- lengths

-- the bit of a number is set exactly if a language may have that number of letters
pub length_bits : (n : ℕ) → n < 64 → (492 / 2 ^ n % 2 == 1) ≡ is_language_length n
length_bits n small =
    let bit = bit_mask_l (map is_language_length (range_with_len 0 64)) n ∙ ap (λ b. cond b 1 0) (get_or-map-range_with_len is_language_length 0 64 n n false small (omega arith)) in
    grind (arith, nat_tests)

-- the fold keeps the length
pub length-canonical_text : (u : List ℕ) → length (canonical_text u) ≡ length u
length-canonical_text u = omega (arith, length-map (canonical_text u) fold_byte, length-map u fold_byte, ap length (fold_text-canonical_text u))
