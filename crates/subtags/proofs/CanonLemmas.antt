-- Canonical texts and their subtags.
use Rattle.std.proofs.Common.{◌≡◌, ℕ, ◌+◌, Bool, true, ◌==◌, List, [], ◌∷◌, map, length, drop, refl, arith, false, ◌↔◌, ◌≤◌, ◌++◌, take, Option, ◌∙◌}
use Rattle.std.specs.Prelude.{if◌then◌else◌}
use Rattle.std.specs.List.{list_all, slice_split, position_or_len, join_with_byte, find}
use Rattle.std.proofs.lemmas.Bool.Decides.{nat_tests}
use Rattle.tinystr.specs.Classes.{is_alphanumeric}
use Rattle.subtags.specs.Grammar.{dash, is_separator, fold_byte, fold_text, subtags_of, is_script, is_region, is_language, is_tail, IsLangId, canonical_subtag, canonical_subtags, canonical_text, IsCanonical}
use Rattle.subtags.specs.Private.{first_subtag}
use Rattle.std.proofs.lemmas.List.{map-append, append-nil, length-append, take_all}
use Rattle.std.proofs.lemmas.List.Splits.{join_with_byte-slice_split}
use Rattle.std.proofs.lemmas.Grind.{common_steps}
use Rattle.subtags.specs.Subtags.{join_subtags, IsCanonicalSubtag, language_of, script_of, region_of}
use Rattle.subtags.proofs.FoldLemmas.{map-map_absorbed, fold_text-fold_text, fold_text-canonical_subtag, is_script-fold_text, is_region-fold_text, alphanumeric-from_subtag, canonical_subtag-fold_text, fold_text-alphanumeric}
use Rattle.std.specs.Option.{IfSome, option_to_list}
use Rattle.std.proofs.lemmas.Option.{IfSome_then}
use Rattle.tinystr.specs.Case.{lowercase, titlecase, uppercase}

-- ---- cutting

-- to change the bytes and then split is to split and then change the subtags
pub slice_split-map : (f : ℕ → ℕ) (p q : ℕ → Bool) → ((b : ℕ) → p (f b) ≡ q b) → (u : List ℕ) → slice_split p (map f u) ≡ map (map f) (slice_split q u)
slice_split-map f p q e [] = refl
slice_split-map f p q e (b ∷ u) =
    let here = e b in
    let rest = slice_split-map f p q e u in
    grind arith

-- to fold and then split at each dash is to split at each separator and then fold
pub subtags_of-fold_text : (u : List ℕ) → subtags_of (fold_text u) ≡ map fold_text (slice_split is_separator u)
subtags_of-fold_text u = slice_split-map fold_byte (λ b. b == dash) is_separator (λ b. grind (arith, nat_tests)) u

-- the subtags after the first separator
abbrev pub subtags_after : List ℕ → List (List ℕ)
subtags_after u = if position_or_len is_separator u == length u then [] else subtags_of (fold_text (drop (position_or_len is_separator u + 1) u))

-- the first subtag ends at the first separator
pub subtags_at_first_separator : (u : List ℕ) → subtags_of (fold_text u) ≡ fold_text (first_subtag u) ∷ subtags_after u
subtags_at_first_separator [] = refl
subtags_at_first_separator (b ∷ u) = let rest = subtags_at_first_separator u in grind (arith, nat_tests)

-- subtags of letters and digits, joined by dashes, are split again
pub subtags_of-join : (l : List ℕ) (ps : List (List ℕ)) → list_all (list_all is_alphanumeric) (l ∷ ps) ≡ true → subtags_of (join_with_byte dash (l ∷ ps)) ≡ l ∷ ps
subtags_of-join [] [] plain = refl
subtags_of-join [] (p ∷ ps) plain = let rest = subtags_of-join p ps (grind arith) in grind (arith, nat_tests)
subtags_of-join (b ∷ l) ps plain = let rest = subtags_of-join l ps (grind arith) in grind (arith, nat_tests)

-- letters and digits are one subtag
pub subtags_of-alphanumeric : (p : List ℕ) → list_all is_alphanumeric p ≡ true → subtags_of p ≡ p ∷ []
subtags_of-alphanumeric p h = subtags_of-join p [] (grind arith)

-- to join and then fold is to fold and then join
pub fold_text-join : (ps : List (List ℕ)) → fold_text (join_with_byte dash ps) ≡ join_with_byte dash (map fold_text ps)
fold_text-join [] = refl
fold_text-join (p ∷ []) = refl
fold_text-join (p ∷ q ∷ ps) = let rest = fold_text-join (q ∷ ps) in simp (map-append, rest)

-- a canonical text folds as its input does
pub fold_text-canonical_text : (u : List ℕ) → fold_text (canonical_text u) ≡ fold_text u
fold_text-canonical_text u =
    let ps = subtags_of (fold_text u) in
    let others = map-map_absorbed fold_text canonical_subtag fold_text-canonical_subtag in
    let kept : map fold_text ps ≡ ps = rw subtags_of-fold_text (map-map_absorbed fold_text fold_text fold_text-fold_text _) in
    let cased : map fold_text (canonical_subtags ps) ≡ ps = grind arith in
    rw (fold_text-join, cased) (join_with_byte-slice_split dash (fold_text u))

-- the canonical text of an identifier is canonical
pub IsCanonical-canonical_text : (u : List ℕ) → IsLangId u → IsCanonical (canonical_text u)
IsCanonical-canonical_text u h = let same = fold_text-canonical_text u in record { accepted = rw same h; canonical = cc }

-- a canonical subtag is a script, or a region, exactly if the subtag is
pub same_kind : (p : List ℕ) → (is_script (canonical_subtag p) ≡ is_script p) × (is_region (canonical_subtag p) ≡ is_region p)
same_kind p = let same = fold_text-canonical_subtag p in let q = canonical_subtag p in (cc (is_script-fold_text q, is_script-fold_text p), cc (is_region-fold_text q, is_region-fold_text p))

-- the canonical subtags of a tail are a tail
pub is_tail-canonical : (ps : List (List ℕ)) → is_tail ps ≡ true → is_tail (map canonical_subtag ps) ≡ true
is_tail-canonical ps h = grind (arith, same_kind)

-- the subtags of an identifier are letters and digits
pub plain_subtags : (l : List ℕ) (ps : List (List ℕ)) → is_language l ≡ true → is_tail ps ≡ true → list_all (list_all is_alphanumeric) (l ∷ ps) ≡ true
plain_subtags l ps language tail = grind (arith, alphanumeric-from_subtag)

-- a region isn't a script
pub no_script-from_region : (p : List ℕ) → is_region p ≡ true → is_script p ≡ false
no_script-from_region p h = grind (arith, nat_tests)

-- a language and a tail, joined by dashes, are the language, the script and the region, joined
pub join_with_byte-tail : (l : List ℕ) (ps : List (List ℕ)) → is_tail ps ≡ true → join_with_byte dash (l ∷ ps) ≡ join_subtags l (find is_script ps) (find is_region ps)
join_with_byte-tail l ps h = grind (arith, common_steps, no_script-from_region)

-- two inputs have the same canonical text exactly if they fold alike
pub same_canonical_text : (u v : List ℕ) → (canonical_text u ≡ canonical_text v) ↔ (fold_text u ≡ fold_text v)
same_canonical_text u v = let of_u = fold_text-canonical_text u in let of_v = fold_text-canonical_text v in (λ e. cc, λ e. cc)

-- ---- subtags, joined to an identifier

-- of two texts that have at most 16 bytes together nothing is split
pub take_take_append : (l t : List ℕ) → length l + length t ≤ 16 → take 17 (take 16 (l ++ t)) ≡ l ++ t
take_take_append l t h = let len = length-append l t in rw (take_all 16 (l ++ t) (omega arith), take_all 17 (l ++ t) (omega arith)) refl

-- canonical subtags, joined, are a canonical text, which gives them back
pub subtags_of_join_subtags : (l : List ℕ) (s r : Option (List ℕ)) → IsCanonicalSubtag is_language lowercase l → IfSome s (IsCanonicalSubtag is_script titlecase) → IfSome r (IsCanonicalSubtag is_region uppercase)
    → (let t = join_subtags l s r in (t ≡ t) × IsCanonical t × (language_of t ≡ l) × (script_of t ≡ s) × (region_of t ≡ r))
subtags_of_join_subtags l s r language script region =
    let ps = option_to_list s ++ option_to_list r in
    let kept_s : IfSome s (λ p. canonical_subtag (fold_text p) ≡ p) = IfSome_then s script (λ p c. canonical_subtag-fold_text p (rw c.well_formed refl) ∙ rw c.well_formed c.canonical) in
    let kept_r : IfSome r (λ p. canonical_subtag (fold_text p) ≡ p) =
    IfSome_then r region (λ p c. canonical_subtag-fold_text p (rw c.well_formed (grind arith)) ∙ rw (no_script-from_region p c.well_formed) c.canonical) in
    let is : is_language l ≡ true = language.well_formed in
    let tail : is_tail ps ≡ true = grind arith in
    let found : (find is_script ps ≡ s) × (find is_region ps ≡ r) = (grind (arith, no_script-from_region), grind (arith, no_script-from_region)) in
    let kept : map canonical_subtag (map fold_text ps) ≡ ps = grind arith in
    let joined : join_with_byte dash (l ∷ ps) ≡ join_subtags l s r = grind (arith, append-nil) in
    let same : fold_text l ≡ l = fold_text-alphanumeric l (alphanumeric-from_subtag l (grind arith)) ∙ language.canonical in
    let folded : is_tail (map fold_text ps) ≡ true = grind (arith, is_script-fold_text, is_region-fold_text) in
    let split : subtags_of (fold_text (join_with_byte dash (l ∷ ps))) ≡ l ∷ map fold_text ps = rw (fold_text-join, same) (subtags_of-join l (map fold_text ps) (plain_subtags l (map fold_text ps) is folded)) in
    let whole = subtags_of-join l ps (plain_subtags l ps is tail) in
    rw (← joined, whole) (refl, record { accepted = rw (split, is, folded) refl; canonical = rw (split, kept) refl }, refl, found.0, found.1)
