-- Hashes are made as their definitions say.
use Rattle.std.proofs.Common.{◌%◌, List, [], ap, arith, drop, false, get_or, length, refl, suc, zero, sym, take, true, zero-mul, suc-mul, ℕ, ◌*◌, ◌-◌, ◌/◌, ◌+◌, ◌++◌, ◌^◌, ◌<◌, ◌≤◌, ◌∙◌, ◌∷◌, ◌≡◌}
use Rattle.std.specs.Prelude.{bit_xor, fold, min, nat_lt, slice_index_or}
use Rattle.std.specs.Simd.{first_chunks}
use Rattle.std.proofs.lemmas.Bool.{lt-ltb}
use Rattle.std.proofs.lemmas.Bool.Decides.{nat_tests}
use Rattle.std.proofs.lemmas.Nat.{mul-mod_first}
use Rattle.std.proofs.lemmas.List.{drop_min, drop-drop, take_all, take_min, take_more, length-map}
use Rattle.std.proofs.lemmas.List.Sums.{fold_push}
use Rattle.tinystr_words.specs.Words.{word}
use Rattle.tinystr_hashed.specs.Hashing.{folded, hash_on, hash_of, pilot_of, place_of_hash, place_of_slot, scaled, slot_of}

-- a piece of at most sixteen bytes, in two words
pub hash_on-numbers : (hash : ℕ) (piece front back : List ℕ) (m low high r : ℕ) → m ≡ min (length piece) 8 → front ≡ take m piece → back ≡ drop m piece
    → low ≡ word front → high ≡ word back → r ≡ folded (bit_xor hash low) (bit_xor hash (bit_xor 0x9e37_79b9_7f4a_7c15 high)) → r ≡ hash_on hash piece
unfolding hash_on
hash_on-numbers hash piece front back m low high r middle first rest e f made =
    let at_eight : m ≡ min 8 (length piece) = omega arith in
    let is_low : low ≡ word (take 8 piece) = e ∙ ap word (first ∙ ap (λ k. take k piece) at_eight ∙ take_min 8 piece) in
    let is_high : high ≡ word (drop 8 piece) = f ∙ ap word (rest ∙ ap (λ k. drop k piece) at_eight ∙ drop_min 8 piece) in
    made ∙ rw (is_low, is_high) refl

-- one more piece
pub hash-more : (start : ℕ) (pieces : List (List ℕ)) (i : ℕ) (piece : List ℕ) (h r : ℕ) → i < length pieces → piece ≡ get_or pieces i piece
    → h ≡ fold hash_on start (take i pieces) → r ≡ hash_on h piece → r ≡ fold hash_on start (take (i + 1) pieces)
hash-more start pieces i piece h r below here so_far made =
    made ∙ rw (so_far, take_more pieces i piece below, ← here) (sym (fold_push hash_on start (take i pieces) piece))

-- the last of k + 1 chunks
first_chunks-push : (n k : ℕ) (xs : List ℕ) → first_chunks n (suc k) xs ≡ first_chunks n k xs ++ (take n (drop (k * n) xs) ∷ [])
first_chunks-push n zero xs = let none : zero * n ≡ 0 = zero-mul n in rw none refl
first_chunks-push n (suc k) xs =
    let far : drop (k * n) (drop n xs) ≡ drop (suc k * n) xs = drop-drop (k * n) n xs ∙ ap (λ m. drop m xs) (omega (arith, suc-mul k n)) in
    ap (λ l. take n xs ∷ l) (first_chunks-push n k (drop n xs) ∙ rw far refl)

-- whole pieces of sixteen bytes
pub hash-whole : (start : ℕ) (raw rest : List ℕ) (pieces : List (List ℕ)) (i h : ℕ) → pieces ≡ first_chunks 16 (length raw / 16) raw → length rest ≡ length raw % 16 → rest ≡ []
    → i ≡ length pieces → h ≡ fold hash_on start (take i pieces) → h ≡ hash_of start raw
hash-whole start raw rest pieces i h are long none end made =
    let whole : length raw % 16 ≡ 0 = sym long ∙ ap (λ (l : List ℕ). length l) none in
    let count : (length raw + 15) / 16 ≡ length raw / 16 = omega arith in
    made ∙ rw (end, take_all (length pieces) pieces (omega arith), are, count) refl

-- and the remainder after them
pub hash-rest : (start : ℕ) (raw rest : List ℕ) (pieces : List (List ℕ)) (i h r : ℕ) → pieces ≡ first_chunks 16 (length raw / 16) raw → rest ≡ drop (length raw / 16 * 16) raw → length rest ≡ length raw % 16 → 0 < length rest
    → i ≡ length pieces → h ≡ fold hash_on start (take i pieces) → r ≡ hash_on h rest → r ≡ hash_of start raw
hash-rest start raw rest pieces i h r are after long some end made last =
    let count : (length raw + 15) / 16 ≡ suc (length raw / 16) = omega arith in
    let piece : take 16 (drop (length raw / 16 * 16) raw) ≡ rest = ap (λ l. take 16 l) (sym after) ∙ take_all 16 rest (omega arith) in
    let so_far : h ≡ fold hash_on start (first_chunks 16 (length raw / 16) raw) = made ∙ rw (end, take_all (length pieces) pieces (omega arith), are) refl in
    last ∙ rw (so_far, count, first_chunks-push 16 (length raw / 16) raw, piece) (sym (fold_push hash_on start (first_chunks 16 (length raw / 16) raw) rest))

-- ---- slots and places

-- a slot, by the factor of its hash
pub slot_of-factor : (hash pilot slots factor r : ℕ) → factor ≡ hash * 0xe703_7ed1_a0b4_28db % 2 ^ 64 → r ≡ scaled (factor * pilot % 2 ^ 64) slots → r ≡ slot_of hash pilot slots
unfolding slot_of
slot_of-factor hash pilot slots factor r is made =
    made ∙ ap (λ k. scaled k slots) (ap (λ f. f * pilot % 2 ^ 64) is ∙ mul-mod_first (hash * 0xe703_7ed1_a0b4_28db) pilot (2 ^ 64))

-- the place of the slot of a hash is that of the hash
pub place-slot : (pilots moves : List ℕ) (count hash pilot slot : ℕ) → pilot ≡ pilot_of pilots hash → slot ≡ slot_of hash pilot (count + length moves) → place_of_slot moves count slot ≡ place_of_hash pilots moves count hash
unfolding place_of_hash
place-slot pilots moves count hash pilot slot is at = rw (at, is) refl

-- a slot among the records is a place
pub place_of_slot-inside : (moves : List ℕ) (count slot : ℕ) → slot < count → slot ≡ place_of_slot moves count slot
place_of_slot-inside moves count slot inside =
    let test : nat_lt slot count ≡ true = lt-ltb slot count inside in
    rw test refl

-- and one past them has a move
pub place_of_slot-past : (moves : List ℕ) (count slot : ℕ) → count ≤ slot → slice_index_or moves (slot - count) count ≡ place_of_slot moves count slot
place_of_slot-past moves count slot past =
    let test : nat_lt slot count ≡ false = grind (arith, nat_tests) in
    rw test refl

pub ruleset factors = (slot_of-factor)

pub ruleset pieces = (hash_on-numbers)

pub ruleset hashes = (nat_tests, hash-rest)

pub ruleset slots = (length-map, place-slot)
