-- The parts of the bytes of a hashed table.
use Rattle.std.proofs.Common.{List, ap, arith, drop, length, map, suc, take, zero, refl, ℕ, ◌*◌, ◌+◌, ◌-◌, ◌/◌, ◌∙◌, ◌≡◌, ◌≤◌}
use Rattle.std.specs.Simd.{first_chunks}
use Rattle.std.proofs.Math.Nat.{suc-mul}
use Rattle.std.proofs.lemmas.List.{drop-drop, drop-take, length-drop, length-take-le, take-take, take_all}
use Rattle.tinystr_words.specs.Words.{word}
use Rattle.tinystr_hashed.specs.Reading.{index_size, move_count, moves_of, pilot_count, pilots_of, records_in}

-- chunks of a front
first_chunks-front : (m k : ℕ) (xs : List ℕ) → first_chunks m k (take (k * m) xs) ≡ first_chunks m k xs
first_chunks-front m zero xs = refl
first_chunks-front m (suc k) xs =
    let far : suc k * m ≡ m + k * m = omega (arith, suc-mul k m) in
    let first : take m (take (suc k * m) xs) ≡ take m xs = take-take m (suc k * m) xs (omega (arith, suc-mul k m)) in
    let others : drop m (take (suc k * m) xs) ≡ take (k * m) (drop m xs) = rw far (drop-take m (k * m) xs) in
    rw (first, others, first_chunks-front m k (drop m xs)) refl

-- a slice from 16 on
pub after_header : (bytes rest : List ℕ) → rest ≡ take (length bytes - 16) (drop 16 bytes) → rest ≡ drop 16 bytes
after_header bytes rest is = is ∙ take_all (length bytes - 16) (drop 16 bytes) (omega (arith, length-drop 16 bytes))

pub pilots-read : (bytes rest index front : List ℕ) (pilots size : ℕ) → pilots ≡ pilot_count bytes → rest ≡ drop 16 bytes → pilots ≤ size → index ≡ take size rest → front ≡ take pilots index → front ≡ pilots_of bytes
pilots-read bytes rest index front pilots size same is fits of_rest first =
    first ∙ ap (λ l. take pilots l) of_rest ∙ take-take pilots size rest fits ∙ ap (λ l. take pilots l) is ∙ ap (λ k. take k (drop 16 bytes)) same

pub moves-read : (bytes rest index back : List ℕ) (chunks : List (List ℕ)) (pilots moves size : ℕ) → pilots ≡ pilot_count bytes → moves ≡ move_count bytes → size ≡ pilots + 4 * moves → rest ≡ drop 16 bytes → size ≤ length rest → index ≡ take size rest
    → back ≡ drop pilots index → chunks ≡ first_chunks 4 (length back / 4) back → map word chunks ≡ moves_of bytes
moves-read bytes rest index back chunks pilots moves size same same_moves sum is fits of_rest last are =
    let far : drop pilots rest ≡ drop (16 + pilots) bytes = ap (λ l. drop pilots l) is ∙ drop-drop pilots 16 bytes in
    let cut : take size rest ≡ take (pilots + 4 * moves) rest = ap (λ k. take k rest) sum in
    let here : back ≡ take (moves * 4) (drop (16 + pilots) bytes) =
    last ∙ ap (λ l. drop pilots l) (of_rest ∙ cut) ∙ drop-take pilots (4 * moves) rest ∙ ap (λ k. take k (drop pilots rest)) (omega arith) ∙ ap (λ l. take (moves * 4) l) far in
    let room : moves * 4 ≤ length (drop (16 + pilots) bytes) = rw (← far) (omega (arith, length-drop pilots rest)) in
    let long : length back / 4 ≡ moves = rw here (ap (λ k. k / 4) (length-take-le (moves * 4) (drop (16 + pilots) bytes) room) ∙ omega arith) in
    ap (λ l. map word l) (are ∙ rw (long, here) (first_chunks-front 4 moves (drop (16 + pilots) bytes)))
    ∙ ap (λ k. map word (first_chunks 4 k (drop (16 + pilots) bytes))) same_moves ∙ ap (λ k. map word (first_chunks 4 (move_count bytes) (drop (16 + k) bytes))) same

pub records-read : (bytes rest back : List ℕ) (size : ℕ) → size ≡ index_size bytes → rest ≡ drop 16 bytes → back ≡ drop size rest → back ≡ records_in bytes
records-read bytes rest back size same is last =
    last ∙ ap (λ l. drop size l) is ∙ drop-drop size 16 bytes ∙ ap (λ k. drop (16 + k) bytes) same
