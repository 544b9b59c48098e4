-- The lines and the output of an input, from its first line on, and what is written of it.
use Rattle.std.proofs.Common.{◌≡◌, ℕ, inl, inr, List, [], ◌∷◌, ◌++◌, ◌<◌, length, refl, ap, sym, ◌∙◌, arith, append-nil, append_assoc, length-append, take_all, drop_of_length-le, ◌-◌, Option, Ok, Err, Result, OnErr, take, drop, take-append-drop, subst}
use Rattle.std.specs.List.{before_first, after_first, position_or_len, flat_map, slice_split}
use Rattle.std.proofs.lemmas.Bool.{cases_lt}
use Rattle.std.proofs.lemmas.Grind.{common_steps}
use Rattle.std.proofs.lemmas.Bool.Decides.{nat_tests}
use Rattle.std.proofs.lemmas.List.Sums.{fails_before_first}
use Rattle.std.proofs.lemmas.List.Concat.{flat_map-append}
use Rattle.std.proofs.lemmas.List.Splits.{slice_split_first, slice_split_none, length-slice_split}
use Rattle.tinystr_lines.specs.Reply.{reply, is_line_feed, without_empty_last, lines_of, reply_line, output_of, AppendsBeginning}
use Rattle.std.proofs.Math.Seq.{take-append_seam}
use Rattle.std.proofs.lemmas.List.{take_rest}
use Rattle.std.proofs.KnownBytes.{Appends-trans, Appends-kept}
use Rattle.std.specs.Io.KnownBytes.{Appends, Keeps, WriteAppends}

-- ---- the lines and the output of an input, from its first line on

-- the first line of an input, and those of what follows it
lines_of-first : (input : List ℕ) → 0 < length input → lines_of input ≡ before_first is_line_feed input ∷ lines_of (after_first is_line_feed input)
lines_of-first input some = elim (cases_lt (position_or_len is_line_feed input) (length input)) [
  | inl fed ↦
      let more = length-slice_split is_line_feed (after_first is_line_feed input) in
      rw (slice_split_first is_line_feed input 0 fed) (grind arith)
  | inr unfed ↦
      let none = slice_split_none is_line_feed input (λ k d below. fails_before_first is_line_feed input k d (omega arith)) in
      let before = take_all _ input unfed in
      let after : after_first is_line_feed input ≡ [] = drop_of_length-le input (omega arith) in
      rw (none, before, after) (grind (arith, nat_tests))
]

-- the reply to the first line, and then the output of what follows it
pub output_of-first : (input : List ℕ) → 0 < length input → output_of input ≡ reply_line (before_first is_line_feed input) ++ output_of (after_first is_line_feed input)
unfolding output_of
output_of-first input some = ap (flat_map reply_line) (lines_of-first input some)

-- no input has no output
pub output_of-none : (input : List ℕ) → length input ≡ 0 → output_of input ≡ []
unfolding output_of
output_of-none [] _ = refl
output_of-none (b ∷ bs) none = absurd (omega arith)

-- the pieces on both sides of a line feed
slice_split-append : (xs more : List ℕ) → slice_split is_line_feed ((xs ++ 10 ∷ []) ++ more) ≡ slice_split is_line_feed xs ++ slice_split is_line_feed more
slice_split-append [] more = refl
slice_split-append (x ∷ xs) more =
    let pieces = length-slice_split is_line_feed xs in
    grind (arith, nat_tests, pieces, slice_split-append xs more)

-- the last piece is the last of what follows
without_empty_last-append : (a b : List (List ℕ)) → 0 < length b → without_empty_last (a ++ b) ≡ a ++ without_empty_last b
without_empty_last-append [] b some = refl
without_empty_last-append (x ∷ []) [] some = absurd (omega arith)
without_empty_last-append (x ∷ []) (y ∷ b) some = refl
without_empty_last-append (x ∷ y ∷ a) b some = ap (λ (l : List (List ℕ)). x ∷ l) (without_empty_last-append (y ∷ a) b some)

-- the lines of what ends with a line feed, and then of what follows it
lines_of-append : (xs more : List ℕ) → lines_of ((xs ++ 10 ∷ []) ++ more) ≡ slice_split is_line_feed xs ++ lines_of more
lines_of-append xs more =
    let pieces = length-slice_split is_line_feed more in
    rw (slice_split-append xs more) (without_empty_last-append (slice_split is_line_feed xs) (slice_split is_line_feed more) (omega (arith, pieces)))

-- what ends with a line feed, and what follows it
pub output_of-append : (xs more : List ℕ) → output_of ((xs ++ 10 ∷ []) ++ more) ≡ output_of (xs ++ 10 ∷ []) ++ output_of more
unfolding output_of
output_of-append xs more =
    let whole : lines_of (xs ++ 10 ∷ []) ≡ slice_split is_line_feed xs =
    ap lines_of (sym (append-nil (xs ++ 10 ∷ []))) ∙ lines_of-append xs [] ∙ append-nil (slice_split is_line_feed xs) in
    rw (lines_of-append xs more, flat_map-append reply_line (slice_split is_line_feed xs) (lines_of more), whole) refl

-- the output of what was begun and of a piece, from the piece's last line on
pub output_of-piece : (begun piece lines rest head more : List ℕ) → lines ≡ head ++ 10 ∷ [] → piece ≡ lines ++ rest
    → output_of ((begun ++ piece) ++ more) ≡ output_of (begun ++ lines) ++ output_of (rest ++ more)
output_of-piece begun piece lines rest head more ends parts =
    let whole : (begun ++ ((head ++ 10 ∷ []) ++ rest)) ++ more ≡ ((begun ++ head) ++ 10 ∷ []) ++ (rest ++ more) = simp append_assoc in
    let front : begun ++ (head ++ 10 ∷ []) ≡ (begun ++ head) ++ 10 ∷ [] = simp append_assoc in
    rw (parts, ends, whole, front) (output_of-append (begun ++ head) (rest ++ more))

-- an input that isn't empty has an output
pub length-output_of : (input : List ℕ) → 0 < length input → 0 < length (output_of input)
unfolding reply_line
length-output_of input some =
    rw (output_of-first input some, length-append (reply (before_first is_line_feed input) ++ 10 ∷ []) (output_of (after_first is_line_feed input)), length-append (reply (before_first is_line_feed input)) (10 ∷ [])) (omega arith)

-- ---- what is written of some bytes, and the remainder of them

-- all the bytes but the rest are written
abbrev pub AllBut : Option (List ℕ) → Option (List ℕ) → List ℕ → List ℕ → Type 0
AllBut a b bytes rest = (done : List ℕ) × (bytes ≡ done ++ rest) × Appends a b done

-- n more bytes are written
pub AllBut-more : (a b c : Option (List ℕ)) (bytes rest : List ℕ) (n : ℕ) → Appends b c (take n rest) → AllBut a b bytes rest → AllBut a c bytes (take (length rest - n) (drop n rest))
AllBut-more a b c bytes rest n piece (done, split, appended) =
    (done ++ take n rest, rw take_rest (rw append_assoc (rw take-append-drop split)), Appends-trans a b c done (take n rest) appended piece)

-- what is done is a beginning of the bytes
AppendsBeginning-from_AllBut : (a b : Option (List ℕ)) (bytes rest : List ℕ) → AllBut a b bytes rest → AppendsBeginning a b bytes
AppendsBeginning-from_AllBut a b bytes rest (done, split, appended) = (length done, subst (Appends a b) (sym (ap (take (length done)) split ∙ take-append_seam done rest)) appended)

-- a write that took some bytes or failed leaves a beginning
pub AppendsBeginning-from_write : {E : Type 0} (a b c : Option (List ℕ)) (bytes rest : List ℕ) (r : Result ℕ E) → WriteAppends b c r rest → AllBut a b bytes rest → AppendsBeginning a c bytes
AppendsBeginning-from_write a b c bytes rest (Ok n) piece all_but = AppendsBeginning-from_AllBut a c bytes _ (AllBut-more a b c bytes rest n piece all_but)
AppendsBeginning-from_write a b c bytes rest (Err e) kept (done, split, appended) = AppendsBeginning-from_AllBut a c bytes rest (done, split, Appends-kept a b c done appended kept)

-- a flush that failed leaves a beginning
pub AppendsBeginning-from_flush : {T E : Type 0} (a b c : Option (List ℕ)) (bytes rest : List ℕ) (r : Result T E) → Keeps b c → AllBut a b bytes rest → OnErr r (AppendsBeginning a c bytes)
AppendsBeginning-from_flush a b c bytes rest (Ok v) kept all_but = tt
AppendsBeginning-from_flush a b c bytes rest (Err e) kept all_but = AppendsBeginning-from_write a b c bytes rest (Err e) kept all_but

pub ruleset output_steps = (nat_tests, common_steps, output_of-first, output_of-none)
