-- The place of the first element of a list that passes.
use Rattle.std.proofs.Common.{◌≡◌, ◌+◌, ◌<◌, ◌≤◌, ℕ, zero, suc, inl, inr, Bool, true, false, Option, Some, None, List, [], ◌∷◌, length, get_or, take, drop, min, position, arith, rules, length-take, ◌≢◌, ◌==◌, ◌-◌, ◌↔◌, ◌++◌, refl, sym, ap, ◌∙◌}
use Rattle.std.specs.List.{position_or_len, All, AllPairs, Contains, after_first, before_first, slice_get}
use Rattle.std.proofs.lemmas.Bool.{cases_lt, false_from_ne_true, false≢true}
use Rattle.std.proofs.lemmas.Bool.Decides.{nat_tests, Decides-eqb}
use Rattle.std.proofs.lemmas.List.{length-drop, get_or-take, get_or_default, length-append, take_all}
use Rattle.std.proofs.lemmas.List.Sums.{fails_before_first, position_or_len_is, passes_at_first, split_at_first}
use Rattle.std.specs.Option.{IsSome}
use Rattle.std.specs.Str.{bytes_eq}
use Rattle.std.proofs.Math.Seq.{get_or-append_seam}
use Rattle.std.proofs.lemmas.Option.{get_or_from_slice_get, slice_get-get_or, slice_get_within}
use Rattle.std.proofs.lemmas.Slice.Eq.{bytes_eq-Decides}

-- ---- the index of the first element of a list that passes, also in a prefix and after one

-- where none is first, none passes
pub position-None-fails : (p : ℕ → Bool) (xs : List ℕ) → position p xs ≡ None → (k : ℕ) → k < length xs → p (get_or xs k 0) ≡ false
position-None-fails p xs none k inside = elim (cases_lt (position_or_len p xs) (length xs)) [
  | inl some ↦ absurd (grind (arith, nat_tests))
  | inr outside ↦ fails_before_first p xs k 0 (omega arith)
]

-- where none passes, none is first
pub position-None : (p : ℕ → Bool) (xs : List ℕ) → ((k : ℕ) → k < length xs → p (get_or xs k 0) ≡ false) → position p xs ≡ None
position-None p xs fails =
    let end : position_or_len p xs ≡ length xs = position_or_len_is p xs (length xs) 0 (omega arith) fails (λ inside. absurd (omega arith)) in
    grind (arith, nat_tests)

-- one that passes, after others that do not
pub position-at : (p : ℕ → Bool) (xs : List ℕ) (i : ℕ) → i < length xs → ((k : ℕ) → k < i → p (get_or xs k 0) ≡ false) → p (get_or xs i 0) ≡ true → position p xs ≡ Some i
position-at p xs i inside before here =
    let at : position_or_len p xs ≡ i = position_or_len_is p xs i 0 (omega arith) before (λ _. here) in
    grind (arith, nat_tests)

-- ---- in a prefix, and after one

-- in a prefix of a list, or at its end
pub position_or_len-take : (p : ℕ → Bool) (n : ℕ) (xs : List ℕ) → position_or_len p (take n xs) ≡ min n (position_or_len p xs)
position_or_len-take p zero xs = search rules
position_or_len-take p (suc n) [] = search rules
position_or_len-take p (suc n) (x ∷ xs) = grind (arith, nat_tests, position_or_len-take p n xs)

-- where none of the first n passes, n more than its index in the rest
pub position_or_len-drop : (p : ℕ → Bool) (n : ℕ) (xs : List ℕ) → n ≤ position_or_len p xs → position_or_len p xs ≡ n + position_or_len p (drop n xs)
position_or_len-drop p zero xs le = search rules
position_or_len-drop p (suc n) [] le = absurd (omega arith)
position_or_len-drop p (suc n) (x ∷ xs) le = grind (arith, nat_tests, position_or_len-drop p n xs)

-- what passes first in a prefix passes first in the whole
pub position-front : (p : ℕ → Bool) (t : List ℕ) (m i : ℕ) → position p (take m t) ≡ Some i → position p t ≡ Some i
position-front p t m i at = grind (arith, nat_tests, position_or_len-take p m t, length-take m t, at)

-- in a prefix that has it, or is all
pub position-first : (p : ℕ → Bool) (t : List ℕ) (m : ℕ) (r : Option ℕ) → r ≡ position p (take m t) → (r ≡ None → length t ≤ m) → r ≡ position p t
position-first p t m None at whole = grind (arith, nat_tests, position_or_len-take p m t, length-take m t, at, whole)
position-first p t m (Some i) at whole = grind (arith, nat_tests, position_or_len-take p m t, length-take m t, at)

-- in a prefix after n that do not pass
pub position-after : (p : ℕ → Bool) (t : List ℕ) (n m i : ℕ) → position p (take n t) ≡ None → position p (take m (drop n t)) ≡ Some i → position p t ≡ Some (n + i)
position-after p t n m i none at =
    grind (arith, nat_tests, position_or_len-take p n t, length-take n t, position_or_len-drop p n t, position_or_len-take p m (drop n t), length-take m (drop n t), length-drop n t, none, at)

-- and where it has none either
pub position-none_after : (p : ℕ → Bool) (t : List ℕ) (n m : ℕ) → position p (take n t) ≡ None → position p (take m (drop n t)) ≡ None → position p (take (n + m) t) ≡ None
position-none_after p t n m none more =
    grind (arith, nat_tests, position_or_len-take p (n + m) t, length-take (n + m) t, position_or_len-take p n t, length-take n t, position_or_len-drop p n t, position_or_len-take p m (drop n t), length-take m (drop n t), length-drop n t, none, more)

-- ---- which element of a list `position` finds, for a test that only one value passes

-- the place of the first that passes, which is found exactly where it is inside
position-inside : {X : Type 0} (p : X → Bool) (xs : List X) (i : ℕ) → position p xs ≡ Some i → (position_or_len p xs ≡ i) × (i < length xs)
position-inside p xs i at = (grind (arith, nat_tests), grind (arith, nat_tests))

position-some : {X : Type 0} (p : X → Bool) (xs : List X) → position_or_len p xs < length xs → position p xs ≡ Some (position_or_len p xs)
position-some p xs inside = grind (arith, nat_tests)

position-none : {X : Type 0} (p : X → Bool) (xs : List X) → length xs ≤ position_or_len p xs → position p xs ≡ None
position-none p xs outside = grind (arith, nat_tests)

-- an element of the list is at a place before which none passes
position_or_len-inside : {X : Type 0} (p : X → Bool) (x : X) (xs : List X) → p x ≡ true → Contains xs x → position_or_len p xs < length xs
position_or_len-inside p x xs passes (k, inside, is) = elim (cases_lt k (position_or_len p xs)) [
  | inl before ↦ absurd (false≢true (sym (fails_before_first p xs k x before) ∙ (ap p is ∙ passes)))
  | inr from ↦ omega arith
]

-- ---- a text among texts

pub text_position-at : (t : List ℕ) (ts : List (List ℕ)) (i : ℕ) → position (bytes_eq t) ts ≡ Some i → slice_get ts i ≡ Some t
text_position-at t ts i at =
    let h = position-inside (bytes_eq t) ts i at in
    let same : t ≡ get_or ts i [] = (bytes_eq-Decides t (get_or ts i [])).0 (ap (λ k. bytes_eq t (get_or ts k [])) (sym h.0) ∙ passes_at_first (bytes_eq t) ts [] (omega (arith, h.0, h.1))) in
    slice_get-get_or ts i [] h.1 ∙ ap Some (sym same)

Contains-slice_get : (ts : List (List ℕ)) (t : List ℕ) (i : ℕ) → slice_get ts i ≡ Some t → Contains ts t
Contains-slice_get ts t i at = (i, slice_get_within ts i t at, get_or_from_slice_get ts i t t at)

passes_itself : (t : List ℕ) → bytes_eq t t ≡ true
passes_itself t = (bytes_eq-Decides t t).1 refl

pub text_position-some : (t : List ℕ) (ts : List (List ℕ)) → IsSome (position (bytes_eq t) ts) ↔ Contains ts t
text_position-some t ts = (
  λ some. elim (cases_lt (position_or_len (bytes_eq t) ts) (length ts)) [
    | inl inside ↦ Contains-slice_get ts t (position_or_len (bytes_eq t) ts) (text_position-at t ts (position_or_len (bytes_eq t) ts) (position-some (bytes_eq t) ts inside))
    | inr outside ↦ (let none = position-none (bytes_eq t) ts outside in absurd (grind arith))
  ],
  λ has. let some = position-some (bytes_eq t) ts (position_or_len-inside (bytes_eq t) t ts (passes_itself t) has) in grind arith,
)

pub text_position-none : (t : List ℕ) (ts : List (List ℕ)) → (position (bytes_eq t) ts ≡ None) ↔ ¬ Contains ts t
text_position-none t ts = (
  λ none has. let some = position-some (bytes_eq t) ts (position_or_len-inside (bytes_eq t) t ts (passes_itself t) has) in cc,
  λ other. elim (cases_lt (position_or_len (bytes_eq t) ts) (length ts)) [
    | inl inside ↦ absurd (other (Contains-slice_get ts t (position_or_len (bytes_eq t) ts) (text_position-at t ts (position_or_len (bytes_eq t) ts) (position-some (bytes_eq t) ts inside))))
    | inr outside ↦ position-none (bytes_eq t) ts outside
  ],
)

-- where no two texts are equal, each is found at its own place
pub text_position-distinct : (t : List ℕ) (ts : List (List ℕ)) (i : ℕ) → AllPairs (λ a b. a ≢ b) ts → slice_get ts i ≡ Some t → position (bytes_eq t) ts ≡ Some i
text_position-distinct t ts i distinct at =
    let inside = slice_get_within ts i t at in
    let same : (d : List ℕ) → get_or ts i d ≡ t = λ d. get_or_from_slice_get ts i t d at in
    let other : (k : ℕ) → k < i → bytes_eq t (get_or ts k []) ≡ false = λ k before. false_from_ne_true (bytes_eq t (get_or ts k [])) (λ equal. distinct k i [] before inside (sym ((bytes_eq-Decides t (get_or ts k [])).0 equal) ∙ sym (same []))) in
    let is = position_or_len_is (bytes_eq t) ts i [] (omega arith) other (λ _. (bytes_eq-Decides t (get_or ts i [])).1 (sym (same []))) in
    position-some (bytes_eq t) ts (omega (arith, is)) ∙ ap Some is

-- ---- a byte among bytes

passes_own : (c : ℕ) → (c == c) ≡ true
passes_own c = grind (arith, nat_tests)

Contains-place : (c : ℕ) (t : List ℕ) → position_or_len (λ b. b == c) t < length t → Contains t c
Contains-place c t inside =
    let i = position_or_len (λ b. b == c) t in
    let is : get_or t i c ≡ c = (Decides-eqb (get_or t i c) c).0 (passes_at_first (λ b. b == c) t c inside) in
    (i, inside, is)

pub byte_position-some : (c : ℕ) (t : List ℕ) → IsSome (position (λ b. b == c) t) ↔ Contains t c
byte_position-some c t = (
  λ some. elim (cases_lt (position_or_len (λ b. b == c) t) (length t)) [
    | inl inside ↦ Contains-place c t inside
    | inr outside ↦ (let none = position-none (λ b. b == c) t outside in absurd (grind arith))
  ],
  λ has. let some = position-some (λ b. b == c) t (position_or_len-inside (λ b. b == c) c t (passes_own c) has) in grind arith,
)

pub byte_position-none : (c : ℕ) (t : List ℕ) → (position (λ b. b == c) t ≡ None) ↔ ¬ Contains t c
byte_position-none c t = (
  λ none has. let some = position-some (λ b. b == c) t (position_or_len-inside (λ b. b == c) c t (passes_own c) has) in cc,
  λ other. elim (cases_lt (position_or_len (λ b. b == c) t) (length t)) [
    | inl inside ↦ absurd (other (Contains-place c t inside))
    | inr outside ↦ position-none (λ b. b == c) t outside
  ],
)

-- a list that has a byte is the bytes before the first such byte, this byte, and the bytes after it
pub split-whole : (c : ℕ) (t : List ℕ) → Contains t c → t ≡ before_first (λ b. b == c) t ++ c ∷ after_first (λ b. b == c) t
split-whole c t has =
    let p : ℕ → Bool = λ b. b == c in
    let inside = position_or_len-inside p c t (passes_own c) has in
    let is : get_or t (position_or_len p t) c ≡ c = (Decides-eqb (get_or t (position_or_len p t) c) c).0 (passes_at_first p t c inside) in
    split_at_first p t c inside ∙ ap (λ d. before_first p t ++ (d ∷ after_first p t)) is

-- no byte before the first is such a byte
pub before_first-absent : (c : ℕ) (t : List ℕ) → ¬ Contains (before_first (λ b. b == c) t) c
before_first-absent c t (k, inside, is) =
    let p : ℕ → Bool = λ b. b == c in
    let n = position_or_len p t in
    let early : k < n = omega (arith, length-take n t) in
    let here : get_or t k c ≡ c = sym (get_or-take n t k c early) ∙ is in
    false≢true (sym (fails_before_first p t k c early) ∙ (ap p here ∙ passes_own c))

pub All-absent : (c : ℕ) (t : List ℕ) → ¬ Contains t c → All (λ b. b ≢ c) t
All-absent c t none = λ k d inside e. none (k, inside, get_or_default t k c d inside ∙ e)

-- two lists joined by a byte have it
pub Contains-joined : (c : ℕ) (t s : List ℕ) → Contains (t ++ c ∷ s) c
Contains-joined c t s = (length t, omega (arith, length-append t (c ∷ s)), get_or-append_seam t c s c)

-- the parts around the first such byte, by its place
pub place-inside : (c : ℕ) (t : List ℕ) (at : ℕ) → position (λ b. b == c) t ≡ Some at → at < length t
place-inside c t at is = (position-inside (λ b. b == c) t at is).1

pub before-place : (c : ℕ) (t : List ℕ) (at : ℕ) → position (λ b. b == c) t ≡ Some at → take at t ≡ before_first (λ b. b == c) t
before-place c t at is = rw (position-inside (λ b. b == c) t at is).0 refl

pub after-place : (c : ℕ) (t : List ℕ) (at : ℕ) → position (λ b. b == c) t ≡ Some at → take (length t - (at + 1)) (drop (at + 1) t) ≡ after_first (λ b. b == c) t
after-place c t at is = take_all (length t - (at + 1)) (drop (at + 1) t) (omega (arith, length-drop (at + 1) t)) ∙ rw (position-inside (λ b. b == c) t at is).0 refl

pub whole-place : (c : ℕ) (t : List ℕ) (at : ℕ) → position (λ b. b == c) t ≡ Some at → t ≡ take at t ++ c ∷ take (length t - (at + 1)) (drop (at + 1) t)
whole-place c t at is = rw (before-place c t at is, after-place c t at is) (split-whole c t ((byte_position-some c t).0 (rw is refl)))

pub absent-place : (c : ℕ) (t : List ℕ) (at : ℕ) → position (λ b. b == c) t ≡ Some at → ¬ Contains (take at t) c
absent-place c t at is = rw (before-place c t at is) (before_first-absent c t)

pub ruleset split_bytes = (place-inside, before-place, after-place, whole-place)
