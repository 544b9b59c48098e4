-- Texts that begin with a text.
use Rattle.std.proofs.Common.{◌≡◌, ◌≢◌, ℕ, suc, zero, ◌+◌, ◌-◌, ◌<◌, ◌≤◌, Bool, true, false, ◌&&◌, List, [], ◌∷◌, ◌++◌, length, map, take, drop, get_or, refl, sym, ap, ◌∙◌, arith, rules, nat_eq, inl, inr}
use Rattle.std.specs.List.{starts_with, filter, zip, All}
use Rattle.std.specs.List.Sorted.{IsPartitionedBy, IsPartitionPoint}
use Rattle.std.specs.Map.{keys_of}
use Rattle.std.specs.Ordering.{nat_cmp}
use Rattle.std.proofs.lemmas.Slice.Eq.{bytes_eq-Decides}
use Rattle.std.specs.declared.cmp.Ordering.TheVariants.{Less, Equal, Greater}
use Rattle.std.proofs.lemmas.Bool.{and_parts, cases_lt, false_from_ne_true, false≢true}
use Rattle.std.proofs.lemmas.Bool.Decides.{nat_tests}
use Rattle.std.proofs.lemmas.List.{get_or-drop, get_or-map, get_or-take, get_or_default, append-nil, length-drop, length-map, length-take, length-take-le, places, same_lists, take-append-drop}
use Rattle.std.proofs.lemmas.List.Elements.{filter-append, All-head, All-tail}
use Rattle.std.proofs.lemmas.Map.Entries.{length-keys_of}
use Rattle.std.proofs.lemmas.Map.Made.{keys_of-zip}
use Rattle.std.proofs.lemmas.Slice.Zip.{get_or-zip, length-zip}
use Rattle.tinystr_words.specs.Text.{IsTextByte, IsText, IsStrictText, IsPaddedText, pad, text_of}
use Rattle.tinystr_words.proofs.Order.OfPadded.{cmp-IsPaddedText}
use Rattle.tinystr_words.proofs.Texts.{NULS, length-pad, text_of-pad, IsPaddedText-pad}
use Rattle.tinystr_packed.specs.Private.{AreRisingRecords, BeginAlike}
use Rattle.tinystr_packed.specs.Rising.{order, text_at, IsRising, IsFirstNotBelow, IsPrefixRange}
use Rattle.tinystr_packed.proofs.RisingTexts.{IsRecordOf-at, IsRecord-padded, raised, below_from_rising, not_above}

abbrev pub begins : List ℕ → List ℕ → Bool
begins p t = starts_with nat_eq t p

-- a text with NULs after it begins with the same texts
begins-nuls : (p t : List ℕ) (k : ℕ) → IsText p → begins p (t ++ NULS k) ≡ begins p t
begins-nuls [] t k h = refl
begins-nuls (x ∷ p) [] zero h = refl
begins-nuls (x ∷ p) [] (suc k) h =
    let char = All-head IsTextByte x p h in
    let other : nat_eq x 0 ≡ false = grind (arith, nat_tests) in
    rw other refl
begins-nuls (x ∷ p) (y ∷ t) k h = ap (λ (b : Bool). nat_eq x y && b) (begins-nuls p t k (All-tail IsTextByte x p h))

begins-padded : (p raw : List ℕ) (n : ℕ) → IsText p → IsPaddedText raw n → begins p raw ≡ begins p (text_of raw)
begins-padded p raw n h k = ap (λ (l : List ℕ). begins p l) k.padded ∙ begins-nuls p (text_of raw) (n - length (text_of raw)) h

-- a text that begins with p isn't below p
not_below_beginning : (p t : List ℕ) → begins p t ≡ true → order t p ≢ Less
not_below_beginning [] [] h less = cc
not_below_beginning [] (y ∷ t) h less = cc
not_below_beginning (x ∷ p) [] h less = cc
not_below_beginning (x ∷ p) (y ∷ t) h less =
    let parts = and_parts (nat_eq x y) (begins p t) h in
    let same : y ≡ x = grind (arith, nat_tests, parts.0) in
    let tie : nat_cmp x x ≡ Equal = grind (arith, nat_tests) in
    not_below_beginning p t parts.1 (rw (same, tie) at less)

-- between p and a text that begins with p all begin with p
begins-between : (p t s : List ℕ) → order t p ≢ Less → order t s ≢ Greater → begins p s ≡ true → begins p t ≡ true
begins-between [] t s low high h = refl
begins-between (x ∷ p) t [] low high h = absurd (false≢true h)
begins-between (x ∷ p) [] (y ∷ s) low high h = absurd (low refl)
begins-between (x ∷ p) (z ∷ t) (y ∷ s) low high h =
    let parts = and_parts (nat_eq x y) (begins p s) h in
    let same : y ≡ x = grind (arith, nat_tests, parts.0) in
    elim (cases_lt z x) [
      | inl less ↦ (let e : nat_cmp z x ≡ Less = grind (arith, nat_tests) in absurd (low (rw e refl)))
      | inr others ↦ elim (cases_lt x z) [
        | inl more ↦ (let e : nat_cmp z y ≡ Greater = grind (arith, nat_tests) in absurd (high (rw e refl)))
        | inr rest ↦ (let tied : z ≡ x = omega arith in
            let tie : nat_cmp x x ≡ Equal = grind (arith, nat_tests) in
            let one : nat_eq x x ≡ true = grind (arith, nat_tests) in
            rw (tied, one) (begins-between p t s (λ less. low (rw (tied, tie) less)) (λ above. high (rw (tied, same, tie) above)) parts.1))
      ]
    ]

-- ---- among strictly ascending texts

begins-text : (records ts : List (List ℕ)) (p d : List ℕ) (n k : ℕ) → All (λ r. IsPaddedText r n) records → map text_of records ≡ ts → IsText p → k < length records → begins p (get_or records k d) ≡ begins p (text_at ts k)
begins-text records ts p d n k h view text inside =
    let here = IsRecordOf-at records ts (get_or records k d) n k h view inside (get_or_default records k d [] inside) in
    begins-padded p (get_or records k d) n text here.padded ∙ ap (λ (l : List ℕ). begins p l) here.text

-- from the first text that isn't below p on, those that begin with p are the first ones
pub IsPartitionedBy-begins : (records rest ts : List (List ℕ)) (p : List ℕ) (n i : ℕ) → All (λ r. IsPaddedText r n) records → map text_of records ≡ ts → IsText p → IsRising ts → IsFirstNotBelow p ts i → rest ≡ drop i records → IsPartitionedBy (begins p) rest
IsPartitionedBy-begins records rest ts p n i h view text up first cut j k d le inside here =
    let long : length records ≡ length ts = rw (← view) (sym (length-map records text_of)) in
    let within : i + k < length records = omega (arith, ap (λ (l : List (List ℕ)). length l) cut, length-drop i records) in
    let far : begins p (text_at ts (i + k)) ≡ true = sym (begins-text records ts p d n (i + k) h view text within) ∙ (rw (cut, get_or-drop) at here) in
    let near = begins-between p (text_at ts (i + j)) (text_at ts (i + k)) (first.not_below (i + j) (omega arith) (omega arith)) (not_above ts (i + j) (i + k) up (omega arith) (omega arith)) far in
    rw (cut, get_or-drop) (begins-text records ts p d n (i + j) h view text (omega arith) ∙ near)

-- no record is below the padded text from its place on
pub IsFirstNotBelow-rest : (records rest ts : List (List ℕ)) (p : List ℕ) (n i : ℕ) → All (λ r. IsPaddedText r n) records → map text_of records ≡ ts → IsStrictText p n → IsFirstNotBelow p ts i → rest ≡ drop i records → IsFirstNotBelow (pad p n) rest 0
IsFirstNotBelow-rest records rest ts p n i h view strict first cut = record {
  inside = omega arith;
  below = λ k before. absurd (omega arith);
  not_below = λ k from inside.
      let within : i + k < length records = omega (arith, ap (λ (l : List (List ℕ)). length l) cut, length-drop i records) in
      let here = IsRecordOf-at records ts (text_at records (i + k)) n (i + k) h view within refl in
      let padded = IsPaddedText-pad p n strict in
      let same : order (text_at records (i + k)) (pad p n) ≡ order (text_at ts (i + k)) p =
      cmp-IsPaddedText (text_at records (i + k)) (pad p n) n here.padded padded (IsRecord-padded (text_at records (i + k)) n here.padded).long (length-pad p n strict.fits) ∙ rw (here.text, text_of-pad p n strict.text) refl in
      rw (cut, get_or-drop) (λ less. first.not_below (i + k) (omega arith) here.inside (sym same ∙ less));
}

-- what the first and the last begin with, all do
pub BeginAlike-ends : (records : List (List ℕ)) (key : List ℕ) (n : ℕ) → IsRising records → n ≤ length key → 0 < length records
    → take n (text_at records 0) ≡ take n key → take n (text_at records (length records - 1)) ≡ take n key → BeginAlike n key records
BeginAlike-ends records key n up fits some first last = record {
  each = λ k inside.
      let p = take n key in
      let long : length p ≡ n = length-take-le n key fits in
      let head : begins p (text_at records 0) ≡ true = (bytes_eq-Decides p (take (length p) (text_at records 0))).1 (rw long (sym first)) in
      let end : begins p (text_at records (length records - 1)) ≡ true = (bytes_eq-Decides p (take (length p) (text_at records (length records - 1)))).1 (rw long (sym last)) in
      let low : order (text_at records k) p ≢ Less = λ less. not_below_beginning p (text_at records 0) head (below_from_rising records p 0 k up (omega arith) inside less) in
      let high = not_above records k (length records - 1) up (omega arith) (omega arith) in
      let all = begins-between p (text_at records k) (text_at records (length records - 1)) low high end in
      sym (rw long at ((bytes_eq-Decides p (take (length p) (text_at records k))).0 all));
}

-- ---- the record above all that begin with a text

-- raised where a text has a byte, it is above what begins with the text
below_raised : (p t : List ℕ) (k i : ℕ) → i < length p → begins p t ≡ true → order t (raised (p ++ NULS k) i) ≡ Less
below_raised [] t k i inside h = absurd (omega arith)
below_raised (x ∷ p) [] k i inside h = absurd (false≢true h)
below_raised (x ∷ p) (y ∷ t) k zero inside h =
    let parts = and_parts (nat_eq x y) (begins p t) h in
    let same : y ≡ x = grind (arith, nat_tests, parts.0) in
    let less : nat_cmp y (x + 1) ≡ Less = grind (arith, nat_tests) in
    rw less refl
below_raised (x ∷ p) (y ∷ t) k (suc i) inside h =
    let parts = and_parts (nat_eq x y) (begins p t) h in
    let same : y ≡ x = grind (arith, nat_tests, parts.0) in
    let tie : nat_cmp x x ≡ Equal = grind (arith, nat_tests) in
    rw (same, tie) (below_raised p t k i (omega arith) parts.1)

-- no record is below NULs
not_below_nuls : (t : List ℕ) (k : ℕ) → length t ≡ k → order t (NULS k) ≢ Less
not_below_nuls [] zero long less = cc
not_below_nuls [] (suc k) long less = absurd (omega arith)
not_below_nuls (y ∷ t) zero long less = absurd (omega arith)
not_below_nuls (y ∷ t) (suc k) long less = elim (cases_lt 0 y) [
  | inl more ↦ (let e : nat_cmp y 0 ≡ Greater = grind (arith, nat_tests) in let no = rw e at less in cc)
  | inr none ↦ (let same : y ≡ 0 = omega arith in not_below_nuls t k (omega arith) (rw same at less))
]

-- raised at the text's last byte, it is above nothing else that isn't below the text
begins-below_raised : (p t : List ℕ) (k i : ℕ) → length p ≡ i + 1 → length t ≡ length p + k → order t (p ++ NULS k) ≢ Less → order t (raised (p ++ NULS k) i) ≡ Less → begins p t ≡ true
begins-below_raised [] t k i last long low less = absurd (omega arith)
begins-below_raised (x ∷ p) [] k i last long low less = absurd (omega arith)
begins-below_raised (x ∷ y ∷ p) (z ∷ t) k zero last long low less = absurd (omega arith)
begins-below_raised (x ∷ []) (z ∷ t) k zero last long low less =
    elim (cases_lt z x) [
      | inl fewer ↦ (let e : nat_cmp z x ≡ Less = grind (arith, nat_tests) in absurd (low (rw e refl)))
      | inr others ↦ elim (cases_lt x z) [
        | inl more ↦ elim (cases_lt (x + 1) z) [
          | inl above ↦ (let e : nat_cmp z (x + 1) ≡ Greater = grind (arith, nat_tests) in let no = rw e at less in cc)
          | inr rest ↦ (let next : z ≡ x + 1 = omega arith in
              let tie : nat_cmp (x + 1) (x + 1) ≡ Equal = grind (arith, nat_tests) in
              absurd (not_below_nuls t k (omega arith) (rw (next, tie) at less)))
        ]
        | inr rest ↦ (let same : nat_eq x z ≡ true = grind (arith, nat_tests) in rw same refl)
      ]
    ]
begins-below_raised (x ∷ p) (z ∷ t) k (suc i) last long low less =
    elim (cases_lt z x) [
      | inl fewer ↦ (let e : nat_cmp z x ≡ Less = grind (arith, nat_tests) in absurd (low (rw e refl)))
      | inr others ↦ elim (cases_lt x z) [
        | inl more ↦ (let e : nat_cmp z x ≡ Greater = grind (arith, nat_tests) in let no = rw e at less in cc)
        | inr rest ↦ (let same : z ≡ x = omega arith in
            let tie : nat_cmp x x ≡ Equal = grind (arith, nat_tests) in
            let one : nat_eq x x ≡ true = grind (arith, nat_tests) in
            rw (same, one) (begins-below_raised p t k i (omega arith) (omega arith) (λ fewer. low (rw (same, tie) fewer)) (rw (same, tie) at less)))
      ]
    ]

-- so its place is after those that begin with the text
pub IsPartitionPoint-raised : (records : List (List ℕ)) (p : List ℕ) (n i m : ℕ) → AreRisingRecords n records → IsFirstNotBelow (pad p n) records 0 → length p ≡ i + 1 → length p ≤ n
    → IsFirstNotBelow (raised (pad p n) i) records m → IsPartitionPoint (λ r. begins p r ≡ true) (λ r. begins p r ≡ false) records m
IsPartitionPoint-raised records p n i m h low last fits found =
    let k = n - length p in (
      λ j d from before.
          let inside : j < length records = omega (arith, found.inside) in
          rw (get_or_default records j d [] inside) (begins-below_raised p (text_at records j) k i last (omega (arith, (h.each j inside).long)) (low.not_below j (omega arith) inside) (found.below j before)),
      λ j d after inside.
          rw (get_or_default records j d [] inside) (false_from_ne_true (begins p (text_at records j)) (λ yes. found.not_below j after inside (below_raised p (text_at records j) k i (omega arith) yes))),
    )

-- ---- what a filter keeps of a list of three parts

filter-none : {X : Type 0} (f : X → Bool) (xs : List X) (d : X) → ((k : ℕ) → k < length xs → f (get_or xs k d) ≡ false) → filter f xs ≡ []
filter-none f [] d h = refl
filter-none f (x ∷ xs) d h = let first : f x ≡ false = h 0 (omega arith) in rw first (filter-none f xs d (λ k below. h (suc k) (omega arith)))

filter-all : {X : Type 0} (f : X → Bool) (xs : List X) (d : X) → ((k : ℕ) → k < length xs → f (get_or xs k d) ≡ true) → filter f xs ≡ xs
filter-all f [] d h = refl
filter-all f (x ∷ xs) d h = let first : f x ≡ true = h 0 (omega arith) in rw first (ap (λ l. x ∷ l) (filter-all f xs d (λ k below. h (suc k) (omega arith))))

filter-middle : {X : Type 0} (f : X → Bool) (xs : List X) (d : X) (i m : ℕ) → ((k : ℕ) → k < i → k < length xs → f (get_or xs k d) ≡ false) → ((k : ℕ) → i ≤ k → k < i + m → k < length xs → f (get_or xs k d) ≡ true)
    → ((k : ℕ) → i + m ≤ k → k < length xs → f (get_or xs k d) ≡ false) → take m (drop i xs) ≡ filter f xs
filter-middle f xs d i m before inside after =
    let rest = drop i xs in
    let front = filter-none f (take i xs) d (λ k below. rw (get_or-take i xs k d (omega (arith, length-take i xs))) (before k (omega (arith, length-take i xs)) (omega (arith, length-take i xs)))) in
    let middle = filter-all f (take m rest) d (λ k below. rw (get_or-take m rest k d (omega (arith, length-take m rest)), get_or-drop) (inside (i + k) (omega arith) (omega (arith, length-take m rest)) (omega (arith, length-take m rest, length-drop i xs)))) in
    let back = filter-none f (drop m rest) d (λ k below. rw (get_or-drop, get_or-drop) (after (i + (m + k)) (omega arith) (omega (arith, length-drop m rest, length-drop i xs)))) in
    sym (ap (λ l. filter f l) (sym (take-append-drop i xs)) ∙ filter-append f (take i xs) rest
    ∙ rw front (ap (λ l. filter f l) (sym (take-append-drop m rest)) ∙ filter-append f (take m rest) (drop m rest) ∙ rw (middle, back) (append-nil (take m rest))))

-- ---- the texts that begin with p

pub IsPrefixRange-counted : (records rest ts : List (List ℕ)) (p : List ℕ) (n i m : ℕ) → All (λ r. IsPaddedText r n) records → map text_of records ≡ ts → IsText p → IsFirstNotBelow p ts i → rest ≡ drop i records
    → IsPartitionPoint (λ r. begins p r ≡ true) (λ r. begins p r ≡ false) rest m → m ≤ length rest → IsPrefixRange p ts i (i + m)
IsPrefixRange-counted records rest ts p n i m h view text first cut parts count =
    let long : length records ≡ length ts = rw (← view) (sym (length-map records text_of)) in
    let left : length rest ≡ length ts - i = omega (arith, ap (λ (l : List (List ℕ)). length l) cut, length-drop i records) in
    record {
      ordered = omega arith;
      inside = omega (arith, first.inside);
      before = λ k below. false_from_ne_true (begins p (text_at ts k)) (λ yes. not_below_beginning p (text_at ts k) yes (first.below k below));
      within = λ k from to.
          let place : i + (k - i) ≡ k = omega arith in
          sym (begins-text records ts p [] n k h view text (omega (arith, first.inside))) ∙ (rw (cut, get_or-drop, place) at (parts.0 (k - i) [] (omega arith) (omega arith)));
      behind = λ k from inside.
          let place : i + (k - i) ≡ k = omega arith in
          sym (begins-text records ts p [] n k h view text (omega arith)) ∙ (rw (cut, get_or-drop, place) at (parts.1 (k - i) [] (omega arith) (omega arith)));
    }

-- a filter keeps them
pub filter-texts : (p : List ℕ) (ts : List (List ℕ)) (i j : ℕ) → IsPrefixRange p ts i j → take (j - i) (drop i ts) ≡ filter (begins p) ts
filter-texts p ts i j h =
    filter-middle (begins p) ts [] i (j - i) (λ k below _. h.before k below) (λ k from to _. h.within k from (omega (arith, h.ordered))) (λ k from inside. h.behind k (omega (arith, h.ordered)) inside)

-- and the entries whose keys they are
filter-entries : (p : List ℕ) (es : List (List ℕ × List ℕ)) (ks : List (List ℕ)) (i j : ℕ) → ks ≡ keys_of es → IsPrefixRange p ks i j → take (j - i) (drop i es) ≡ filter (λ e. begins p e.0) es
filter-entries p es ks i j are h =
    let key : (k : ℕ) → k < length es → begins p (get_or es k ([], [])).0 ≡ begins p (text_at ks k) =
    λ k inside. ap (begins p) (sym (get_or-map (λ (e : List ℕ × List ℕ). e.0) es k ([], []) [] inside) ∙ ap (λ (l : List (List ℕ)). get_or l k []) (sym are)) in
    let long : length ks ≡ length es = ap (λ (l : List (List ℕ)). length l) are ∙ length-keys_of es in
    filter-middle (λ e. begins p e.0) es ([], []) i (j - i)
    (λ k below inside. key k inside ∙ h.before k below)
    (λ k from to inside. key k inside ∙ h.within k from (omega (arith, h.ordered)))
    (λ k from inside. key k inside ∙ h.behind k (omega (arith, h.ordered)) (omega arith))

-- a part of entries has a part of the keys and of the values
zip-part : (ks vs : List (List ℕ)) (i m : ℕ) → take m (drop i (zip ks vs)) ≡ zip (take m (drop i ks)) (take m (drop i vs))
zip-part ks vs i m =
    same_lists (take m (drop i (zip ks vs))) (zip (take m (drop i ks)) (take m (drop i vs))) (search (rules, places, length-zip)) (λ k d inside. grind (arith, places, length-zip, get_or-zip))

pub filter-zip : (p : List ℕ) (ks vs : List (List ℕ)) (es : List (List ℕ × List ℕ)) (i j : ℕ) → zip ks vs ≡ es → length vs ≡ length ks → IsPrefixRange p ks i j → zip (take (j - i) (drop i ks)) (take (j - i) (drop i vs)) ≡ filter (λ e. begins p e.0) es
filter-zip p ks vs es i j is same h = rw (← is) (sym (zip-part ks vs i (j - i)) ∙ filter-entries p (zip ks vs) ks i j (sym (keys_of-zip ks vs same)) h)
