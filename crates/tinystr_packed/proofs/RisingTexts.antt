-- Strictly ascending texts.
use Rattle.std.proofs.Common.{◌≡◌, ◌≢◌, ℕ, ◌+◌, ◌-◌, ◌<◌, ◌≤◌, List, [], ◌∷◌, length, map, take, drop, get_or, slice_set, refl, ap, sym, ◌∙◌, arith, add-one, Bool, false, true, inl, inr}
use Rattle.std.specs.Cmp.Lexicographic.{slice_cmp}
use Rattle.std.specs.Ordering.{nat_cmp, is_lt, ordering_index}
use Rattle.std.specs.declared.cmp.Ordering.{Ordering}
use Rattle.std.specs.declared.cmp.Ordering.TheVariants.{Less, Equal, Greater}
use Rattle.std.specs.List.{All, slice_get}
use Rattle.std.specs.Str.{bytes_eq}
use Rattle.std.specs.declared.option.Option.TheVariants.{Some}
use Rattle.std.proofs.lemmas.Option.{slice_get-get_or, get_or_from_slice_get}
use Rattle.std.specs.List.Sorted.{IsSortedBy, IsPartitionedBy, IsPartitionPoint}
use Rattle.std.proofs.lemmas.Cmp.{nat_list_cmp_total, tied_itself}
use Rattle.std.proofs.lemmas.List.Sorted.{searchable_from_sorted}
use Rattle.std.proofs.lemmas.Bool.{cases_lt, false≢true}
use Rattle.std.proofs.lemmas.Grind.{common_steps}
use Rattle.std.proofs.lemmas.List.{get_or_default, get_or_past, get_or-drop, get_or-map, get_or-take, length-drop, length-map, length-set, length-take}
use Rattle.std.specs.Prelude.{IsTrue}
use Rattle.std.proofs.lemmas.Slice.Eq.{bytes_eq-Decides}
use Rattle.tinystr_words.specs.Text.{IsPaddedText, text_of}
use Rattle.tinystr_words.proofs.Texts.{get_or-pad, length-pad}
use Rattle.tinystr_words.proofs.Order.OfLists.{cmp_is_same}
use Rattle.tinystr_words.proofs.Order.OfPadded.{cmp-IsPaddedText}
use Rattle.tinystr_packed.specs.Private.{IsRecord, AreRisingRecords}
use Rattle.tinystr_packed.specs.Rising.{order, text_at, IsRising, IsFirstFall, IsPlaceFor, IsFirstNotBelow, IsFirstNotBelowWithin}

-- a padded text has n bytes
pub length-padded : (xs : List ℕ) (n : ℕ) → IsPaddedText xs n → length xs ≡ n
length-padded xs n h = ap (λ (l : List ℕ). length l) h.padded ∙ length-pad (text_of xs) n h.fits

-- the record of the text at an index
pub record IsRecordOf (raw : List ℕ) (ts : List (List ℕ)) (n i : ℕ) : Type 0 where
  pub inside : i < length ts
  pub padded : IsPaddedText raw n
  pub text : text_of raw ≡ text_at ts i

pub IsRecordOf-at : (records ts : List (List ℕ)) (raw : List ℕ) (n i : ℕ) → All (λ r. IsPaddedText r n) records → map text_of records ≡ ts → i < length records → raw ≡ get_or records i [] → IsRecordOf raw ts n i
IsRecordOf-at records ts raw n i h view inside is = record {
  inside = rw (← view, length-map) inside;
  padded = rw (← is) at (h i [] inside);
  text = rw (← view) (ap text_of is ∙ sym (get_or-map text_of records i [] [] inside));
}

-- what a record at an index holds is the text there
pub has_text : (records ts : List (List ℕ)) (raw key : List ℕ) (n i : ℕ) (b : Bool) → All (λ r. IsPaddedText r n) records → map text_of records ≡ ts → i < length records → raw ≡ get_or records i []
    → b ≡ bytes_eq (text_of raw) key → (IsTrue b → slice_get ts i ≡ Some key) × (slice_get ts i ≡ Some key → IsTrue b)
has_text records ts raw key n i b h view inside is test =
    let here = IsRecordOf-at records ts raw n i h view inside is in (
      λ yes. slice_get-get_or ts i [] here.inside ∙ ap Some (sym here.text ∙ (bytes_eq-Decides (text_of raw) key).0 (sym test ∙ yes)),
      λ found. test ∙ (bytes_eq-Decides (text_of raw) key).1 (here.text ∙ get_or_from_slice_get ts i key [] found),
    )

-- a record after the first
pub IsRecordOf-rest : (records rest ts : List (List ℕ)) (first raw : List ℕ) (n i : ℕ) → All (λ r. IsPaddedText r n) records → map text_of records ≡ ts → records ≡ first ∷ rest → i < length rest → raw ≡ get_or rest i raw → IsRecordOf raw ts n (i + 1)
IsRecordOf-rest records rest ts first raw n i h view cut inside is =
    IsRecordOf-at records ts raw n (i + 1) h view (rw cut (omega arith)) (rw (cut, add-one) (is ∙ get_or_default rest i raw [] inside))

-- records are in the order of their texts
pub order-records : (xs ys : List ℕ) (ts : List (List ℕ)) (n i j : ℕ) → IsRecordOf xs ts n i → IsRecordOf ys ts n j → slice_cmp nat_cmp xs ys ≡ order (text_at ts i) (text_at ts j)
order-records xs ys ts n i j h k =
    rw (← h.text, ← k.text) (cmp-IsPaddedText xs ys n h.padded k.padded (length-padded xs n h.padded) (length-padded ys n k.padded))

-- the first texts are strictly ascending
pub IsRising-take : (ts : List (List ℕ)) (m : ℕ) → ((k : ℕ) → k + 1 < m → order (text_at ts k) (text_at ts (k + 1)) ≡ Less) → IsRising (take m ts)
IsRising-take ts m up k inside =
    let short : k + 1 < m = omega (arith, length-take m ts) in
    rw (get_or-take m ts k [] (omega arith), get_or-take m ts (k + 1) [] short) (up k short)

-- texts of which one isn't above the one before it aren't strictly ascending
pub not_rising : (ts : List (List ℕ)) (i : ℕ) → IsFirstFall ts i → ¬ IsRising ts
not_rising ts i h up =
    let next : i - 1 + 1 ≡ i = omega (arith, h.behind) in
    h.falls (rw next at (up (i - 1) (rw next h.inside)))

-- the first text that isn't above the one before it
pub IsFirstFall-next : (ts : List (List ℕ)) (i : ℕ) → i + 1 < length ts → ((k : ℕ) → k < i → order (text_at ts k) (text_at ts (k + 1)) ≡ Less) → is_lt (order (text_at ts i) (text_at ts (i + 1))) ≡ false → IsFirstFall ts (i + 1)
IsFirstFall-next ts i inside up fails =
    let before : i + 1 - 1 ≡ i = omega arith in
    record {
      behind = omega arith;
      inside = inside;
      falls = rw before (λ less. absurd (false≢true (rw less at (sym fails))));
      before = IsRising-take ts (i + 1) (λ k short. up k (omega arith));
    }

-- an order that is found to be below
pub Less-from_is_lt : (o : Ordering) → is_lt o ≡ true → o ≡ Less
Less-from_is_lt Less h = refl
Less-from_is_lt Equal h = cc
Less-from_is_lt Greater h = cc

-- strictly ascending texts are sorted
IsSortedBy-rising : (ts : List (List ℕ)) → IsRising ts → IsSortedBy (λ (t s : List ℕ). is_lt (order t s)) ts
IsSortedBy-rising ts up k d from inside =
    let less : order (get_or ts k d) (get_or ts (k + 1) d) ≡ Less = rw (get_or_default ts k d [] (omega arith), get_or_default ts (k + 1) d [] inside) (up k inside) in
    ap is_lt (nat_list_cmp_total.antisymm (get_or ts (k + 1) d) (get_or ts k d)) ∙ rw less refl

-- so the indices of their orders to a key are ascending
pub order-rising : (ts : List (List ℕ)) (key : List ℕ) (i j : ℕ) → IsRising ts → i ≤ j → j < length ts → ordering_index (order (text_at ts i) key) ≤ ordering_index (order (text_at ts j) key)
order-rising ts key i j up le inside = searchable_from_sorted nat_list_cmp_total (λ (t : List ℕ). t) ts key (IsSortedBy-rising ts up) i j [] le inside

-- no text is above a later one
pub not_above : (ts : List (List ℕ)) (i j : ℕ) → IsRising ts → i ≤ j → j < length ts → order (text_at ts i) (text_at ts j) ≢ Greater
not_above ts i j up le inside above =
    let no_more = rw (above, tied_itself nat_list_cmp_total (text_at ts j)) at (order-rising ts (text_at ts j) i j up le inside) in
    absurd (omega arith)

-- where one text is below the key, so are those before it
pub below_from_rising : (ts : List (List ℕ)) (key : List ℕ) (i j : ℕ) → IsRising ts → i ≤ j → j < length ts → order (text_at ts j) key ≡ Less → order (text_at ts i) key ≡ Less
below_from_rising ts key i j up le inside less =
    let no_more = rw less at (order-rising ts key i j up le inside) in
    grind arith

-- the test of a record beside the bytes of a key
abbrev pub is_below_key : List ℕ → List ℕ → Bool
is_below_key key raw = is_lt (slice_cmp nat_cmp raw key)

-- no byte of a padded text is above 127
pub ascii-padded : (raw : List ℕ) (n i : ℕ) → IsPaddedText raw n → get_or raw i 0 < 128
ascii-padded raw n i h = rw (h.padded, get_or-pad (text_of raw) n i) (elim (cases_lt i (length (text_of raw))) [
  | inl inside ↦ (let char = h.text i 0 inside in omega arith)
  | inr past ↦ (let none = get_or_past (text_of raw) i 0 past in omega arith)
])

-- a padded text is a record
pub IsRecord-padded : (raw : List ℕ) (n : ℕ) → IsPaddedText raw n → IsRecord n raw
IsRecord-padded raw n h = record {
  long = length-padded raw n h;
  bytes = λ i. omega (arith, ascii-padded raw n i h);
}

-- a record with one byte raised by one
abbrev pub raised : List ℕ → ℕ → List ℕ
raised raw i = slice_set raw i (get_or raw i 0 + 1)

-- a padded text stays a record
pub IsRecord-raised : (raw : List ℕ) (n i : ℕ) → IsPaddedText raw n → IsRecord n (raised raw i)
IsRecord-raised raw n i h = record {
  long = length-set raw i (get_or raw i 0 + 1) ∙ length-padded raw n h;
  bytes = λ j. let one = ascii-padded raw n i h in let other = ascii-padded raw n j h in grind (arith, common_steps);
}

-- records of strictly ascending texts are strictly ascending
pub AreRisingRecords-texts : (records ts : List (List ℕ)) (n : ℕ) → All (λ r. IsPaddedText r n) records → map text_of records ≡ ts → IsRising ts → AreRisingRecords n records
AreRisingRecords-texts records ts n h view up = record {
  each = λ k inside. IsRecord-padded (text_at records k) n (h k [] inside);
  rising = λ k inside.
      let here = IsRecordOf-at records ts (text_at records k) n k h view (omega arith) refl in
      let next = IsRecordOf-at records ts (text_at records (k + 1)) n (k + 1) h view inside refl in
      order-records (text_at records k) (text_at records (k + 1)) ts n k (k + 1) here next ∙ up k next.inside;
}

-- a record beside the bytes of a key is as its text beside the key
pub order-key : (records ts : List (List ℕ)) (key bytes : List ℕ) (n k : ℕ) → All (λ r. IsPaddedText r n) records → map text_of records ≡ ts → IsPaddedText bytes n → text_of bytes ≡ key → k < length records → order (text_at records k) bytes ≡ order (text_at ts k) key
order-key records ts key bytes n k h view padded text inside =
    let here = IsRecordOf-at records ts (text_at records k) n k h view inside refl in
    rw (← here.text, ← text) (cmp-IsPaddedText (text_at records k) bytes n here.padded padded (length-padded (text_at records k) n here.padded) (length-padded bytes n padded))

-- a place among the records is that among their texts
pub IsFirstNotBelow-texts : (records ts : List (List ℕ)) (key bytes : List ℕ) (n i : ℕ) → All (λ r. IsPaddedText r n) records → map text_of records ≡ ts → IsPaddedText bytes n → text_of bytes ≡ key → IsFirstNotBelow bytes records i → IsFirstNotBelow key ts i
IsFirstNotBelow-texts records ts key bytes n i h view padded text place =
    let long : length ts ≡ length records = rw (← view) (length-map records text_of) in
    record {
      inside = omega (arith, place.inside);
      below = λ k before. sym (order-key records ts key bytes n k h view padded text (omega (arith, place.inside))) ∙ place.below k before;
      not_below = λ k after inside less. place.not_below k after (omega arith) (order-key records ts key bytes n k h view padded text (omega arith) ∙ less);
    }

-- strictly ascending records are cut in two by that test
pub IsPartitionedBy-rising : (records : List (List ℕ)) (key : List ℕ) → IsRising records → IsPartitionedBy (is_below_key key) records
IsPartitionedBy-rising records key up i j d le inside below =
    let far = Less-from_is_lt (order (text_at records j) key) (rw (get_or_default records j d [] inside) at below) in
    rw (get_or_default records i d [] (omega arith), below_from_rising records key i j up le inside far) refl

-- where it cuts them, the key has its place
pub IsFirstNotBelow-cut : (records : List (List ℕ)) (key : List ℕ) (i : ℕ) → i ≤ length records
    → IsPartitionPoint (λ r. is_below_key key r ≡ true) (λ r. is_below_key key r ≡ false) records i → IsFirstNotBelow key records i
IsFirstNotBelow-cut records key i fits cut = record {
  inside = fits;
  below = λ k before. Less-from_is_lt (order (text_at records k) key) (cut.0 k [] (omega arith) before);
  not_below = λ k after inside less. absurd (false≢true (sym (cut.1 k [] after inside) ∙ rw less refl));
}

-- an order that is neither below nor equal
Greater-from_others : (o : Ordering) → o ≢ Less → o ≢ Equal → o ≡ Greater
Greater-from_others Less a b = absurd (a refl)
Greater-from_others Equal a b = absurd (b refl)
Greater-from_others Greater a b = refl

-- where the key isn't, all texts from its place on are above it
pub IsPlaceFor-missed : (ts : List (List ℕ)) (key : List ℕ) (i : ℕ) → IsRising ts → IsFirstNotBelow key ts i → (i < length ts → text_at ts i ≢ key) → IsPlaceFor key ts i
IsPlaceFor-missed ts key i up h other = record {
  inside = h.inside;
  below = h.below;
  above = λ k after inside.
      let here : order (text_at ts i) key ≡ Greater = Greater-from_others (order (text_at ts i) key) (h.not_below i (omega arith) (omega arith)) (λ same. other (omega arith) ((cmp_is_same (text_at ts i) key).0 same)) in
      let no_less = rw here at (order-rising ts key i k up after inside) in
      grind arith;
}

-- ---- some of the texts

-- the part is that of the texts from i on
pub record IsPart (ts part : List (List ℕ)) (i : ℕ) : Type 0 where
  pub inside : i + length part ≤ length ts
  pub each : (k : ℕ) → k < length part → text_at part k ≡ text_at ts (i + k)

pub IsPart-range : (ts part : List (List ℕ)) (i m : ℕ) → i + m ≤ length ts → part ≡ take m (drop i ts) → IsPart ts part i
IsPart-range ts part i m inside is =
    let long : length part ≡ m = omega (arith, ap (λ (l : List (List ℕ)). length l) is, length-take m (drop i ts), length-drop i ts) in
    record {
      inside = omega (arith, long);
      each = λ k within. rw (is, get_or-take m (drop i ts) k [] (omega (arith, length-take m (drop i ts), length-drop i ts, long)), get_or-drop) refl;
    }

-- all texts from i on are such a part
pub IsPart-rest : (ts rest : List (List ℕ)) (i : ℕ) → i ≤ length ts → rest ≡ drop i ts → IsPart ts rest i
IsPart-rest ts rest i inside is = record {
  inside = rw is (omega (arith, length-drop i ts));
  each = λ k within. rw (is, get_or-drop) refl;
}

-- a part of strictly ascending records
pub AreRisingRecords-part : (records part : List (List ℕ)) (n i : ℕ) → AreRisingRecords n records → IsPart records part i → AreRisingRecords n part
AreRisingRecords-part records part n i h p = record {
  each = λ k within. rw (p.each k within) (h.each (i + k) (omega (arith, p.inside)));
  rising = λ k within.
      let next : i + (k + 1) ≡ i + k + 1 = omega arith in
      rw (p.each k (omega arith), p.each (k + 1) within, next) (h.rising (i + k) (omega (arith, p.inside)));
}

-- a range of strictly ascending texts
pub IsRising-range : (ts : List (List ℕ)) (i m : ℕ) → i + m ≤ length ts → IsRising ts → IsRising (take m (drop i ts))
IsRising-range ts i m inside up k within =
    let p = IsPart-range ts (take m (drop i ts)) i m inside refl in
    let next : i + (k + 1) ≡ i + k + 1 = omega arith in
    rw (p.each k (omega arith), p.each (k + 1) within, next) (up (i + k) (omega (arith, p.inside)))

-- a place in a part, where the texts before the part are below the key and those after it aren't
pub IsFirstNotBelow-part : (ts part : List (List ℕ)) (key : List ℕ) (i m : ℕ) → IsRising ts → IsPart ts part i → ((k : ℕ) → k < i → order (text_at ts k) key ≡ Less)
    → (i + length part < length ts → order (text_at ts (i + length part)) key ≢ Less) → IsFirstNotBelow key part m → IsFirstNotBelow key ts (i + m)
IsFirstNotBelow-part ts part key i m up p before after found =
    let same : (k : ℕ) → i ≤ k → k < i + length part → order (text_at part (k - i)) key ≡ order (text_at ts k) key =
    λ k from within.
    let place : i + (k - i) ≡ k = omega arith in
    ap (λ (t : List ℕ). order t key) (p.each (k - i) (omega arith) ∙ ap (λ (j : ℕ). text_at ts j) place) in
    record {
      inside = omega (arith, p.inside, found.inside);
      below = λ k first. elim (cases_lt k i) [
        | inl less ↦ before k less
        | inr from ↦ sym (same k from (omega (arith, found.inside))) ∙ found.below (k - i) (omega arith)
      ];
      not_below = λ k from inside less. elim (cases_lt k (i + length part)) [
        | inl within ↦ found.not_below (k - i) (omega arith) (omega arith) (same k (omega arith) within ∙ less)
        | inr past ↦ after (omega arith) (below_from_rising ts key (i + length part) k up past inside less)
      ];
    }

-- the same of a range
pub IsFirstNotBelow-range : (ts : List (List ℕ)) (key : List ℕ) (i j m : ℕ) → IsRising ts → i ≤ j → j ≤ length ts → ((k : ℕ) → k < i → order (text_at ts k) key ≡ Less)
    → (j < length ts → order (text_at ts j) key ≢ Less) → IsFirstNotBelow key (take (j - i) (drop i ts)) m → IsFirstNotBelow key ts (i + m)
IsFirstNotBelow-range ts key i j m up le inside before after found =
    let part = take (j - i) (drop i ts) in
    let long : i + length part ≡ j = omega (arith, length-take (j - i) (drop i ts), length-drop i ts) in
    IsFirstNotBelow-part ts part key i m up (IsPart-range ts part i (j - i) (omega arith) refl) before (rw long after) found

-- ---- a range that holds a place

-- the range of all texts does
pub IsFirstNotBelowWithin-all : (ts : List (List ℕ)) (key : List ℕ) → IsFirstNotBelowWithin key ts 0 (length ts)
IsFirstNotBelowWithin-all ts key = record {
  ordered = omega arith;
  inside = omega arith;
  below = λ k before. absurd (omega arith);
  not_below = λ k from inside. absurd (omega arith);
}

-- a range of no texts is the place
pub IsFirstNotBelow-empty : (ts : List (List ℕ)) (key : List ℕ) (i j : ℕ) → IsFirstNotBelowWithin key ts i j → i ≡ j → IsFirstNotBelow key ts i
IsFirstNotBelow-empty ts key i j h same = record {
  inside = omega (arith, h.inside);
  below = h.below;
  not_below = λ k from inside. h.not_below k (omega arith) inside;
}

-- a range without the texts up to one that is below the key
pub IsFirstNotBelowWithin-from : (ts : List (List ℕ)) (key : List ℕ) (i j m n : ℕ) → IsRising ts → IsFirstNotBelowWithin key ts i j → m < length ts → order (text_at ts m) key ≡ Less → n ≤ m + 1 → n ≤ j → IsFirstNotBelowWithin key ts n j
IsFirstNotBelowWithin-from ts key i j m n up h inside less before within = record {
  ordered = within;
  inside = h.inside;
  below = λ k first. below_from_rising ts key k m up (omega arith) inside less;
  not_below = h.not_below;
}

-- a range without the texts from one on that isn't below the key
pub IsFirstNotBelowWithin-to : (ts : List (List ℕ)) (key : List ℕ) (i j m n : ℕ) → IsRising ts → IsFirstNotBelowWithin key ts i j → order (text_at ts m) key ≢ Less → m ≤ n → i ≤ n → n ≤ length ts → IsFirstNotBelowWithin key ts i n
IsFirstNotBelowWithin-to ts key i j m n up h other after within inside = record {
  ordered = within;
  inside = inside;
  below = h.below;
  not_below = λ k from last less. other (below_from_rising ts key m k up (omega arith) last less);
}

-- the place in the remainder of a range whose text at m is below the key
pub IsFirstNotBelow-after_middle : (ts : List (List ℕ)) (key : List ℕ) (i j m n : ℕ) → IsRising ts → IsFirstNotBelowWithin key ts i j → m < j → order (text_at ts m) key ≡ Less → IsFirstNotBelow key (take (j - (m + 1)) (drop (m + 1) ts)) n → IsFirstNotBelow key ts (m + 1 + n)
IsFirstNotBelow-after_middle ts key i j m n up h inside less found =
    let left = IsFirstNotBelowWithin-from ts key i j m (m + 1) up h (omega (arith, h.inside)) less (omega arith) (omega arith) in
    IsFirstNotBelow-range ts key (m + 1) j n up left.ordered left.inside left.below (λ within. left.not_below j (omega arith) within) found

-- and where that text isn't below the key
pub IsFirstNotBelow-before_middle : (ts : List (List ℕ)) (key : List ℕ) (i j m n : ℕ) → IsRising ts → IsFirstNotBelowWithin key ts i j → i ≤ m → m < j → order (text_at ts m) key ≢ Less → IsFirstNotBelow key (take (m - i) (drop i ts)) n → IsFirstNotBelow key ts (i + n)
IsFirstNotBelow-before_middle ts key i j m n up h from inside other found =
    let left = IsFirstNotBelowWithin-to ts key i j m m up h other (omega arith) from (omega (arith, h.inside)) in
    IsFirstNotBelow-range ts key i m n up left.ordered left.inside left.below (λ within. left.not_below m (omega arith) within) found

-- the key itself is in its place
pub IsFirstNotBelow-same : (ts : List (List ℕ)) (key : List ℕ) (m : ℕ) → IsRising ts → m < length ts → order (text_at ts m) key ≡ Equal → IsFirstNotBelow key ts m
IsFirstNotBelow-same ts key m up inside same =
    let is : text_at ts m ≡ key = (cmp_is_same (text_at ts m) key).0 same in
    record {
      inside = omega arith;
      below = λ k before.
          let place : m - 1 + 1 ≡ m = omega arith in
          below_from_rising ts key k (m - 1) up (omega arith) (omega arith) (rw (place, is) at (up (m - 1) (omega arith)));
      not_below = λ k from within less. let no = below_from_rising ts key m k up from within less in cc;
    }

pub ruleset middles = (get_or_default, IsFirstNotBelow-same, IsFirstNotBelow-empty)
