-- The bytes of a map's entries, packed one after another.
use Rattle.std.proofs.Common.{◌≡◌, ℕ, ◌+◌, ◌<◌, List, [], ◌∷◌, ◌++◌, length, take, drop, refl, sym, ap, ◌∙◌, arith, All, append_assoc}
use Rattle.std.specs.Cmp.Lexicographic.{slice_cmp}
use Rattle.std.specs.List.{flat_map}
use Rattle.std.specs.List.Sorted.{IsStrictlySortedBy}
use Rattle.std.specs.Map.{keys_of, values_of}
use Rattle.std.specs.Ordering.{nat_cmp}
use Rattle.std.proofs.lemmas.Grind.{flat_map-append}
use Rattle.std.proofs.lemmas.List.{append-nil, take_at, drop_at}
use Rattle.std.proofs.lemmas.List.Elements.{All-append, All-cons, All-nil, All-head, All-tail}
use Rattle.std.proofs.lemmas.Map.Entries.{length-keys_of, length-values_of}
use Rattle.std.proofs.lemmas.Map.Keys.{Less-from_sorted}
use Rattle.tinystr_words.specs.Text.{IsStrictText, pad}
use Rattle.tinystr_packed.proofs.PackedMaps.{Entries}
use Rattle.tinystr_packed.proofs.PackedTexts.{packed_injective}
use Rattle.tinystr_packed.specs.Map.{ArePacked}
use Rattle.tinystr_packed.specs.Rising.{ArePackedRising, IsRising}

-- packed keys, if they are strictly ascending
abbrev ArePackedRisingIf : Entries → List ℕ → ℕ → Type 0
ArePackedRisingIf entries keys n = IsRising (keys_of entries) → ArePackedRising (keys_of entries) keys n

-- the entries that are packed, before the remaining ones: each value is of a kind, and is packed in a form
pub record PacksFirst (entries rest : Entries) (keys values : List ℕ) (n : ℕ) (IsValue : List ℕ → Type 0) (form : List ℕ → List ℕ) : Type 0 where
  pub done : Entries
  pub split : entries ≡ done ++ rest
  pub strict : All (λ (t : List ℕ). IsStrictText t n) (keys_of done)
  pub each : All IsValue (values_of done)
  pub joined_keys : keys ≡ flat_map (λ (t : List ℕ). pad t n) (keys_of done)
  pub joined_values : values ≡ flat_map form (values_of done)

-- none yet
pub PacksFirst-none : (entries : Entries) (n : ℕ) (IsValue : List ℕ → Type 0) (form : List ℕ → List ℕ) → PacksFirst entries entries [] [] n IsValue form
PacksFirst-none entries n IsValue form = record {
  done = [];
  split = refl;
  strict = All-nil (λ (t : List ℕ). IsStrictText t n);
  each = All-nil IsValue;
  joined_keys = refl;
  joined_values = refl;
}

keys_of-append : (es fs : Entries) → keys_of (es ++ fs) ≡ keys_of es ++ keys_of fs
keys_of-append [] fs = refl
keys_of-append (e ∷ es) fs = ap (λ (ks : List (List ℕ)). e.0 ∷ ks) (keys_of-append es fs)

values_of-append : (es fs : Entries) → values_of (es ++ fs) ≡ values_of es ++ values_of fs
values_of-append [] fs = refl
values_of-append (e ∷ es) fs = ap (λ (vs : List (List ℕ)). e.1 ∷ vs) (values_of-append es fs)

-- one more
pub PacksFirst-more : (entries rest more : Entries) (keys values k v keys' values' : List ℕ) (n : ℕ) (IsValue : List ℕ → Type 0) (form : List ℕ → List ℕ) → PacksFirst entries rest keys values n IsValue form → rest ≡ (k, v) ∷ more
    → IsStrictText k n → IsValue v → keys' ≡ keys ++ pad k n → values' ≡ values ++ form v → PacksFirst entries more keys' values' n IsValue form
PacksFirst-more entries rest more keys values k v keys' values' n IsValue form h next strict value more_keys more_values =
    let ks = keys_of-append h.done ((k, v) ∷ []) in
    let vs = values_of-append h.done ((k, v) ∷ []) in
    record {
      done = h.done ++ (k, v) ∷ [];
      split = rw (append_assoc, ← next) h.split;
      strict = rw ks (All-append (λ (t : List ℕ). IsStrictText t n) (keys_of h.done) (k ∷ []) h.strict (All-cons (λ (t : List ℕ). IsStrictText t n) k [] strict (All-nil (λ (t : List ℕ). IsStrictText t n))));
      each = rw vs (All-append IsValue (values_of h.done) (v ∷ []) h.each (All-cons IsValue v [] value (All-nil IsValue)));
      joined_keys = rw (more_keys, ks, flat_map-append (λ (t : List ℕ). pad t n) (keys_of h.done) (k ∷ []), append-nil (pad k n)) (ap (λ (l : List ℕ). l ++ pad k n) h.joined_keys);
      joined_values = rw (more_values, vs, flat_map-append form (values_of h.done) (v ∷ []), append-nil (form v)) (ap (λ (l : List ℕ). l ++ form v) h.joined_values);
    }

-- all
pub PacksFirst-all : (entries rest : Entries) (keys values : List ℕ) (n : ℕ) (IsValue : List ℕ → Type 0) (form : List ℕ → List ℕ) → PacksFirst entries rest keys values n IsValue form → rest ≡ []
    → ArePackedRisingIf entries keys n × (All IsValue (values_of entries) × (values ≡ flat_map form (values_of entries)))
PacksFirst-all entries rest keys values n IsValue form h none =
    let all : entries ≡ h.done = h.split ∙ ap (λ (l : Entries). h.done ++ l) none ∙ append-nil h.done in
    rw all ((λ up. record { strict = h.strict; rising = up; joined = h.joined_keys }), (h.each, h.joined_values))

-- the keys of a map are strictly ascending
pub IsRising-keys : (ks : List (List ℕ)) → IsStrictlySortedBy (slice_cmp nat_cmp) ks → IsRising ks
IsRising-keys ks sorted = λ k inside. Less-from_sorted (slice_cmp nat_cmp) ks k (k + 1) [] sorted (omega arith) inside

-- lists of m bytes are determined by what they join to
pub same_values : (vs ws : List (List ℕ)) (m : ℕ) → All (λ (v : List ℕ). length v ≡ m) vs → All (λ (v : List ℕ). length v ≡ m) ws → length vs ≡ length ws
    → flat_map (λ (v : List ℕ). v) vs ≡ flat_map (λ (v : List ℕ). v) ws → vs ≡ ws
same_values [] [] m h k same e = refl
same_values [] (w ∷ ws) m h k same e = absurd (omega arith)
same_values (v ∷ vs) [] m h k same e = absurd (omega arith)
same_values (v ∷ vs) (w ∷ ws) m h k same e =
    let P = λ (v : List ℕ). length v ≡ m in
    let long = All-head P v vs h in
    let other_long = All-head P w ws k in
    let first : v ≡ w = sym (take_at v (flat_map (λ (v : List ℕ). v) vs) m long) ∙ ap (λ (l : List ℕ). take m l) e ∙ take_at w (flat_map (λ (v : List ℕ). v) ws) m other_long in
    let others : flat_map (λ (v : List ℕ). v) vs ≡ flat_map (λ (v : List ℕ). v) ws =
    sym (drop_at v (flat_map (λ (v : List ℕ). v) vs) m long) ∙ ap (λ (l : List ℕ). drop m l) e ∙ drop_at w (flat_map (λ (v : List ℕ). v) ws) m other_long in
    let rest = same_values vs ws m (All-tail P v vs h) (All-tail P w ws k) (omega arith) others in
    rw (first, rest) refl

-- entries are determined by their keys and values
pub same_entries : (es fs : Entries) → keys_of es ≡ keys_of fs → values_of es ≡ values_of fs → es ≡ fs
same_entries [] [] h k = refl
same_entries [] (f ∷ fs) h k = cc
same_entries (e ∷ es) [] h k = cc
same_entries (e ∷ es) (f ∷ fs) h k =
    let first : e.0 ≡ f.0 = cc in
    let second : e.1 ≡ f.1 = cc in
    let keys : keys_of es ≡ keys_of fs = cc in
    let values : values_of es ≡ values_of fs = cc in
    let rest = same_entries es fs keys values in
    ap (λ (k : List ℕ). (k, e.1) ∷ es) first ∙ ap (λ (v : List ℕ). (f.0, v) ∷ es) second ∙ ap (λ (l : Entries). f ∷ l) rest

-- the bytes are those of one map
pub packed_once : (es fs : Entries) (keys values : List ℕ) (n m : ℕ) → 0 < n → ArePacked es keys values n m → ArePacked fs keys values n m → es ≡ fs
packed_once es fs keys values n m some h k =
    let ks = packed_injective n (keys_of es) (keys_of fs) some h.strict k.strict (sym h.joined_keys ∙ k.joined_keys) in
    let same : length (values_of es) ≡ length (values_of fs) =
    length-values_of es ∙ sym (length-keys_of es) ∙ ap (λ (l : List (List ℕ)). length l) ks ∙ length-keys_of fs ∙ sym (length-values_of fs) in
    same_entries es fs ks (same_values (values_of es) (values_of fs) m h.long k.long same (sym h.joined_values ∙ k.joined_values))
