use Rattle.std.proofs.Common.{◌≡◌, ◌≢◌, ◌∙◌, ap, arith, [], ℕ, List, sym, true≢false, length, ◌<◌, ◌≤◌, slice_set, inl, inr, All}
use Rattle.std.specs.declared.cmp.Ordering.TheVariants.{Less}
use Rattle.std.proofs.lemmas.Bool.{cases_eq}
use borrow.Author.Count.{below_more}
use Rattle.std.specs.List.{slice_index}
use Rattle.std.proofs.lemmas.List.{get_or_default, get_or-set_other, get_or-set_same, length-set}
use Rattle.tinystr_words.specs.Text.{IsPaddedText, pad}
use Rattle.tinystr_packed.specs.Private.{AreRisingRecords, pair_at, IsPlaceWithin}
use Rattle.tinystr_packed.specs.Rising.{order, text_at, IsFirstNotBelow}
use Rattle.tinystr_packed.proofs.NumberPlaces.{AreNumbered-rising, IsFirstNotBelow-tested}
use Rattle.tinystr_packed.proofs.RisingTexts.{IsRecord-padded}
use Rattle.tinystr_packed.proofs.EightSearches.{so_far-set, still-set}
use Rattle.tinystr_packed.proofs.eight.lower_bound_each_long.Goals.{then-is_tied_below, else-is_tied_below}
use Rattle.tinystr_packed.proofs.eight.lower_bound_each_long.Goals as goal

-- a bound of numbers stays that of them where one is replaced
bound-set : (xs : List ℕ) (m x i n : ℕ) → m < length xs → x ≤ n → slice_index xs i ≤ n → slice_index (slice_set xs m x) i ≤ n
bound-set xs m x i n inside new old = elim (cases_eq i m) [
  | inl same ↦ rw (same, get_or-set_same xs m x 0 inside) new
  | inr other ↦ rw (get_or-set_other xs m i x 0 other) old
]

pub loop-lane-preserved : goal.loop-lane-preserved
loop-lane-preserved g c =
    let keys = c.args.keys.now in
    let records = c.args.records.now in
    let lane = c.loop-lane.lane in
    let places = c.loop-lane.places in
    let start = c.shared_len_of_each-start in
    let h = c.loop-lane.invariant in
    let numbered = λ (all : All (λ raw. IsPaddedText raw g.row.N) records) (up : AreRisingRecords g.row.N records). AreNumbered-rising records (pad (text_at keys 0) g.row.N) g.row.N start.result start.ensures.bound all up (start.ensures.alike up 0 (omega arith)) in
    let here = c.index-keys-lane.is ∙ get_or_default keys lane c.index-keys-lane.result [] (omega arith) in
    let bytes = c.all_bytes-key.ensures.bytes ∙ ap (λ (t : List ℕ). pad t g.row.N) here in
    let Done = λ (i place : ℕ). IsFirstNotBelow (pad (text_at keys i) g.row.N) records place in
    let Left = λ (i place : ℕ). IsPlaceWithin g.row.N start.result records (pair_at start.result (pad (text_at keys i) g.row.N)) place place in
    let key = pad (text_at keys lane) g.row.N in
    let padded : IsPaddedText key g.row.N = rw bytes at c.all_bytes-key.ensures.padded in
    elim c.if-is_tied_below.branch [
      | then-is_tied_below w ↦ rw w.places-is (record {
        long = length-set places lane w.lower_bound.result ∙ h.long;
        bound = λ i within. bound-set places lane w.lower_bound.result i (length records) (omega (arith, h.long)) w.lower_bound.ensures.bound (h.bound i within);
        done = λ all up. so_far-set 0 Done places lane w.lower_bound.result (omega (arith, h.long)) (h.done all up) (rw bytes at (w.lower_bound.ensures.place up (IsRecord-padded c.all_bytes-key.result.now g.row.N c.all_bytes-key.ensures.padded)));
        left = still-set Left places lane w.lower_bound.result h.left;
      })
      | else-is_tied_below w ↦ (let place = slice_index places lane in
          let bytes_here = c.all_bytes-key.result.now in
          let other : place < length records → pair_at start.result (text_at records place) ≡ pair_at start.result bytes_here → order (text_at records place) bytes_here ≢ Less =
          λ inside tied less. true≢false (sym (c.is_tied_below.ensures inside tied less) ∙ w.if-is_tied_below.false) in
          rw w.places-is (record {
            long = h.long;
            bound = h.bound;
            done = λ all up. below_more (λ (i : ℕ). Done i (slice_index places i)) lane (h.done all up)
                (IsFirstNotBelow-tested records key g.row.N start.result (slice_index places lane) start.ensures.bound up (IsRecord-padded key g.row.N padded) (start.ensures.alike up lane (omega arith)) (numbered all up) (h.left lane (omega arith) (omega arith)) (rw bytes at other));
            left = λ i from within. h.left i (omega arith) within;
          }))
    ]
