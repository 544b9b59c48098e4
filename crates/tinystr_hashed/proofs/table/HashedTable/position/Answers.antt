use Rattle.std.proofs.Common.{List, ℕ, suc, zero, ap, arith, length, map, refl, sym, ◌^◌, ◌<◌, ◌*◌, ◌∙◌, ◌≡◌}
use Rattle.std.proofs.Math.Nat.{le-mul_of_pos_right}
use Rattle.std.proofs.lemmas.Bool.{false≢true}
use Rattle.std.proofs.lemmas.List.{length-map}
use Rattle.tinystr_words.specs.Text.{text_of}
use Rattle.tinystr_words.specs.Words.{word}
use Rattle.tinystr_hashed.specs.Hashing.{place_in, place_of_slot, AreOrdered, ArePlaced}
use Rattle.tinystr_hashed.proofs.Hashes.{place_of_slot-inside}
use Rattle.tinystr_hashed.proofs.Lookups.{AreDistinct-ordered, found-exactly, position-placed}
use Rattle.tinystr_hashed.proofs.table.HashedTable.position.Goals as goal

-- records of at least one byte are as many as their bytes at most
few : (n m : ℕ) → (0 < n → 0 < m) → n * (m * 1) < 2 ^ 63 → n < 2 ^ 63
few zero m some below = omega arith
few (suc n) m some below = omega (arith, le-mul_of_pos_right {m = m * 1} (suc n) (omega (arith, some (omega arith))), below)

pub slot-requires : goal.slot-requires
slot-requires g c =
    let count : length c.records-count.result.now ≡ length c.self.inside.table = sym (length-map c.records-count.result.now text_of) ∙ ap (λ (l : List (List ℕ)). length l) c.records-count.ensures.texts in
    (omega arith, few (length c.records-count.result.now) g.row.N (rw count c.self.invariant.0) c.records-count.type_inv.1)

pub position_moved-requires : goal.position_moved-requires
position_moved-requires g c =
    let count : length c.records-count.result.now ≡ length c.self.inside.table = sym (length-map c.records-count.result.now text_of) ∙ ap (λ (l : List (List ℕ)). length l) c.records-count.ensures.texts in
    (omega arith, (omega arith, rw count at c.if-slot-count.false))

pub position_by_halves-requires : goal.position_by_halves-requires
position_by_halves-requires g c =
    let no_pilots : ¬ (0 < length c.self.inside.places.pilots.now) = λ some. false≢true (c.in_default.ensures.exact.1 some) in
    let none : length c.self.inside.places.pilots.now ≡ 0 = omega (arith, no_pilots) in
    (omega arith, (omega arith, rw c.self.view_is at c.self.invariant.1.rising none))

pub returns-in_default : goal.returns-in_default
returns-in_default g c =
    let places = c.self.inside.places in
    let ordered : AreOrdered places.pilots.now (place_in places.start places.pilots.now (map word places.moves.now) g.row.N (length c.args.self.now)) c.args.self.now = rw c.self.view_is at c.self.invariant.1 in
    let distinct = AreDistinct-ordered places.pilots.now (place_in places.start places.pilots.now (map word places.moves.now) g.row.N (length c.args.self.now)) c.args.self.now ordered in
    let exactly = found-exactly c.args.self.now c.args.key.now c.position_by_halves.result c.position_by_halves.ensures in
    record { found = exactly.0; exact = exactly.1; position = c.position_by_halves.ensures; distinct = distinct }

pub returns-then-slot-count : goal.returns-then-slot-count
returns-then-slot-count g c =
    let places = c.self.inside.places in
    let place : List ℕ → ℕ = place_in places.start places.pilots.now (map word places.moves.now) g.row.N (length c.args.self.now) in
    let ordered : AreOrdered places.pilots.now place c.args.self.now = rw c.self.view_is at c.self.invariant.1 in
    let placed : ArePlaced place c.args.self.now = ordered.placed (c.in-Some.ensures.exact.0 refl) in
    let count : length c.records-count.result.now ≡ length c.args.self.now = sym (length-map c.records-count.result.now text_of) ∙ ap (λ (l : List (List ℕ)). length l) (c.records-count.ensures.texts ∙ c.self.view_is) in
    let at_it : c.in-Some.slot ≡ place c.args.key.now = place_of_slot-inside (map word places.moves.now) (length c.records-count.result.now) c.in-Some.slot c.if-slot-count.true ∙ c.in-Some.ensures.slot ∙ rw (count, c.all_bytes.ensures.bytes) refl in
    let is = position-placed place c.args.self.now c.args.key.now c.in-Some.slot c.position_at.result placed at_it (rw c.self.view_is at c.position_at.ensures.there) (rw c.self.view_is at c.position_at.ensures.elsewhere) in
    let exactly = found-exactly c.args.self.now c.args.key.now c.position_at.result is in
    record { found = exactly.0; exact = exactly.1; position = is; distinct = AreDistinct-ordered places.pilots.now place c.args.self.now ordered }

pub returns-else-slot-count : goal.returns-else-slot-count
returns-else-slot-count g c =
    let places = c.self.inside.places in
    let place : List ℕ → ℕ = place_in places.start places.pilots.now (map word places.moves.now) g.row.N (length c.args.self.now) in
    let ordered : AreOrdered places.pilots.now place c.args.self.now = rw c.self.view_is at c.self.invariant.1 in
    let placed : ArePlaced place c.args.self.now = ordered.placed (c.in-Some.ensures.exact.0 refl) in
    let count : length c.records-count.result.now ≡ length c.args.self.now = sym (length-map c.records-count.result.now text_of) ∙ ap (λ (l : List (List ℕ)). length l) (c.records-count.ensures.texts ∙ c.self.view_is) in
    let at_it : place_of_slot (map word places.moves.now) (length c.args.self.now) c.in-Some.slot ≡ place c.args.key.now = rw (← count) (c.in-Some.ensures.slot ∙ rw (count, c.all_bytes.ensures.bytes) refl) in
    let is = position-placed place c.args.self.now c.args.key.now (place_of_slot (map word places.moves.now) (length c.args.self.now) c.in-Some.slot) c.position_moved.result placed at_it (rw c.self.view_is at c.position_moved.ensures.there) (rw c.self.view_is at c.position_moved.ensures.elsewhere) in
    let exactly = found-exactly c.args.self.now c.args.key.now c.position_moved.result is in
    record { found = exactly.0; exact = exactly.1; position = is; distinct = AreDistinct-ordered places.pilots.now place c.args.self.now ordered }
