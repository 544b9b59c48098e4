use Rattle.std.proofs.Common.{◌≡◌, ◌≢◌, ◌↔◌, ◌<◌, ◌∙◌, ℕ, Bool, true, false, List, [], Some, IsNone, IfSome, IsTrue, refl, sym, length, slice_get, arith}
use Rattle.std.proofs.lemmas.Bool.{false≢true}
use Rattle.std.proofs.lemmas.Bool.Decides.{nat_tests}
use Rattle.std.proofs.lemmas.List.{get_or_default}
use Rattle.std.specs.Bool.{then_some}
use Rattle.tinystr_packed.proofs.RisingTexts.{has_text}
use Rattle.tinystr_hashed.proofs.table.position_at.Goals as goal

-- a place if its text is there, by a test of this
placed : (table : List (List ℕ)) (text : List ℕ) (place : ℕ) (is : Bool) → (IsTrue is ↔ (slice_get table place ≡ Some text)) →
    IfSome (then_some is place) (λ index. (index ≡ place) × (slice_get table index ≡ Some text)) × (IsNone (then_some is place) → slice_get table place ≢ Some text)
placed table text place true has = ((refl, has.0 refl), λ none. absurd (false≢true (sym none)))
placed table text place false has = (_, λ none some. false≢true (has.1 some))

pub returns-clause-there : goal.returns-clause-there
returns-clause-there g c =
    let found = c.in_ok-raw.ensures.lookup in
    let inside : c.args.place < length c.records.result.now = grind (arith, nat_tests, found.0) in
    let raw = found.1 ∙ get_or_default c.records.result.now c.args.place _ [] inside in
    let has = has_text c.records.result.now c.args.table.now c.in_ok-raw.raw.now c.args.text.now g.row.N c.args.place c.equals.result c.records.ensures.padded c.records.ensures.texts inside raw (rw c.all_bytes.ensures.text at c.equals.ensures) in
    rw c.then_some.ensures (placed c.args.table.now c.args.text.now c.args.place c.equals.result has).0

pub returns-clause-elsewhere : goal.returns-clause-elsewhere
returns-clause-elsewhere g c =
    let found = c.in_ok-raw.ensures.lookup in
    let inside : c.args.place < length c.records.result.now = grind (arith, nat_tests, found.0) in
    let raw = found.1 ∙ get_or_default c.records.result.now c.args.place _ [] inside in
    let has = has_text c.records.result.now c.args.table.now c.in_ok-raw.raw.now c.args.text.now g.row.N c.args.place c.equals.result c.records.ensures.padded c.records.ensures.texts inside raw (rw c.all_bytes.ensures.text at c.equals.ensures) in
    rw c.then_some.ensures (placed c.args.table.now c.args.text.now c.args.place c.equals.result has).1
