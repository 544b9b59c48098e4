use Rattle.std.proofs.Common.{◌≡◌, ℕ, List, length, rules}
use Rattle.tinystr_hashed.proofs.MapPacks.{ArePackedHashedEntries-new, Contains-next, IsSome-key, WritesFirst-more, WritesFirst-none}
use Rattle.tinystr_hashed.proofs.packing_maps.pack_hashed_map.Goals as goal

pub loop-key-init : goal.loop-key-init
loop-key-init g c = rw c.in_ok-values.ensures.items (WritesFirst-none c.args.map.now.entries c.into_iter-key-iterator.result (λ (v : List ℕ). length v ≡ g.row.M) (λ (v : List ℕ). v))

pub index-requires : goal.index-requires
index-requires g c =
    let texts : c.into_iter-key-iterator.result ≡ c.unwrap-hashed.result = search rules in
    let hashed = rw (c.unwrap-hashed.ensures, ← texts, c.as_slice.ensures.value) at c.from_bytes.ensures.texts in
    let here = Contains-next c.args.map.now.entries c.into_iter-key-iterator.result c.loop-key.key-iterator c.next.new.self c.loop-key.values.items c.in-Some.key (λ (v : List ℕ). length v ≡ g.row.M) (λ (v : List ℕ). v) c.loop-key.invariant c.in-Some.ensures.steps in
    IsSome-key c.args.map.now.entries c.into_iter-key-iterator.result c.in_ok-keys.keys.items c.in-Some.key g.row.N c.requires hashed c.in_ok-keys.ensures.packed here

pub loop-key-preserved : goal.loop-key-preserved
loop-key-preserved g c =
    let long : length c.index.result.now ≡ g.row.M = search rules in
    WritesFirst-more c.args.map.now.entries c.into_iter-key-iterator.result c.loop-key.key-iterator c.next.new.self c.loop-key.values.items c.in-Some.key c.index.result.now c.extend_from_slice.new.self.items (λ (v : List ℕ). length v ≡ g.row.M) (λ (v : List ℕ). v) c.loop-key.invariant c.in-Some.ensures.steps c.index.ensures long c.in_ok-extend_from_slice.ensures.items

pub returns-clause-packed : goal.returns-clause-packed
returns-clause-packed g c =
    let texts : c.into_iter-key-iterator.result ≡ c.unwrap-hashed.result = search rules in
    let hashed = rw (c.unwrap-hashed.ensures, ← texts, c.as_slice.ensures.value) at c.from_bytes.ensures.texts in
    ArePackedHashedEntries-new c.args.map.now.entries c.into_iter-key-iterator.result c.loop-key.key-iterator c.in_ok-keys.keys.items c.loop-key.values.items g.row.N g.row.M c.requires hashed c.in_ok-keys.ensures.packed c.loop-key.invariant c.in-None.ensures.steps.0
