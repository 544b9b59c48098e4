use Rattle.std.proofs.Common.{◌≡◌, ◌++◌, ℕ, List, length, rules}
use Rattle.std.specs.Map.{keys_of}
use Rattle.tinystr_words.specs.Text.{IsStrictText, pad}
use Rattle.tinystr_packed.proofs.MapBytes.{PacksFirst-none, PacksFirst-more, PacksFirst-all, IsRising-keys}
use Rattle.tinystr_packed.proofs.packing.pack_map.Goals as goal

pub loop-key-init : goal.loop-key-init
loop-key-init g c =
    let start : c.into_iter-key-iterator.result ≡ c.args.map.now.entries = search rules in
    rw (c.in_ok-keys.ensures.items, c.in_ok-values.ensures.items, start) (PacksFirst-none c.args.map.now.entries g.row.N (λ (v : List ℕ). length v ≡ g.row.M) (λ (v : List ℕ). v))

pub loop-key-preserved : goal.loop-key-preserved
loop-key-preserved g c =
    let strict : IsStrictText c.in-Some.key.now g.row.N =
    record { text = rw c.as_utf8.ensures.text at c.as_utf8.ensures.ascii; fits = rw c.as_utf8.ensures.text at c.as_utf8.ensures.fits } in
    let long : length c.in-Some.value.now ≡ g.row.M = search rules in
    let keys : c.extend_from_slice.new.self.items ≡ c.loop-key.keys.items ++ pad c.in-Some.key.now g.row.N = rw (c.in_ok-extend_from_slice.ensures.items, c.all_bytes.ensures.bytes) in
    PacksFirst-more c.args.map.now.entries c.loop-key.key-iterator c.next.new.self c.loop-key.keys.items c.loop-key.values.items c.in-Some.key.now c.in-Some.value.now
    c.extend_from_slice.new.self.items c.extend_from_slice-in-loop-key.new.self.items g.row.N (λ (v : List ℕ). length v ≡ g.row.M) (λ (v : List ℕ). v) c.loop-key.invariant c.in-Some.ensures.steps strict long keys c.in_ok-extend_from_slice-2.ensures.items

pub returns : goal.returns
returns g c =
    let all = PacksFirst-all c.args.map.now.entries c.loop-key.key-iterator c.loop-key.keys.items c.loop-key.values.items g.row.N (λ (v : List ℕ). length v ≡ g.row.M) (λ (v : List ℕ). v) c.loop-key.invariant c.in-None.ensures.steps.0 in
    let keys = all.0 (IsRising-keys (keys_of c.args.map.now.entries) c.len-count.ensures.ordered) in
    record { strict = keys.strict; rising = keys.rising; long = all.1.0; joined_keys = keys.joined; joined_values = all.1.1 }
