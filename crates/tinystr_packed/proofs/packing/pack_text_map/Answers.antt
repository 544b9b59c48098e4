use Rattle.std.proofs.Common.{◌≡◌, ◌++◌, ℕ, List, rules}
use Rattle.std.specs.Map.{keys_of}
use Rattle.tinystr_words.specs.Text.{IsStrictText, pad}
use Rattle.tinystr_packed.proofs.MapBytes.{PacksFirst-none, PacksFirst-more, PacksFirst-all, IsRising-keys}
use Rattle.tinystr_packed.proofs.packing.pack_text_map.Goals as goal

pub loop-key-init : goal.loop-key-init
loop-key-init g c =
    let start : c.into_iter-key-iterator.result ≡ c.args.map.now.entries = search rules in
    rw (c.in_ok-keys.ensures.items, c.in_ok-values.ensures.items, start) (PacksFirst-none c.args.map.now.entries g.row.N (λ (v : List ℕ). IsStrictText v g.row.M) (λ (v : List ℕ). pad v g.row.M))

pub loop-key-preserved : goal.loop-key-preserved
loop-key-preserved g c =
    let keys : c.extend_from_slice.new.self.items ≡ c.loop-key.keys.items ++ pad c.in-Some.key.now g.row.N = rw (c.in_ok-extend_from_slice.ensures.items, c.all_bytes.ensures.bytes) in
    let values : c.extend_from_slice-in-loop-key.new.self.items ≡ c.loop-key.values.items ++ pad c.in-Some.value.now g.row.M = rw (c.in_ok-extend_from_slice-2.ensures.items, c.all_bytes-in-loop-key.ensures.bytes) in
    PacksFirst-more c.args.map.now.entries c.loop-key.key-iterator c.next.new.self c.loop-key.keys.items c.loop-key.values.items c.in-Some.key.now c.in-Some.value.now
    c.extend_from_slice.new.self.items c.extend_from_slice-in-loop-key.new.self.items g.row.N (λ (v : List ℕ). IsStrictText v g.row.M) (λ (v : List ℕ). pad v g.row.M) c.loop-key.invariant c.in-Some.ensures.steps
    c.fits.ensures c.fits-in-loop-key.ensures keys values

pub returns : goal.returns
returns g c =
    let all = PacksFirst-all c.args.map.now.entries c.loop-key.key-iterator c.loop-key.keys.items c.loop-key.values.items g.row.N (λ (v : List ℕ). IsStrictText v g.row.M) (λ (v : List ℕ). pad v g.row.M) c.loop-key.invariant c.in-None.ensures.steps.0 in
    record { rising_keys = all.0 (IsRising-keys (keys_of c.args.map.now.entries) c.len-count.ensures.ordered); strict_values = all.1.0; joined_values = all.1.1 }
