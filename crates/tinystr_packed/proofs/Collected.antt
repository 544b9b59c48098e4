-- What `map` and `collect` make of the results of `binary_search_each`, and of any other iterator that a contract sees as the
-- list of the remainder. Callers cite these lemmas.
use Rattle.std.proofs.Common.{◌≡◌, ℕ, List, map}
use Rattle.std.proofs.lemmas.Iterator.{IsCollectResult, YieldsList-from_map, items_from_collect, maps}
use Rattle.std.proofs.lemmas.Iterator.Consumers.{YieldsList-from_first}
use Rattle.std.proofs.lemmas.Simd.{map-map}
use denote.Param.Members.{Mut}
use Rattle.std.specs.Fn.{Called}
use Rattle.std.specs.Iterator.{YieldsFirst}
use Rattle.std.specs.Iterator.Adapters.{map_callee, map_source}
use Rattle.std.specs.Prelude.{IfOk}
use Rattle.std.specs.Vec.{vec_items}
use Rattle.std.specs.declared.iter.Map.{Map}
use Rattle.std.specs.declared.result.Result.{Result}
use Rattle.std.specs.declared.vec.Vec.{Vec}
use Rattle.tinystr_packed.specs.Rising.{search_result}

-- the list collected from `map` is what the closure computes of each item
pub items_from_map : {A F C Z E : Type 0} {s : Map (List A) F} (g : Mut F (A × Unit {0}) C) (h : A → C) {f : F} (xs : List A) (r : Result (Vec C Z) E) → map_source s ≡ xs → map_callee s ≡ f → ((x : A) (y : C) (q : F) → Called g f (x, tt) y q → (q ≡ f) × (y ≡ h x)) → IsCollectResult (maps (YieldsFirst (λ rest. rest)) g) s r → IfOk r (λ made. vec_items made ≡ map h xs)
items_from_map g h xs r source callee each ran =
    items_from_collect r ran (YieldsList-from_map g h (YieldsList-from_first (λ x. x) (λ rest. rest) xs source) callee each)

-- and from `map` of the results of `binary_search_each`, what it computes of the result for each key
pub items_from_search : {F C Z E : Type 0} {s : Map (List (Result ℕ ℕ)) F} (g : Mut F (Result ℕ ℕ × Unit {0}) C) (h : Result ℕ ℕ → C) {f : F} (texts keys : List (List ℕ)) (r : Result (Vec C Z) E) → map_source s ≡ map (search_result texts) keys → map_callee s ≡ f → ((x : Result ℕ ℕ) (y : C) (q : F) → Called g f (x, tt) y q → (q ≡ f) × (y ≡ h x)) → IsCollectResult (maps (YieldsFirst (λ rest. rest)) g) s r → IfOk r (λ made. vec_items made ≡ map (λ key. h (search_result texts key)) keys)
items_from_search g h texts keys r source callee each ran =
    rw (map-map h (search_result texts) keys) at (items_from_map g h (map (search_result texts) keys) r source callee each ran)
