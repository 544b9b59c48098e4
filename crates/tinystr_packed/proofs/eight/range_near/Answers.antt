use Rattle.std.proofs.Common.{arith, refl}
use Rattle.tinystr_packed.proofs.eight.range_near.Goals as goal

pub returns-then-are_at_most : goal.returns-then-are_at_most
returns-then-are_at_most g c = record {
  each = λ lane within. record {
    ordered = omega arith;
    inside = omega arith;
    below = λ numbered k before. c.if-not-are_at_least.ensures refl numbered lane k within before;
    not_below = λ numbered k from inside. c.if-are_at_most.ensures refl numbered lane k within from inside;
  };
}
