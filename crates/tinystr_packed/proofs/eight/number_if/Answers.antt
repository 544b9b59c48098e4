use Rattle.std.proofs.Common.{◌≡◌, ◌-◌, ◌^◌, arith, inl, inr}
use Rattle.std.specs.Int.Bits.{and_zero_r}
use Rattle.std.proofs.lemmas.Nat.{and_mask}
use Rattle.std.proofs.lemmas.Bool.{cases_lt}
use Rattle.std.proofs.lemmas.Bool.Decides.{nat_tests}
use Rattle.tinystr_packed.proofs.eight.number_if.Goals as goal

pub returns : goal.returns
returns c = elim (cases_lt c.args.bit 1) [
  | inl none ↦ (let mask : c.wrapping_neg.result ≡ 0 = omega arith in
      rw (mask, and_zero_r c.args.number) (grind (arith, nat_tests)))
  | inr one ↦ (let mask : c.wrapping_neg.result ≡ 2 ^ 64 - 1 = omega arith in
      rw (mask, and_mask c.args.number 64) (grind (arith, nat_tests)))
]
