use Rattle.std.proofs.Common.{◌≡◌, ◌-◌, arith}
use Rattle.tinystr_packed.proofs.EightSearches.{number_at-fits}
use Rattle.tinystr_packed.proofs.record.Pair.at.Goals as goal

pub returns-clause-text : goal.returns-clause-text
returns-clause-text g c padded = record {
  first_fits = rw c.number_at.ensures (number_at-fits c.args.raw.now g.row.N c.args.start padded);
  next_fits = rw c.number_at-2.ensures (number_at-fits c.args.raw.now g.row.N c.min-next.result padded);
  short = λ short. let same : c.min-next.result ≡ c.args.start = omega arith in rw (c.number_at.ensures, c.number_at-2.ensures, same);
}
