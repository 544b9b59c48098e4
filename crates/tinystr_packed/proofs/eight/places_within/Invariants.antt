use Rattle.tinystr_packed.specs.Private.{wanted, ArePlacesWithin}
use Rattle.tinystr_packed.proofs.eight.places_within.Given as goal

abbrev pub invariant-loop-size : goal.invariant-loop-size
invariant-loop-size g l = ArePlacesWithin g.row.N l.start l.records (wanted l.pairs.firsts l.pairs.nexts) l.places l.size

abbrev pub decreases-loop-size : goal.decreases-loop-size
decreases-loop-size g l = l.size
