use Rattle.std.proofs.Common.{◌==◌, ◌∙◌, sym, arith}
use Rattle.tinystr.proofs.Splits.{position-marks, position-none_text, position-nul, position-text_of}
use Rattle.tinystr.proofs.ascii.splitting.find_in_sixteen.Goals as goal
use Rattle.tinystr.proofs.ascii.splitting.find_in_sixteen.Goals.{then-equal-eq0-via-then-equal-eq0, then-equal-eq0-via-else-equal-eq0+then-byte-eq0}

pub returns-then-equal-eq0 : goal.returns-then-equal-eq0
returns-then-equal-eq0 c = elim c.then-equal-eq0.branch [
  | then-equal-eq0-via-then-equal-eq0 w ↦
      sym (position-none_text (λ b. b == c.args.byte) c.args.lanes c.requires.padded ((position-marks c.args.lanes c.args.byte c.requires.len).0 w.if-equal-eq0.true))
  | then-equal-eq0-via-else-equal-eq0+then-byte-eq0 w ↦ rw w.if-byte-eq0.true (sym (position-nul _ c.requires.padded.text))
]

pub returns : goal.returns
returns c = sym ((position-marks c.args.lanes c.args.byte c.requires.len).1 (omega arith)) ∙ position-text_of c.args.lanes c.args.byte c.requires.padded (omega arith)
