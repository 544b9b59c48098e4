use Rattle.std.proofs.Common.{◌<◌, arith, drop, inl, inr, length, take, ◌++◌, ◌+◌, ◌-◌, ◌≡◌}
use Rattle.std.proofs.lemmas.List.{append_assoc, length-append, length-drop, length-take, take-append-drop}
use Rattle.tinystr_words.specs.Text.{text_of}
use Rattle.tinystr_words.proofs.Texts.{length-text_of-le}
use Rattle.tinystr_words.proofs.Vectors.{HasLanes, get_or-first_sixteen, HasLanes-sixteen_from, sixteen_from-HasLanes, get_or-last_sixteen, HasLanes-or, HasLanes-same}
use Rattle.tinystr_words.proofs.padded.concatenation.joined_from.Goals as goal
use Rattle.tinystr_words.proofs.padded.concatenation.joined_from.Goals.{then-at, else-at, then-at-gt0+then-at-2, else-at-gt0, else-at-gt0-via-then-at-gt0+else-at-2, else-at-gt0-via-else-at-gt0}

pub returns : goal.returns
returns c =
    let a = text_of c.args.first.now in
    let b = text_of c.args.second.now in
    let at = c.args.at in
    let n = c.args.first_len in
    let lanes = c.lanes_from-lanes.result in
    let whole = length-text_of-le c.args.first.now in
    let fits = length-text_of-le c.args.second.now in
    let first_part = length-take 16 b in
    let last_part = length-drop 16 b in
    let front : HasLanes lanes a at = HasLanes-sixteen_from lanes a at c.lanes_from-lanes.ensures in
    let first : HasLanes c.if-at.lanes (a ++ take 16 b) at = elim c.if-at.branch [
      | then-at w ↦ rw w.lanes-is (HasLanes-or lanes w.shifted-lanes.result w.lanes_from.result a (take 16 b) n at (48 + at - n) (λ some. c.requires.first_len) (omega arith)
          w.shifted-lanes.ensures (get_or-first_sixteen w.lanes_from.result b w.lanes_from.ensures) front)
      | else-at w ↦ rw w.lanes-is (HasLanes-same lanes a (take 16 b) n at (λ some. c.requires.first_len) front (inr (omega arith)))
    ] in
    let end : 0 < length (drop 16 b) → n + 16 ≡ length (a ++ take 16 b) = λ some. omega (arith, length-append a (take 16 b)) in
    let second : HasLanes c.if-at-gt0.lanes ((a ++ take 16 b) ++ drop 16 b) at = elim c.if-at-gt0.branch [
      | then-at-gt0+then-at-2 w ↦ rw w.lanes-is (HasLanes-or c.if-at.lanes w.shifted-lanes-then-at-2.result w.lanes_from-then-at-2.result (a ++ take 16 b) (drop 16 b)
          (n + 16) at (32 + at - n) end (omega arith) w.shifted-lanes-then-at-2.ensures (get_or-last_sixteen w.lanes_from-then-at-2.result b w.lanes_from-then-at-2.ensures (omega arith)) first)
      | else-at-gt0 w ↦ rw w.lanes-is (HasLanes-same c.if-at.lanes (a ++ take 16 b) (drop 16 b) (n + 16) at end first (elim w.else-at-gt0.branch [
        | else-at-gt0-via-then-at-gt0+else-at-2 v ↦ inr (omega arith)
        | else-at-gt0-via-else-at-gt0 v ↦ inl (omega arith)
      ]))
    ] in
    rw (append_assoc a (take 16 b) (drop 16 b), take-append-drop 16 b) at (sixteen_from-HasLanes c.if-at-gt0.lanes ((a ++ take 16 b) ++ drop 16 b) at second)
