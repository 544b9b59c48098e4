use Rattle.std.proofs.Common.{◌+◌, ◌∙◌, List, ℕ, ap, take, drop, lit<}
use Rattle.tinystr_words.proofs.Texts.{IsPaddedText-made, text_of-made}
use Rattle.tinystr_words.proofs.Words.Numbers.{bytes_low_first_is_lanes}
use Rattle.tinystr.proofs.EightLanes.{lanes_of-split_around}
use Rattle.tinystr.proofs.ascii.splitting.split_around.Goals as goal

pub from_padded-requires : goal.from_padded-requires
from_padded-requires c =
    let made = lanes_of-split_around c.text.inside.bytes c.from_le_bytes-word.result c.args.at c.text.invariant c.from_le_bytes-word.ensures c.requires in
    (lit< tt, (lit< tt, IsPaddedText-made _ _ 8 (c.to_le_bytes.ensures ∙ bytes_low_first_is_lanes 8 _ ∙ made.0) made.1))

pub from_padded-requires-2 : goal.from_padded-requires-2
from_padded-requires-2 c =
    let made = lanes_of-split_around c.text.inside.bytes c.from_le_bytes-word.result c.args.at c.text.invariant c.from_le_bytes-word.ensures c.requires in
    (lit< tt, (lit< tt, IsPaddedText-made _ _ 8 (c.to_le_bytes-2.ensures ∙ bytes_low_first_is_lanes 8 _ ∙ made.2) made.3))

pub returns-clause-part : goal.returns-clause-part
returns-clause-part c =
    let made = lanes_of-split_around c.text.inside.bytes c.from_le_bytes-word.result c.args.at c.text.invariant c.from_le_bytes-word.ensures c.requires in
    c.from_padded.ensures ∙ text_of-made _ _ 8 (c.to_le_bytes.ensures ∙ bytes_low_first_is_lanes 8 _ ∙ made.0) made.1.text ∙ ap (λ (t : List ℕ). take c.args.at t) c.text.view_is

pub returns-clause-rest : goal.returns-clause-rest
returns-clause-rest c =
    let made = lanes_of-split_around c.text.inside.bytes c.from_le_bytes-word.result c.args.at c.text.invariant c.from_le_bytes-word.ensures c.requires in
    c.from_padded-2.ensures ∙ text_of-made _ _ 8 (c.to_le_bytes-2.ensures ∙ bytes_low_first_is_lanes 8 _ ∙ made.2) made.3.text ∙ ap (λ (t : List ℕ). drop (c.args.at + 1) t) c.text.view_is
