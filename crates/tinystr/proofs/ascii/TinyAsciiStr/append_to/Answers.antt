use Rattle.std.proofs.Common.{List, ℕ, ◌≡◌, ◌≤◌, ◌++◌, ◌+◌, ◌-◌, ◌∙◌, length, refl, sym, subst, arith, inl, rules}
use Rattle.std.proofs.lemmas.List.{length-append, take_all}
use borrow.Rule.Slice.PartMut.{put_mid}
use Rattle.tinystr_words.specs.Text.{IsPadded, IsPaddedText, IsText, text_of}
use Rattle.tinystr_words.proofs.Pieces.Copying.{IsPadded-appended}
use Rattle.tinystr_words.proofs.Texts.{IsPaddedText-places, length-text_of-le}
use Rattle.tinystr.proofs.ascii.TinyAsciiStr.append_to.Goals as goal
use Rattle.tinystr.proofs.ascii.TinyAsciiStr.append_to.Goals.{then-this-le16+then-free, else-this-le16}

-- padded bytes appended to the text of others, where all of them fit
put_whole : (r x y t m : List ℕ) (at k : ℕ) → IsPadded r → at ≡ length (text_of r) → IsPadded x → text_of x ≡ t → y ≡ x → k ≡ length x → at + k ≤ length r
    → m ≡ put_mid at k r y → IsPadded m × (text_of m ≡ text_of r ++ t)
put_whole r x y t m at k p here q said is all fits put =
    let made = IsPadded-appended r x y at k p here q (is ∙ sym (take_all k x (omega arith))) (omega arith) fits (inl all) in
    rw (put, ← said)
    (made.0, made.1 ∙ take_all (length r) (text_of r ++ text_of x) (omega (arith, length-append (text_of r) (text_of x), length-text_of-le x)))

-- a text alone is padded, and is its own text
text_alone : (t : List ℕ) → IsText t → IsPadded t × (text_of t ≡ t)
text_alone t h =
    let made = IsPaddedText-places t t (length t) refl h (λ k below. refl) in
    (made.0, made.1 ∙ take_all (length t) t (omega arith))

pub returns : goal.returns
returns g c =
    let made : IsPadded c.if-this-le16.bytes × (text_of c.if-this-le16.bytes ≡ text_of c.args.bytes.now ++ c.args.self.now) = elim c.if-this-le16.branch [
      | then-this-le16+then-free w ↦ (
          let bytes = c.self.inside.bytes in
          let all : length bytes ≡ g.row.N = c.self.told in
          put_whole c.args.bytes.now bytes w.copy_from_slice.new.self c.args.self.now c.if-this-le16.bytes c.args.len (c.args.len + g.row.N - c.args.len) c.requires.padded c.requires.at_end
          (subst (λ n. IsPaddedText bytes n) (sym all) c.self.invariant) c.self.view_is w.copy_from_slice.ensures.after (omega arith) (omega arith) w.bytes-is)
      | else-this-le16 w ↦ (
          let alone = text_alone c.args.self.now (rw w.as_utf8.ensures.text at w.as_utf8.ensures.ascii) in
          let count = c.args.len + c.len-text_len.result - c.args.len in
          put_whole c.args.bytes.now c.args.self.now w.copy_from_slice-else-this-le16.new.self c.args.self.now c.if-this-le16.bytes c.args.len count c.requires.padded c.requires.at_end
          alone.0 alone.1 (w.copy_from_slice-else-this-le16.ensures.after ∙ w.as_utf8.ensures.text) (omega (arith, c.len-text_len.ensures.len)) (omega arith) w.bytes-is)
    ] in
    record { len = search rules; fits = search rules; padded = made.0; text = λ fits. made.1 }
