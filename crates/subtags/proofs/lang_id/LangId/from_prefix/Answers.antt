use Rattle.std.proofs.Common.{◌≡◌, ◌∙◌, ◌-◌, ◌≤◌, ℕ, sym, rules, arith}
use Rattle.std.proofs.lemmas.Bool.{false≢true}
use Rattle.subtags.specs.Answers.{IsIdPrefix}
use Rattle.subtags.proofs.IdentifierLemmas.{prefix_some, prefix_language, language_prefix, language_rejected}
use Rattle.subtags.proofs.lang_id.LangId.from_prefix.Goals as goal
use Rattle.subtags.proofs.lang_id.LangId.from_prefix.Goals.{then-is_subtag_end+in-Err-InvalidSubtag, else-is_subtag_end}

pub returns-in-Err-InvalidLanguage : goal.returns-in-Err-InvalidLanguage
returns-in-Err-InvalidLanguage c =
    let u = c.args.code_units.now in
    let whole = sym c.is_subtag_end.ensures ∙ c.if-is_subtag_end.true in
    let why = rw c.in-Err-InvalidLanguage.field-0-is at c.in-Err-InvalidLanguage.ensures.refusal in
    let no = language_rejected u c.loop-end.end c.loop-end.invariant.inside whole (sym why) in
    record {
      accepted = (λ ok. absurd (false≢true ok), λ is. absurd (false≢true (sym no ∙ is)));
      read = search rules;
      refusal = search rules;
      none = λ n p. false≢true (sym no ∙ prefix_language u n p);
    }

pub loop-end-preserved : goal.loop-end-preserved
loop-end-preserved c =
    let end = c.loop-end.end in
    let given = c.loop-end.invariant in
    let other : ¬ IsIdPrefix c.args.code_units.now end = λ p. elim c.if-is_subtag_end.branch [
      | then-is_subtag_end+in-Err-InvalidSubtag w ↦ false≢true (w.in-Err-InvalidSubtag.ensures.accepted.1 p.accepted)
      | else-is_subtag_end w ↦ false≢true (sym w.if-is_subtag_end.false ∙ c.is_subtag_end.ensures ∙ p.whole)
    ] in
    record {
      inside = omega (arith, given.inside);
      fits = omega (arith, given.fits);
      longest = λ n p. below n end (given.longest n p) (λ is. other (rw is at p));
    } where
      below : (n end : ℕ) → n ≤ end → ¬ (n ≡ end) → n ≤ end - 1
      below n end le other = omega arith

pub returns-clause-accepted : goal.returns-clause-accepted
returns-clause-accepted c =
    let u = c.args.code_units.now in
    (λ ok. absurd (false≢true ok), λ is. let front = language_prefix u is in absurd (omega (arith, c.loop-end.invariant.longest _ front, prefix_some u _ front)))
