use Rattle.std.proofs.Common.{All, lit<, sym, ◌∙◌, rules}
use Rattle.tinystr_packed.specs.Rising.{IsRising}
use Rattle.caller_of_0_1_0.specs.Countries.{AreCountryCodes, IsCountryCode}
use Rattle.caller_of_0_1_0.proofs.tables.countries.Goals as goal

pub returns-then-not-are_country_codes-clause-exact : goal.returns-then-not-are_country_codes-clause-exact
returns-then-not-are_country_codes-clause-exact c =
    let same = λ (h : AreCountryCodes c.args.file.now). c.texts_once.ensures 2 h.codes c.in-Ok.table (lit< tt) h.fit c.in-Ok.ensures.texts (sym h.joined ∙ c.in-Ok.ensures.bytes) in
    (search rules, λ h. (let each : All IsCountryCode c.in-Ok.table = rw (same h) at h.each in search rules))

pub returns-in-Err-new-clause-exact : goal.returns-in-Err-new-clause-exact
returns-in-Err-new-clause-exact c =
    let same = λ (h : AreCountryCodes c.args.file.now). c.texts_once.ensures 2 h.codes c.in-Ok.table (lit< tt) h.fit c.in-Ok.ensures.texts (sym h.joined ∙ c.in-Ok.ensures.bytes) in
    (search rules, λ h. (let up : IsRising c.in-Ok.table = rw (same h) at h.rising in search rules))
