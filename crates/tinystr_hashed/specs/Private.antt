-- The words of private functions. No public contract has one of them.
use Rattle.std.specs.Prelude.{ℕ, List}
use Rattle.tinystr_hashed.specs.declared.building.Texts.{Texts}
use Rattle.tinystr_hashed.specs.declared.building.Texts.TheVariants.{Given, Packed}

-- those of a slice, or of a table
abbrev pub texts_in : {n : ℕ} → Texts n → List (List ℕ)
texts_in (Given texts) = texts.now
texts_in (Packed table) = table.now
