pub mod Error
pub mod Reading
pub mod Forms
pub mod Records
pub mod ShortInput
pub mod Private
pub use Rattle.tinystr_words.specs.ByteForm
pub use Rattle.tinystr_words.specs.Case
pub use Rattle.tinystr_words.specs.Classes
pub use Rattle.tinystr_words.specs.Decimal
pub use Rattle.tinystr_words.specs.Order
pub use Rattle.tinystr_words.specs.Packed
pub use Rattle.tinystr_words.specs.Questions
pub use Rattle.tinystr_words.specs.Reading as ReadingCodeUnits
pub use Rattle.tinystr_words.specs.Text
