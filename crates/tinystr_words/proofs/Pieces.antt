-- Texts and arrays, piece by piece.
pub mod CodeUnits
pub mod Answers
pub mod PaddedWords
pub mod Copying
pub mod Word
