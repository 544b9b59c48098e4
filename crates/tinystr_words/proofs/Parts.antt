-- Parts of texts, and the places where they begin.
pub mod Splits
pub mod Found
