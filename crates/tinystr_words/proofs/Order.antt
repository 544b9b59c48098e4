-- The order and the equality of texts.
pub mod OfLists
pub mod OfPadded
pub mod ByNumbers
