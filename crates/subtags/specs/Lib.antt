pub mod Grammar
pub mod Subtags
pub mod Answers
pub mod Private
