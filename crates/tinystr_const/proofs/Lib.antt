pub mod Passing
pub mod Continued
pub mod Counted
