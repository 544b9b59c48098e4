-- What readers accept, and the first fault that they name.
pub mod OnePass
pub mod ByteForms
pub mod Records
pub mod Decided
