pub mod Countries
