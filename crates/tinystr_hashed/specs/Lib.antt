pub mod Hashing
pub mod Reading
pub mod Map
pub mod TextMap
pub mod Packing
pub mod PackingInto
pub mod Private
