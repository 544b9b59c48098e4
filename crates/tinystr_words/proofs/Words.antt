-- Texts in one word, lane by lane.
pub mod Lanes
pub mod Formulas
pub mod Kernels
pub mod Texts
pub mod Numbers
pub mod Laws
