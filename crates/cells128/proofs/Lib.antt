pub mod Gates
pub mod Moves
pub mod Halves
pub mod Lawful128
pub mod Outcomes
