pub mod Halves
pub mod Lawful64
pub mod Outcomes
