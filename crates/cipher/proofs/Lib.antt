pub mod Rounds
pub mod Parts
pub mod Loops
pub mod Turning
pub mod Demands
pub mod Constants
pub mod Outcomes
