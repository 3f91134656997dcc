pub mod Constants
pub mod Examples
pub mod Demands
pub mod Outcomes
