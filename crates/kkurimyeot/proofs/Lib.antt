pub mod Returns
pub mod Examples
pub mod Demands
pub mod Outcomes
