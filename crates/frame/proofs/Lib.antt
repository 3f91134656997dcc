pub mod Laws
pub mod Parts
pub mod Differences
pub mod Fills
pub mod Opening
pub mod Limits
pub mod Demands
pub mod Outcomes
