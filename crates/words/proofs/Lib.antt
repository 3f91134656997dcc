pub mod Laws
pub mod Decided
pub mod Outcomes
pub mod Cases
