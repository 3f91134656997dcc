pub mod Among
pub mod Rising
pub mod Places
pub mod Outcomes
