pub mod Serials
pub mod Workings
