pub mod Qarma128
pub mod Halves
pub mod Workings
