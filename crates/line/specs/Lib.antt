pub mod Line
pub mod Reader
pub mod Calls
pub mod Workings
