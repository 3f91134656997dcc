pub mod Report
pub mod Compare
pub mod Files
pub mod Workings
