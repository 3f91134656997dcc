pub mod Blocks
pub mod Frames
pub mod Workings
