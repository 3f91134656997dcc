pub mod Appendix
pub mod Twice
pub mod Blocks128
