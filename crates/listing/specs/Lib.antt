pub mod Listing
pub mod Chunks
