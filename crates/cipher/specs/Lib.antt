pub mod Engine
pub mod Numbers
