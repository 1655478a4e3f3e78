pub mod Numbers
pub mod Header
pub mod Block
pub mod Trailer
