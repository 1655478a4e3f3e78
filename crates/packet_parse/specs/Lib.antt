pub mod Trailer
pub mod Frame
pub mod Driver
