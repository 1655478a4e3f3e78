pub mod Pad
pub mod Mac
pub mod Cbc
pub mod Parts
