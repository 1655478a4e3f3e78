pub mod Fields
pub mod Message
pub mod Body
pub mod Lookup
