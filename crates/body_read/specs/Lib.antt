pub mod Reading
pub mod Lookup
