pub mod Unseal
pub mod Lookup
pub mod Calls
pub mod Parts
