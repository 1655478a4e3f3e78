pub mod Settled
pub mod Types
