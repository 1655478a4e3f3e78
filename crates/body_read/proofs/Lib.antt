pub mod Cases
pub mod Summed
pub mod Settled
