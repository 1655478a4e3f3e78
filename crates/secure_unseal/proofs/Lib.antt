pub mod Cases
pub mod Wiping
pub mod Inside
pub mod LookupLaws
pub mod Settled
pub mod UnsealLaws
pub mod UnsealCalls
