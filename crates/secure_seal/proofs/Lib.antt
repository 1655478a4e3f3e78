pub mod SealLaws
pub mod SealCases
pub mod SealCalls
pub mod Settled
pub mod Worked
mod DataWritten
mod FrameWritten
