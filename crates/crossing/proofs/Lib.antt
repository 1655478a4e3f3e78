pub mod Answered
pub mod Asked
pub mod InAndOut
pub mod BodyTold
pub mod Settled
