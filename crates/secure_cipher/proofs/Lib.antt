mod Made
pub mod PadLaws
pub mod Turns
pub mod MacLaws
pub mod CbcLaws
pub mod CbcLoop
pub mod CbcCalls
pub mod Settled
pub mod Worked
