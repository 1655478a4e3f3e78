pub mod Linear
pub mod SumLaws
pub mod CrcLaws
pub mod WordLaws
pub mod Step
pub mod Worked
