pub mod Build
pub mod Tested
