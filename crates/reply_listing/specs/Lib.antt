pub mod InClear
pub mod Tallied
