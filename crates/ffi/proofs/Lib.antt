pub mod Args
pub mod Taking
