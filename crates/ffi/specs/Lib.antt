pub mod Building
pub mod Sessions
pub mod Sealing
