pub mod Carried
pub mod Handshake
pub mod Talk
pub mod Demand
