pub mod Chain
pub mod Session
pub mod Handshake
pub mod Apart
pub mod Channel
pub mod Secure
pub mod Door
