pub mod Answers
pub mod Parsing
pub mod Building
pub mod Ciphers
pub mod Sessions
pub mod Sealing
pub mod Bodies
