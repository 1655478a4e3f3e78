pub mod Answer
pub mod Bytes
pub mod Blocks
pub mod Table
pub mod Over
pub mod Buffer
