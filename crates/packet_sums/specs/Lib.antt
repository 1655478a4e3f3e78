pub mod Checksum
pub mod Crc
pub mod Word
