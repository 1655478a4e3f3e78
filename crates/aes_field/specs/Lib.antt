pub mod Field
pub mod Mix
pub mod Sbox
pub mod Packed
