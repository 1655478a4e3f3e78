pub mod Tables
pub mod Inverse
pub mod Sums
pub mod Linear
pub mod Packing
pub mod Mixing
