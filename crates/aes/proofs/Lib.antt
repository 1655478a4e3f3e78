mod Turns
mod Steps
mod InHalves
mod RoundKeys
pub mod LentLaws
mod KeyHalves
pub mod Inverse
pub mod Laws
pub mod Expansion
pub mod Known
