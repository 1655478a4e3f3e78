pub mod ShownLaws
pub mod MacDue
pub mod Settled
