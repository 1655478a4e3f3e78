mod Cases
mod Four
mod ChannelCases
mod Marks
pub mod Settled
pub mod SessionLaws
pub mod Shaken
pub mod DoorLaws
pub mod SecureLaws
pub mod Owned
