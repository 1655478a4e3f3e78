mod CarriedLaws
mod Shaken
mod Delivered
mod Ends
mod TalkLaws
pub mod Calls
pub mod RoundTrips
pub mod Demand3
pub mod Limits
pub mod Sample
