pub mod Tests
pub mod Sizes
pub mod Frames
pub mod TwoCalls
