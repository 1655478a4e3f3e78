pub mod Stretch
pub mod Place
pub mod Copy
pub mod Number
