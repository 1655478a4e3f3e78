pub mod Stretches
pub mod PlaceLaws
pub mod Pasted
pub mod CopyLaws
pub mod NumberLaws
