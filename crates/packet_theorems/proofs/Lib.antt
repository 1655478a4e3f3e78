pub mod Built
pub mod Rebuilt
pub mod ReadBack
pub mod Seen
pub mod FromView
pub mod ToView
