pub mod ClearLaws
pub mod TallyLaws
