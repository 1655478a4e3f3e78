pub mod FieldLaws
pub mod KindLaws
pub mod Listed
pub mod OneMessage
pub mod BadgeLaws
pub mod Worked
