pub mod Answers
pub mod Xor
pub mod Lists
pub mod Listed
pub mod ByteLists
pub mod BlockLists
pub mod Entries
pub mod Overwrite
