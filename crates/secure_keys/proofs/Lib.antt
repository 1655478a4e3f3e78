mod Alike
pub mod KeysLaws
