pub mod Heard
pub mod Meaning
pub mod Spelling
