mod Answers
mod Fields
pub mod Inverse
