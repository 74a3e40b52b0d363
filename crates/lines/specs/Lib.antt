pub mod Lines
pub mod Reader
