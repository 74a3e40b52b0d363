pub mod Layers
pub mod Rules
pub mod Words
