pub mod Meaning
pub mod Faults
pub mod Formula
pub mod Boards
