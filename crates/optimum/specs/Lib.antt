pub mod Rotation
pub mod Prices
pub mod Method
