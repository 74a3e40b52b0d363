pub mod Narrowing
pub mod Outcomes
pub mod Plans
pub mod Pricing
pub mod Steps
