pub mod Costs
pub mod States
