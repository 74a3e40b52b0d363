pub mod Answering
pub mod Fitting
pub mod Lifting
pub mod Settled
pub mod Summing
