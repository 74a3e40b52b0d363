pub mod RowLaws
pub mod Sums
pub mod Reach
pub mod Box
pub mod Fair
pub mod Certificate
