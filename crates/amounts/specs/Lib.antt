pub mod Rows
pub mod Orders
pub mod Singles
pub mod JoinedRows
pub mod RowLaws
pub mod Integers
