pub mod Leading
pub mod Moves
pub mod Places
pub mod Markup
pub mod Spans
pub mod Summing
pub mod Tests
