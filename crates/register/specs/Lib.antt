pub mod Calls
pub mod Faults
pub mod Register
pub mod Replies
