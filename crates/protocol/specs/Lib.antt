pub mod Faults
pub mod Named
pub mod Requests
pub mod Stages
pub mod Desks
pub mod Conversation
