pub mod Words
pub mod Books
