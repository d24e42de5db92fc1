pub mod Encoding
pub mod Answers
