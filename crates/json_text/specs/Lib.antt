pub mod Tree
pub mod Text
pub mod Spelling
pub mod Grammar
pub mod Places
pub mod Cases
pub mod inner
