pub mod Kinds
pub mod Form
pub mod Refusals
pub mod Word
pub mod inner
