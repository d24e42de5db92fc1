pub mod Document
pub mod Spans
pub mod Trees
pub mod Values
pub mod inner
