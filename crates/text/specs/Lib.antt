pub mod Text
pub mod Ordering
pub mod Cases
pub mod inner
