pub mod Fault
pub mod Outcome
pub mod inner
