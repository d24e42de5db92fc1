pub mod Cases
pub mod References
pub mod inner
