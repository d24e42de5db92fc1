pub mod Found
pub mod Cases
pub mod inner
