pub mod Scalars
pub mod Cases
pub mod inner
