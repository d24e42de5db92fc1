pub mod Charges
pub mod Bounds
pub mod Longer
pub mod Cases
pub mod inner
