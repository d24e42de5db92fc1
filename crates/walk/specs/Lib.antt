pub mod Walk
pub mod Part
pub mod Cases
pub mod inner
