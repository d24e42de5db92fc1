pub mod Faults
pub mod Cases
pub mod Bounds
pub mod Coordinates
pub mod inner
