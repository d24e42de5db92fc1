pub mod Rings
pub mod OneRing
pub mod Cases
pub mod inner
