pub mod Plan
pub mod Quote
pub mod Size
pub mod Longer
pub mod Cases
pub mod inner
