pub mod Decimals
pub mod Exact
pub mod Rounding
pub mod Cases
pub mod inner
