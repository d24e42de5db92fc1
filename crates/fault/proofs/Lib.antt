pub mod Order
pub mod Leasts
pub mod Outcomes
