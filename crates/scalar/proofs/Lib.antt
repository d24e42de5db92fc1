pub mod Ranges
pub mod Sorts
pub mod Words
pub mod Values
pub mod Capitals
