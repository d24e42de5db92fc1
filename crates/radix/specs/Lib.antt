pub mod Radix
pub mod Fields
