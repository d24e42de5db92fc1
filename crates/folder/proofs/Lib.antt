pub mod Said
pub mod Numerals
