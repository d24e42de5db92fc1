pub mod Digits
pub mod Packing
pub mod Bytes
pub mod Split
pub mod Window
