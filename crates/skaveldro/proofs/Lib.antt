pub mod Bytes
pub mod Filling
pub mod Giving
pub mod Worked
pub mod Told
