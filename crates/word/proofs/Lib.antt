pub mod Keeps
pub mod Judged
pub mod Laws
pub mod Worked
