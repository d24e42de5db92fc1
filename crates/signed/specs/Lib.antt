pub mod Signed
pub mod inner
