pub mod Ceilings
pub mod inner
