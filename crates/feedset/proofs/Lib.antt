pub mod Staging
pub mod Sets
