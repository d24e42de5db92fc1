pub mod Gap
pub mod Parts
