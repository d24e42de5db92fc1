pub mod Cross
pub mod Stage
pub mod inner
