pub mod Clean
pub mod Show
pub mod ShowTree
pub mod Cases
pub mod inner
