pub mod Zone
pub mod Answer
pub mod Combined
pub mod Single
pub mod Cases
pub mod inner
