pub mod Sorting
pub mod Ids
pub mod Search
pub mod Repeats
pub mod Cases
pub mod inner
