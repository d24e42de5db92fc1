pub mod Calendar
pub mod Written
pub mod Counted
pub mod Dated
pub mod Cases
