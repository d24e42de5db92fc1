pub mod Days
pub mod Forms
pub mod Dates
pub mod Dated
