pub mod Reading
pub mod Places
pub mod Desk
pub mod Line
pub mod Cases
