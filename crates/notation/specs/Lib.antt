pub mod Choice
pub mod Ascii
pub mod Given
pub mod Case
