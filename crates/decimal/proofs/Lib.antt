pub mod Runs
pub mod Spelled
pub mod Tests
pub mod Millionths
pub mod Formed
pub mod Means
pub mod Progress
pub mod Priced
