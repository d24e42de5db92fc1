pub mod Finds
pub mod Named
pub mod Filled
pub mod Picks
pub mod Blanks
pub mod Few
