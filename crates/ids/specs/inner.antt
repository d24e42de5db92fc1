-- Definitions that follow the code. Contracts of inner functions cite them; nobody has to believe them.
pub mod Ids
pub mod Notes
pub mod Known
pub mod Gather
pub mod Spread
