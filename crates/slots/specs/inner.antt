-- Definitions that follow the code. Contracts of inner functions cite them; nobody has to believe them.
pub mod Blank
pub mod Rows
pub mod Slots
pub mod Found
