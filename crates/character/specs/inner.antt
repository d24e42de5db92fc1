-- Definitions that follow the code. Contracts of inner functions cite them; nobody has to believe them.
pub mod Digit
pub mod Short
pub mod Length
pub mod Wide
