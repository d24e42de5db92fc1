-- Definitions that follow the code. Contracts of inner functions cite them; nobody has to believe them.
pub mod Merge
pub mod Lesser
pub mod Keys
pub mod Halves
