-- Definitions that follow the code. Contracts of inner functions cite them; nobody has to believe them.
pub mod Judged
pub mod Tallied
pub mod Recorded
pub mod Stage
