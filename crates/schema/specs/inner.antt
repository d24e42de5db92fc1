-- Definitions that follow the code. Contracts of inner functions cite them; nobody has to believe them.
pub mod Names
pub mod Spelling
pub mod Line
pub mod RecordLines
pub mod Sound
pub mod Ways
