-- Definitions that follow the code. Contracts of inner functions cite them; nobody has to believe them.
pub mod Along
pub mod Front
pub mod Kind
pub mod Mark
pub mod Skip
pub mod Tail
