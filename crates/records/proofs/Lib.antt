pub mod Verdicts
pub mod Clashes
