-- Procedures and the bounds on their totals, for any lawful tally.
pub mod Procedures
pub mod Bounds
pub mod Theorems
