-- Search graphs over numbers, rounds of settling, and what a settled graph keeps.
pub mod Graph
pub mod Rounds
pub mod Settled
