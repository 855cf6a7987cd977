-- What a tally owes, and the two tallies' own ways to add a step.
pub mod Laws
pub mod Totals
