-- Banks: numbered lists of sets of worlds, and what calls do to them.
pub mod Faults
pub mod Meaning
pub mod Calls
pub mod Known
