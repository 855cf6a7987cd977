-- The subject: worlds and literals, what a step does to a world, tickets as values.
pub mod Worlds
pub mod Steps
pub mod Tickets
pub mod Sets
pub mod Meaning
pub mod Laws
