-- Reading a ticket file: what the parts of the reader gather, and the ticket that a value of the code is.
pub mod Chains
pub mod Takes
pub mod Drafts
pub mod Nodes
pub mod Gathers
pub mod Meaning
pub mod Contents
pub mod Tickets
