pub mod Order
pub mod Believed
pub mod Ceilings
pub mod Narrowing
pub mod Floors
pub mod Leads
