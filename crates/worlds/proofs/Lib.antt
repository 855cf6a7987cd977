pub mod Compatible
pub mod TakeHold
