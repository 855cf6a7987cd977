pub mod Walks
pub mod Records
pub mod Readings
pub mod Effects
pub mod Actions
pub mod Sensings
pub mod Tops
pub mod Parts
