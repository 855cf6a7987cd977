pub mod Lists
pub mod Scans
pub mod Chains
pub mod Cut
pub mod Settling
