-- Worlds as numbers, and sets of worlds as words of bits.
pub mod Bits
pub mod Canon
pub mod Held
pub mod MapBanks
pub mod Numbers
pub mod RowSets
pub mod Rows
pub mod Successors
pub mod TruthTable
