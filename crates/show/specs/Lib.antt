-- A ticket in words.
pub mod Words
