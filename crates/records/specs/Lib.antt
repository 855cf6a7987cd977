-- The ticket file: its layout, what its chains hold, how it is judged, and what is to be answered of it.
pub mod Refusals
pub mod Layout
pub mod Kinds
pub mod Content
pub mod Judging
pub mod Conflicts
pub mod Answers
pub mod OneAnswer
