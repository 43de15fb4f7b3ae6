-- Definitions that only contracts of private functions cite.
pub mod Building
pub mod Kept
