-- Definitions that only contracts of private functions and laws of traits cite.
pub mod Comparing
pub mod Scalars
