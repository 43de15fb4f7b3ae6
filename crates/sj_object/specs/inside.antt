-- Definitions that only contracts of private functions cite.
pub mod Places
pub mod Comparing
pub mod Chains
pub mod Stored
