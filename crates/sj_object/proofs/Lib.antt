pub mod Comparisons
pub mod Copying
pub mod Distinct
pub mod Places
pub mod Chains
