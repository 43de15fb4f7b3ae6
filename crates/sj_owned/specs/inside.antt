-- Definitions that only contracts of private functions and laws of traits cite.
pub mod Lending
pub mod Refusals
pub mod Copying
pub mod Comparing
pub mod Shown
pub mod Depths
