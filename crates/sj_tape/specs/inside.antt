-- Definitions that only invariants and contracts of private functions cite.
pub mod Invariants
pub mod Leaves
pub mod Passing
pub mod Earlier
