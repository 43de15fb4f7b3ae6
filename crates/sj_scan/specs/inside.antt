-- What clauses of private functions alone cite.
pub mod State
pub mod Masks
pub mod Blocks
pub mod End
pub mod Walk
pub mod Lanes
