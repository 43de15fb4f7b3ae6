-- What only clauses of private functions cite.
pub mod Progress
pub mod Reloads
pub mod Separator
pub mod Adds
