-- What only clauses of private functions cite.
pub mod Parts
