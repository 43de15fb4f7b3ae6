-- What only clauses of private functions, invariants and conversions of errors cite.
pub mod Views
pub mod ReadErrors
pub mod Output
pub mod KeptValues
