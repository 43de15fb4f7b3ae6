-- What only clauses of private functions and invariants cite.
pub mod Documents
pub mod KeptChanges
pub mod LazyDocuments
