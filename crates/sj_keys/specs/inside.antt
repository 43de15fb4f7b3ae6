-- Lemmas that laws of traits cite.
pub mod Laws
