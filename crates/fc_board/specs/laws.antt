-- Lemmas that the laws of traits cite.
pub mod ListWords
pub mod RenamingTests
pub mod VariantNames
