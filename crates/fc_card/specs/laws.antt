-- Lemmas that the laws of traits cite.
pub mod OrderLaws
pub mod RenamingLaws
pub mod SizeLaws
