pub mod ColumnLemmas
pub mod DealtLemmas
pub mod ShuffleLemmas
