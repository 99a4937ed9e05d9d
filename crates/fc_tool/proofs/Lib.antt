pub mod CommandLines
pub mod NoteLemmas
pub mod RequestLemmas
pub mod WordLemmas
