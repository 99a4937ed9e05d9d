pub mod ClosedLemmas
pub mod FlawLemmas
pub mod KeysLemmas
pub mod OrderLemmas
pub mod OutLemmas
pub mod SearchLemmas
