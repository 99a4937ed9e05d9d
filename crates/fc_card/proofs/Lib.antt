pub mod BitsLemmas
pub mod CardSetLemmas
pub mod CodeLemmas
pub mod LaneLemmas
pub mod Letters
pub mod OrderLemmas
pub mod PermutationLemmas
