pub mod BoardExamples
pub mod CanonicalExamples
pub mod ClosedExamples
pub mod CollectionExamples
pub mod DealExamples
pub mod Findings
pub mod Listings
pub mod TextExamples
