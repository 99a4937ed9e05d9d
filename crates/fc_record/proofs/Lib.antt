pub mod ContentsLemmas
pub mod HeadingLemmas
pub mod LineLemmas
pub mod ObjectLemmas
pub mod PrintedListLemmas
pub mod PrintedPartLemmas
pub mod TextLineLemmas
