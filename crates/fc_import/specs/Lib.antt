-- What the import of boards and lists is: the words and labels of lines, what a text is imported as, and notes.
pub mod Names
pub mod Scan
pub mod Seen
pub mod Labels
pub mod Words
pub mod Notes
pub mod Strips
pub mod Import
pub mod inside
