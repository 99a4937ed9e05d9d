-- What a record says, and what is printed for it, in the order in which they are read.
pub mod Grammar
pub mod Printing
pub mod RecordTexts
pub mod Tables
pub mod inside
