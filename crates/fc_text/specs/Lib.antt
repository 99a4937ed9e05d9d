-- Boards and moves as text, and the lines and words of a text, in the order in which they are read.
pub mod Bytes
pub mod Faults
pub mod Left
pub mod Lines
pub mod Notation
pub mod Printed
pub mod Readings
pub mod Rows
pub mod Spelling
pub mod reader
pub mod writer
