-- Collections: what a run reads and writes at most, their records and groups, and what a run of each kind promises, in the order in which they are read.
pub mod Closed
pub mod GroupKeys
pub mod Groups
pub mod Limits
pub mod Pieces
pub mod Promises
pub mod Records
pub mod Runs
pub mod Streams
pub mod inside
