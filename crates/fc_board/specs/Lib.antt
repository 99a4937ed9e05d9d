-- Games, boards, passages, moves, and lists of moves that are played, in the order in which they are read.
pub mod Boards
pub mod Games
pub mod Moves
pub mod Passages
pub mod Play
pub mod Steps
pub mod inside
pub mod laws
