-- Lists of moves on a machine, and on two. Begin with Making.
pub mod Calls
pub mod Making
pub mod Moves
pub mod Pairs
