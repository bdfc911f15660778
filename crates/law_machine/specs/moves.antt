-- Lists of moves of a machine. Begin with Laws.
pub mod Laws
