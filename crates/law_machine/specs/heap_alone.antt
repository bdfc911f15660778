-- A guest's heap in a whole machine. Begin with Moves, then Laws.
pub mod AreaByteLaws
pub mod ByteLaws
pub mod FoundLaws
pub mod Laws
pub mod ModuleLaws
pub mod ModuleMoves
pub mod Moves
pub mod Storing
