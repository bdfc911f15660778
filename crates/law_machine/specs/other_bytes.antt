-- Which bytes calls and steps write: every other byte stays. Begin with HeapWrites and AreaWrites,
-- then MoveWrites.
pub mod ActionWrites
pub mod AreaWrites
pub mod FlexWrites
pub mod HeapWrites
pub mod MoveWrites
pub mod PageWrites
