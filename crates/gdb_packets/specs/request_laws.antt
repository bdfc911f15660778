-- Which texts ask GDB's requests, stated without a reader. Begin with Grammar.
pub mod Grammar
pub mod Laws
