-- The store that memory spells, for the functions that read it.
unfoldable pub use Rattle.rma.specs.Store.{store_of}
