-- A heap as a list of items, and the words that spell it. Begin with Lists, then Heap.
pub mod Counts
pub mod Heap
pub mod Laws
pub mod Lists
pub mod Marks
pub mod Walks
pub mod Words
