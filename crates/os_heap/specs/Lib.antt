-- What the heap calls do to memory. Begin with Calls and Store.
pub use Rattle.os_heap_words.specs.AddressMap
pub use Rattle.os_heap_words.specs.BlockMove
pub use Rattle.os_heap_words.specs.Bytes
pub use Rattle.os_heap_words.specs.Class
pub use Rattle.os_heap_words.specs.Classes
pub use Rattle.os_heap_words.specs.Counts
pub use Rattle.os_heap_words.specs.Item
pub use Rattle.os_heap_words.specs.Items
pub use Rattle.os_heap_words.specs.Kind
pub use Rattle.os_heap_words.specs.Memory
pub use Rattle.os_heap_words.specs.Moves
pub use Rattle.os_heap_words.specs.Outcomes
pub use Rattle.os_heap_words.specs.Records
pub use Rattle.os_heap_words.specs.Region
pub use Rattle.os_heap_words.specs.lists
pub use Rattle.os_heap_words.specs.lists.Counts as OsHeapWordsCounts
pub use Rattle.os_heap_words.specs.lists.Heap
pub use Rattle.os_heap_words.specs.lists.Lists as OsHeapWordsLists
pub use Rattle.os_heap_words.specs.lists.Marks
pub use Rattle.os_heap_words.specs.lists.Words
pub mod Bars
pub mod Calls
pub mod Forgetting
pub mod GuestBlocks
pub mod Laws
pub mod Nesting
pub mod Order
pub mod Payloads
pub mod Probes
pub mod Ranges
pub mod Room
pub mod Sound
pub mod Store
