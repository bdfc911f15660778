-- Where the words of a page lie in the store.
pub mod FetchPages
