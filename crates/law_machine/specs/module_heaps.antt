-- Which heaps calls on modules forget.
pub mod GivenUp
