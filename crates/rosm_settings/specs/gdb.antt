-- What the words of `rosm_gdb` ask for, what its machine begins with, and why it ends early.
pub mod Endings
pub mod Options
pub mod ServeErrors
pub mod Start
