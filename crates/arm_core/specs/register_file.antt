-- A register file of which some registers have changed places with others: the places, and that exchanging twice gives the file back, on
-- which the model of the core stands.
pub mod Banks
pub mod Exchanging
pub mod Places
