-- The definitions of NDEF records: reading a message as a list of records, and writing a list in the shortest form. Read them in this
-- order. `Claims` has the theorems about them.
pub mod Record
pub mod Header
pub mod Message
pub mod Places
pub mod Shortest
pub mod Writing
pub mod PublicContracts
pub mod Specimens
pub mod Claims
pub mod Views
