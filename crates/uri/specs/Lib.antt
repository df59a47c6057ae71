-- The definitions of the URI record: the abbreviations, and a URI from and to a record's payload. Read them in this order. `Claims` has
-- the theorems about them.
pub mod Prefixes
pub mod Payload
pub mod PublicContracts
pub mod Specimens
pub mod Claims
