-- The definitions of finding the first URI of a message: URI records, and Smart Poster records, whose payload is a message again. Read
-- them in this order. `Claims` has the theorems about them.
pub mod Records
pub mod Uris
pub mod First
pub mod PublicContracts
pub mod Specimens
pub mod Claims
pub mod Views
