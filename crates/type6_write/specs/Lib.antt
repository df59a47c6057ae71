-- The writer of Type 6 tags: what it writes, and what its functions ask of each other.
pub mod Views
