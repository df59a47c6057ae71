-- The list of write commands for a Type 3 tag: what its code lays.
pub mod Views
