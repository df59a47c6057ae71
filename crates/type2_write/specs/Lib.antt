-- The writer of Type 2 tags: what it writes.
pub mod Views
