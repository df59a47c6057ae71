-- The writer of lists whose commands store one block each: what it writes.
pub mod Views
