-- Views of the writer of Type 2 tags: what it writes.
pub mod Listing
