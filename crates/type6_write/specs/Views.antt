-- Views of the writer of Type 6 tags.
pub mod Listing
