-- Views of the writer of lists.
pub mod Listing
