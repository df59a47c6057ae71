-- Views of the list of a Type 3 tag: the message's blocks, and the list as its code lays it.
pub mod Blocks
pub mod Listing
pub mod Laid
