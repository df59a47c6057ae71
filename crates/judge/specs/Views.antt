-- Views of the judge. They state what its functions require of each other.
pub mod Steps
