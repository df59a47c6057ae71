-- What the judge's functions require of each other.
pub mod Views
