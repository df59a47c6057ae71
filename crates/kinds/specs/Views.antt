-- Views of a type of tag as a value.
pub mod Types
