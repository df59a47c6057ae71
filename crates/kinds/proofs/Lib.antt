-- What holds of every kind, reading without a gathering buffer, and space on a Type 2 tag.
pub mod EachKind
pub mod Plain
pub mod Preparing
