-- Writing records: views of the code. The definitions are in crates/ndef.
pub mod Views
