-- Views of the code over a tag with a TLV area.
pub mod Space
pub mod BlankArea
pub mod Reading
pub mod Update
pub mod Kept
