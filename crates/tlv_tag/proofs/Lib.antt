-- Laws about the definitions of `tlv_tag`, and what the code needs of them. Nothing here states a rule.
pub mod Field
pub mod Tag
pub mod Writes
pub mod Shown
pub mod Refusals
pub mod Planning
pub mod TlvBytes
pub mod Keeping
pub mod Fitting
pub mod Reading
pub mod Preparing
