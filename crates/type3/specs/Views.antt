-- Views of the code of Type 3 tags.
pub mod AttributeInformation
pub mod Space
pub mod Kept
