-- Views of the model of Type 3 tags.
pub mod Model
