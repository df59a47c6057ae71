-- The tag as the code models it. The definition of the model is that of `tag`.
pub mod Views
