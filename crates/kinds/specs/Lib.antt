-- What a type of tag as a value means in the definitions. The structs of this crate need none: their ghost fields and the trait say it.
pub mod Views
