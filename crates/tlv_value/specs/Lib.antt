-- The code's values as the definitions have them. No rule is stated here.
pub mod Views
