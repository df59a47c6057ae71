-- Laws that the model of Type 3 tags needs. Nothing here states a rule.
pub mod Storing
pub mod Modelling
