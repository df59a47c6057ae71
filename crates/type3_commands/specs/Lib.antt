-- The contracts of Type 3's codec as relations. The definitions of the command are those of `type3`.
pub mod CodecContracts
pub mod Views
