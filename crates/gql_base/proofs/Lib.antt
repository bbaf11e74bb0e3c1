pub mod Lists
pub mod LexicalLaws
pub mod WayLaws
pub mod PartLaws
pub mod PrintingLaws
pub mod NameLaws
