pub mod TableLaws
pub mod RowLaws
pub mod NameLaws
pub mod RebuildLaws
