pub mod PutLaws
pub mod LinkLaws
pub mod RowLaws
pub mod SagaLaws
pub mod TextLaws
