pub mod HeadlineLaws
pub mod ScriptsPerformed
mod WorkedRows
