pub mod EntryLine
pub mod Laws
