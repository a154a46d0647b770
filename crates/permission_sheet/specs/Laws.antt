pub mod End
pub mod Rows
pub mod ItemRows
pub mod ItemsRead
pub mod Misplaced
pub mod Noted
