pub mod Forms
pub mod Window
pub mod Laws
pub mod Known
pub mod Found
