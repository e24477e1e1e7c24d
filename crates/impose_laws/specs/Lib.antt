pub mod TaskForms
pub mod Laws
