pub mod Laws
pub mod StoreLaws
