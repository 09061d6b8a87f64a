pub mod MovedStatements
pub mod Laws
