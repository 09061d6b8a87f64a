pub mod Making
