pub mod PassOn
