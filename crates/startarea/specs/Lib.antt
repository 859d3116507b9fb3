pub mod StartArea
