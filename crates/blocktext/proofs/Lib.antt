pub mod Text
pub mod RecordBytes
