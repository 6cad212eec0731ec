pub mod Fastq
pub mod Steps
pub mod Laws
pub mod Passing
pub mod RecordLaws
pub mod Parts
pub mod Leading
pub mod Examples
