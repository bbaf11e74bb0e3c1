pub mod Moments
pub mod CallLaws
pub mod RecordLaws
pub mod ShutLaws
