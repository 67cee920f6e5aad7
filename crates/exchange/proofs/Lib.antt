pub mod Alerting
pub mod Saying
pub mod Telling
