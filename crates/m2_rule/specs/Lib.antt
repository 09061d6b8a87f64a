pub mod Breaches
pub mod FaultNumber
pub mod RuleNumber
