pub mod Whole
pub mod Loop
pub mod LawsKinds
pub mod LawsBinary
pub mod LawsModule
