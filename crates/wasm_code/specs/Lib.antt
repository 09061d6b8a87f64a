pub mod Bytes
pub mod Opcode
pub mod Instructions
pub mod ScratchStack
pub mod Inside
pub mod Number
pub mod Parts
