-- The numbers by which broken rules are reported.
use Rattle.std.specs.Prelude.{ℕ, Bool, true, false}
use Rattle.m2_rule.specs.declared.rule.Rule.{Rule}
use Rattle.m2_rule.specs.declared.rule.Rule.TheVariants.{MissingModule, SecondFile, Cycle, ProgramCount, LonelyModule, FileCount, Undeclared, Ahead, DeclaredTwice, NotExported, NoType, NoConstant, EmptyRange, NoIndex, ConstantCount, LargeType, WrongType, NotAssignable, ArgumentCount, WrongArgument, NoVariable, LonelyExit, WrongReturn, WrongControl, ZeroStep, WrongLabel, OtherHeading, MissingProcedure, OutOfRange, NoProcedureValue, LargeStorage, LargeProgram}

abbrev pub number_of : Rule → ℕ
number_of MissingModule = 20
number_of SecondFile = 21
number_of Cycle = 22
number_of ProgramCount = 23
number_of LonelyModule = 24
number_of FileCount = 25
number_of Undeclared = 30
number_of Ahead = 30
number_of DeclaredTwice = 31
number_of NotExported = 32
number_of NoType = 33
number_of NoConstant = 34
number_of EmptyRange = 35
number_of NoIndex = 36
number_of ConstantCount = 37
number_of LargeType = 38
number_of WrongType = 40
number_of NotAssignable = 41
number_of ArgumentCount = 42
number_of WrongArgument = 43
number_of NoVariable = 44
number_of LonelyExit = 45
number_of WrongReturn = 46
number_of WrongControl = 47
number_of ZeroStep = 48
number_of WrongLabel = 49
number_of OtherHeading = 50
number_of MissingProcedure = 51
number_of OutOfRange = 52
number_of NoProcedureValue = 53
number_of LargeStorage = 60
number_of LargeProgram = 61

-- It is reported only if nothing else is.
abbrev pub is_last : Rule → Bool
is_last Ahead = true
is_last other = false
