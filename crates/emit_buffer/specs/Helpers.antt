-- The functions that each module has before its own.
use Rattle.std.specs.Prelude.{ℕ}
use Rattle.def_scheme.specs.Coded.{put, stop, copy, fill, check, quotient, remainder}
use Rattle.emit_buffer.specs.declared.helper.Helper.{Helper}
use Rattle.emit_buffer.specs.declared.helper.Helper.TheVariants.{Put, Stop, Copy, Fill, Check, Quotient, Remainder}

abbrev pub index_of : Helper → ℕ
index_of Put = put
index_of Stop = stop
index_of Copy = copy
index_of Fill = fill
index_of Check = check
index_of Quotient = quotient
index_of Remainder = remainder
