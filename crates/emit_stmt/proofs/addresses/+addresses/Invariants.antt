use Rattle.std.proofs.Common.{◌≡◌, ◌+◌, drop}
use Rattle.std.specs.Prelude.{map}
use Rattle.def_scheme.specs.Addresses.{total, addresses_armed, addresses_in}
use Rattle.emit_stmt.proofs.addresses.+addresses.Given as goal

abbrev pub invariant-addresses_in-loop-stmt : goal.invariant-addresses_in-loop-stmt
invariant-addresses_in-loop-stmt l = l.all + addresses_in (drop l.stmt-index l.stmts) ≡ addresses_in l.stmts

abbrev pub invariant-arms_addresses-loop-arm : goal.invariant-arms_addresses-loop-arm
invariant-arms_addresses-loop-arm l = l.all + total (map addresses_armed (drop l.arm-index l.arms))
    ≡ total (map addresses_armed l.arms)
