use Rattle.std.proofs.Common.{◌≡◌, w64, to_z, of_z, rules}
use Rattle.plain_store.proofs.Stores.{ok_assigned}
use Rattle.plain_store.proofs.variables.assign_number.Goals as goal

pub returns : goal.returns
returns c =
    let v : to_z w64 (of_z w64 c.args.v) ≡ c.args.v = search rules in
    ok_assigned c.args.to.now c.args.v (to_z w64 (of_z w64 c.args.v)) c.args.store c.put.result v c.put.ensures
