use Rattle.wasm_code.proofs.number.+signed_at.Given as goal

abbrev pub decreases-signed_at : goal.decreases-signed_at
decreases-signed_at l = l.most
