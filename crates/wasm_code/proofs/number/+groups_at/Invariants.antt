use Rattle.wasm_code.proofs.number.+groups_at.Given as goal

abbrev pub decreases-groups_at : goal.decreases-groups_at
decreases-groups_at l = l.most
