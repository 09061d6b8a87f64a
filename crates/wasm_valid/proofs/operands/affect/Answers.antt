use Rattle.std.proofs.Common.{◌≡◌, ◌++◌, ◌∷◌, [], sym, ap, ◌∙◌}
use Rattle.wasm_tree.specs.declared.kinds.ValueType.TheVariants.{I32}
use Rattle.wasm_tree.specs.Validity.{result_types}
use Rattle.wasm_valid.specs.Typing.{Exchanges, change_of}
use Rattle.wasm_valid.proofs.Stacks.{affects}
use Rattle.wasm_valid.proofs.operands.affect.Goals as goal

pub returns-in-Takes : goal.returns-in-Takes
returns-in-Takes c =
    affects c.exchange_few.result (result_types c.in-Takes.first ++ result_types c.in-Takes.second)
    (result_types c.in-Takes.given) (change_of c.args.effect) c.args.operands.now c.exchange_few.new.operands
    (ap change_of (sym c.in-Takes.is)) c.exchange_few.ensures

pub returns-in-Calls : goal.returns-in-Calls
returns-in-Calls c =
    let same : Exchanges c.as_slice.result.now c.as_slice-in-Calls.result.now
    ≡ Exchanges c.in-Calls.t.now.params c.in-Calls.t.now.results = cc in
    affects c.exchange.result _ _ (change_of c.args.effect) c.args.operands.now c.exchange.new.operands
    (same ∙ ap change_of (sym c.in-Calls.is)) c.exchange.ensures

pub returns-in-CallsSlot : goal.returns-in-CallsSlot
returns-in-CallsSlot c =
    let same : Exchanges (c.as_slice-in-CallsSlot.result.now ++ I32 ∷ []) c.as_slice-in-CallsSlot-2.result.now
    ≡ Exchanges (c.in-CallsSlot.t.now.params ++ I32 ∷ []) c.in-CallsSlot.t.now.results = cc in
    affects c.exchange-in-CallsSlot.result _ _ (change_of c.args.effect) c.args.operands.now
    c.exchange-in-CallsSlot.new.operands (same ∙ ap change_of (sym c.in-CallsSlot.is))
    c.exchange-in-CallsSlot.ensures
