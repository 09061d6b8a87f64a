use Rattle.wasm_code.proofs.Utf8.{test_gives}
use Rattle.wasm_code.proofs.name.is_utf8.Goals as goal

pub returns : goal.returns
returns c = test_gives _ _ c.args.text.now c.from_utf8.result c.from_utf8.ensures.cases _ c.is_ok.ensures.value
